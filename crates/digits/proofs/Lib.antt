pub mod DigitLaws
pub mod OneReply

pub mod OneReply
pub mod SixLaws

pub mod OneReply
pub mod WordLaws

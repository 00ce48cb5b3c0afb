pub mod OneReply
pub mod SessionWordLaws

pub mod LineLaws
pub mod OneReply

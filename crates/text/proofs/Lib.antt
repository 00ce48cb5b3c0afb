pub mod Lines
pub mod OneReply

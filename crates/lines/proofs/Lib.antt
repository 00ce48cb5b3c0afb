pub mod Applying
pub mod OneReply

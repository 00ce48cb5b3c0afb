pub mod Agreeing
pub mod OneReply

pub mod OneReply
pub mod Passing
pub mod Values

pub mod Running
pub mod Telling
pub mod Kept
pub mod OneReply
pub mod Values

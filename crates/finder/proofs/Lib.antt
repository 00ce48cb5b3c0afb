pub mod Finding
pub mod OnePart
pub mod OneReply
pub mod Values

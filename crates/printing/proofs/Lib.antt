pub mod Writing
pub mod Printing
pub mod Decimal
pub mod OneReply

pub mod Heads
pub mod Kinds

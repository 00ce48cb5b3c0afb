pub mod Merged
pub mod Smallest

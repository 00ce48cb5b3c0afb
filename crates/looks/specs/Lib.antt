pub mod Applied
pub mod Words

pub mod AgainLaws
pub mod Trade

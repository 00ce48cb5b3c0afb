pub mod ChainLaws
pub mod KeptLaws

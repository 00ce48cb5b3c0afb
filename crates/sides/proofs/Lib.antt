pub mod KeptLaws
pub mod RowsLaws
pub mod SideLaws

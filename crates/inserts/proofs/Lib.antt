pub mod SortLaws
pub mod InsertLaws

pub mod EntryLaws
pub mod LeastLaws
pub mod RaiseLaws

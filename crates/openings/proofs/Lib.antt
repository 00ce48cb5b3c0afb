pub mod LogLaws
pub mod OwnLaws

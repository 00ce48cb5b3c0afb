pub mod InPlace
pub mod LayLaws
pub mod LowerLaws
pub mod MergeLaws
pub mod RaiseLaws

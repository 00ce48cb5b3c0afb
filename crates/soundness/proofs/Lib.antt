pub mod OneReply
pub mod ScanLaws

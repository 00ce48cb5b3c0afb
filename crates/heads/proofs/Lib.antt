pub mod CheckLaws
pub mod FieldLaws
pub mod HeadLaws
pub mod OneReply
pub mod QuickLaws
pub mod SaidLaws
pub mod KindLaws

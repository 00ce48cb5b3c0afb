pub mod EntryLaws
pub mod OneReply

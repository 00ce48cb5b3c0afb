pub mod NumberLaws
pub mod OneReply

pub mod ActionLaws
pub mod OneReply

pub mod OneReply
pub mod TurnLaws

pub mod FaultLaws
pub mod OneReply

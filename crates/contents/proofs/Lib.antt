pub mod ContentLaws
pub mod OneReply

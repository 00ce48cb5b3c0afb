pub mod OneReply
pub mod WriteLaws

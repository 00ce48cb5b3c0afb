pub mod OneReply
pub mod SessionLineLaws

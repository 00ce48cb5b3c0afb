pub mod OneReply
pub mod StepLineLaws

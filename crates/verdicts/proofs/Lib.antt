pub mod ArmRules
pub mod OneReply
pub mod CountLaws
pub mod NoteLaws

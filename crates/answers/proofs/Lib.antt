pub mod OneReply
pub mod ValueLaws
pub mod ToldNumbers

pub mod CountReplies
pub mod FrameReplies
pub mod FreshLaws
pub mod LineReplies
pub mod ReplayReplies
pub mod TableReplies

pub mod EndLaws
pub mod VerdictLaws
pub mod AxisLaws
pub mod RestLaws
pub mod RestAgrees
pub mod LimitLaws

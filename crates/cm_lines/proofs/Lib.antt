-- Lemmas of this crate, by topic.
pub mod Lengths
pub mod FirstLine
pub mod PastLimits
pub mod FirstCut

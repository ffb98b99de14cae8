-- Lemmas of this crate, by topic.
pub mod Indexes
pub mod Paths
pub mod Faultless

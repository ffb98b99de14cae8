-- Lemmas of this crate, by topic.
pub mod Fours
pub mod Members
pub mod Paths
pub mod Ranged

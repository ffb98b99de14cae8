-- Lemmas of this crate, by topic.
pub mod Ascending
pub mod RunLines
pub mod Sames
pub mod Endings

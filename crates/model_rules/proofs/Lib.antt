-- Lemmas of this crate, by topic.
pub mod Downs
pub mod Options
pub mod Ranges
pub mod Spaces

-- Lemmas of this crate, by topic.
pub mod AmbientKept
pub mod NoGroup

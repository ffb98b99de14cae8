-- Lemmas of this crate, by topic.
pub mod LeftAfter
pub mod Counted
pub mod Known
pub mod ToldEvents

-- Lemmas on sets, by topic.
pub mod Members

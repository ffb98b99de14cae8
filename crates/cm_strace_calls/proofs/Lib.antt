-- Lemmas of this crate, by topic.
pub mod FirstBytes
pub mod Fronts
pub mod IdCalls
pub mod NumberCalls
pub mod Readers
pub mod Texts

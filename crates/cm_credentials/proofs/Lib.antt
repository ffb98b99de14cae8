-- Lemmas of this crate, by topic.
pub mod Decimals
pub mod Ends
pub mod GroupText
pub mod LineText
pub mod Slots
pub mod TailText
pub mod Texts

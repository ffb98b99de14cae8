-- Lemmas of this crate, by topic.
pub mod CapTexts
pub mod Cuts
pub mod FirstToken
pub mod HexDigits
pub mod Options

-- Lemmas of this crate, by topic.
pub mod HexDigits
pub mod Items
pub mod PathNames
pub mod Singles

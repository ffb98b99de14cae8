-- The lemmas of this crate.
pub mod Bits
pub mod Names
pub mod Excluded

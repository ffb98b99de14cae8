-- Lemmas of this crate, by topic.
pub mod Items
pub mod Telling
pub mod CapNumbers
pub mod Outcomes
pub mod CallNames
pub mod OwnNumbers
pub mod OwnArguments
pub mod OwnWords
pub mod Putting
pub mod OwnHex
pub mod OwnLines

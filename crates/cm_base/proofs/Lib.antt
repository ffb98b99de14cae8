-- The laws of sets of capabilities, which later proofs cite, and the lemmas that this crate's functions stand on.
pub mod CapSets
pub mod Lengths
pub mod Tables
pub mod Texts
pub mod Words

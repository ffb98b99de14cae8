-- The words of the contracts on sets.
pub mod Sets
pub mod Decided

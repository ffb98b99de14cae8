-- The definitions that this crate's contracts, and all crates above it, cite.
pub mod CapSet
pub mod Faults
pub mod Laws
pub mod Limited
pub mod Limits
pub mod Names
pub mod Number
pub mod Outcome
pub mod Statuses

-- The words of the contracts on one row of bounds.
pub mod Rows
pub mod Kinds
pub mod Members
pub mod Programs
pub mod Rights
pub mod Spread

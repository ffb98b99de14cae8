-- The words of the contracts on sets of ids.
pub mod Cover
pub mod Held
pub mod Image
pub mod Laws
pub mod Order
pub mod Pairs
pub mod Size

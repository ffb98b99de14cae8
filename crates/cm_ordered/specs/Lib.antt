-- The words of the contracts on lists that ascend.
pub mod Order
pub mod Undone

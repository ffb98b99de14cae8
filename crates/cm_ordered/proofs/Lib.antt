-- Lemmas of lists that ascend, by topic.
pub mod Order
pub mod Parted
pub mod Puts
pub mod Among
pub mod Undoing

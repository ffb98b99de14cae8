-- Lemmas of this crate, by topic.
pub mod Orders
pub mod Among
pub mod Lists
pub mod ListOrders
pub mod Counts
pub mod Slots
pub mod Noted
pub mod Bare
pub mod Saved
pub mod LeftAt

pub mod Texts
pub mod Items
pub mod RowLists
pub mod Orders
pub mod Counts

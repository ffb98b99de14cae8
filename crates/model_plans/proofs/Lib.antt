-- The laws of plans. First lists and the first answers over them; then what a move's call changes, and the walk on a seat;
-- then holders, what is found, and what may be left out. Worked cases stand apart.
pub mod Lists
pub mod Calls
pub mod Walks
pub mod Others
pub mod Holders
pub mod Laters
pub mod Finds
pub mod Shared
pub mod Nested
pub mod Skips
pub mod Isolated
pub mod Owners
pub mod Raises
pub mod Becomes
pub mod Cases
pub mod ListCases

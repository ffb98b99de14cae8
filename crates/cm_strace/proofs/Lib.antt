-- Lemmas of this crate, by topic.
pub mod Resumed
pub mod HeldLines
pub mod Released
pub mod Concluded
pub mod Quiet
pub mod Idle
pub mod Taken
pub mod Retained
pub mod Dues
pub mod Sessions
pub mod Unchanged
pub mod Ended

-- Lemmas of this crate, by topic.
pub mod Held
pub mod Shown
pub mod Events
pub mod Standing
pub mod StartLines
pub mod Ready
pub mod Pieces
pub mod Told
pub mod Ending
pub mod Lines
pub mod Stopping

-- Lemmas on the sweep in code, and on rows that grow.
pub mod Turns
pub mod Stops
pub mod Widenings
pub mod Tries
pub mod Runs
pub mod Looks
pub mod OneList

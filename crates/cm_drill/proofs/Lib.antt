-- Lemmas of the drill's code.
pub mod Turning
pub mod Counting
pub mod Ending

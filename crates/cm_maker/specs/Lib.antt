-- The words of the contracts on the sweep, and on rows that grow.
pub mod Sweeping
pub mod Widening
pub mod Running
pub mod Bodies
pub mod Bounded

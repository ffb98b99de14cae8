-- The laws of runs that are put forward.
pub mod LeastHolders
pub mod Passing
pub mod Confirms

-- What is left of a log, what is told of its lines, and what it counts.
pub mod Left
pub mod Counts

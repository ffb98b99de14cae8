-- The proofs of the laws, and worked cases.
pub mod Cases
pub mod Counts
pub mod Sizes
pub mod Answers
pub mod Callers
pub mod Calls
pub mod Turns
pub mod Ends
pub mod ReadsBack

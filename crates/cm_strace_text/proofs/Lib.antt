-- Lemmas of this crate, by topic.
pub mod Cuts
pub mod MarkPlaces
pub mod NameEnds
pub mod PidDigits
pub mod QuoteEnds
pub mod QuoteSteps
pub mod Rows
pub mod Runs
pub mod SignSteps
pub mod Stops
pub mod Unmarked
pub mod Words

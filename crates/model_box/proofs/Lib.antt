-- The laws of bounds. First what the rules read; then chains of spaces, and what each change of the spaces keeps; then
-- what each call keeps of one credential; then steps, runs, and what they never reach.
pub mod Numbers
pub mod Views
pub mod Monotone
pub mod Trees
pub mod Fits
pub mod Joins
pub mod Making
pub mod Writing
pub mod MapWrites
pub mod Ids
pub mod Rows
pub mod Calls
pub mod Execs
pub mod Processes
pub mod Steps
pub mod Partings
pub mod Runs
pub mod Grows
pub mod Filtered
pub mod Excludes
pub mod Starts
pub mod Readers
pub mod Worlds
pub mod Worked
pub mod Stated

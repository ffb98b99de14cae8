-- The drill: events made from a number, one after another, on one machine.
pub mod DrillWorld
pub mod Draws
pub mod Rows
pub mod Drill
pub mod Laws

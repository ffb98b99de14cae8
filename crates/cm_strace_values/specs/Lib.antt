-- What the code's values are in the words of the definitions.
pub mod Outcomes
pub mod Hex
pub mod Structures
pub mod Paths
pub mod Tables

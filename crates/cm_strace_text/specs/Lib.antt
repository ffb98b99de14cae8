-- What the code's pieces of lines are in the words of the definitions.
pub mod Lines
pub mod Places
pub mod Depths
pub mod Quotes

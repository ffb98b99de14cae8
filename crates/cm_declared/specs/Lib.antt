-- How the code's worlds show themselves as those of the definitions.
pub mod World

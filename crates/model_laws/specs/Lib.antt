-- The laws of the machine.
pub mod Powers
pub mod Steps
pub mod Runs
pub mod Families
pub mod Sentences
pub mod Writers
pub mod Owns

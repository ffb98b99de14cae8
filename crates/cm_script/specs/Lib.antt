-- What the reader of script lines answers, in the words of the definitions, and how it reads the arguments of a call.
pub mod Lines
pub mod Own
pub mod Paths
pub mod Steps

-- Which file is written, and what is asked before a call changes anything.
pub mod Answers
pub mod File

-- What the readers of tables and of a world answer, words on the parts of a row, and what holds of the worlds that are read.
pub mod Answers
pub mod RowChecks
pub mod Tables
pub mod Laws

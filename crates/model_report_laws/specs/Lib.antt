-- What is proved of the report.
pub mod Laws
pub mod Answers

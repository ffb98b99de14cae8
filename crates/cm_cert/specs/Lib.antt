-- What the readers of certificates answer.
pub mod Answers

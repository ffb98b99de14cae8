-- What is used of the report by the proofs of its laws and of the code that writes it.
pub mod StepFacts
pub mod Replays
pub mod Replayed
pub mod Answers
pub mod Texts

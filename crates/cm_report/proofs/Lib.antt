-- Lemmas of this crate, by topic.
pub mod ReportText
pub mod StepText
pub mod Waiting
pub mod Told

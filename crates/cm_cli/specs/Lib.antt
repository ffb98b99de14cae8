-- What the contracts of this crate cite beside the definitions.
pub mod Words
pub mod Query
pub mod Put
pub mod LogReport
pub mod Claims
pub mod Asking
pub mod Checking
pub mod Files
pub mod LogReading
pub mod Reading
pub mod BeforeFault
pub mod Drilling
pub mod Answers
pub mod Carried
pub mod Headline

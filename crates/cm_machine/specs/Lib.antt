-- What the machine's calls come to, and what holds of the state that it begins with.
pub mod Asking
pub mod Outcomes
pub mod Marks
pub mod Laws
pub use Rattle.model_run.specs.Step
pub use Rattle.model_run.specs.Ruling
pub use Rattle.model_run.specs.Family

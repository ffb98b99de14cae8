-- What this crate's contracts are stated by, beside the definitions of model_strace.
pub mod Lists
pub mod Slots
pub mod InOrder
pub mod Savepoints
pub use Rattle.model_strace.specs.Parts
pub use Rattle.model_strace.specs.Files

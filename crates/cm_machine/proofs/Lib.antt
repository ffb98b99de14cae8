-- Lemmas of this crate, by topic.
pub mod Groups
pub mod Handing
pub mod Changing
pub mod FreePids
pub mod Asking
pub mod Leaving
pub mod Families
pub mod Errors
pub mod Chains
pub mod ChildPids
pub mod Filtering
pub mod Sharing

-- Lemmas of this crate, by topic.
pub mod Checks
pub mod FilesMore
pub mod Keeping
pub mod Rows
pub mod TableWorld
pub mod SpacesMore
pub mod Telling
pub mod Texts
pub mod Unknown

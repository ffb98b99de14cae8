-- Lemmas of this crate, by topic.
pub mod Climbs
pub mod IdSets
pub mod Outsides
pub mod Places
pub mod SpacePlaces
pub mod SpaceWrites

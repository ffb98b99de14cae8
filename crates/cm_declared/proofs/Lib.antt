-- Lemmas of this crate, by topic.
pub mod FirstPlaces
pub mod SpaceNames

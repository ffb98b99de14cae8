-- Lemmas on sets of ids, by topic.
pub mod Covering
pub mod Elements
pub mod Growth
pub mod Halves
pub mod Images
pub mod Meanings
pub mod Merging
pub mod Rests
pub mod Sizes
pub mod Sorted
pub mod Walks

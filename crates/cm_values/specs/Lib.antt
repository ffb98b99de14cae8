-- The keys of the code as those of the definitions, what the readers of rows and of their values answer, and words on id maps.
pub mod Keys
pub mod Answers
pub mod MountMaps

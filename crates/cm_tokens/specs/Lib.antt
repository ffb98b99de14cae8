-- The word for what writers do to a text.
pub mod Pieces

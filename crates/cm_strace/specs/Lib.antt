-- The code's types of a session as those of the definitions.
pub mod Answers
pub mod Deeds
pub mod Given
pub mod Shapes
pub mod Works
pub mod Stages
pub mod Taken
pub mod Queues
pub mod Births
pub mod Elsewhere

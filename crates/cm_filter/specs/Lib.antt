-- What the definitions say of kinds of calls, and of filters of them.
pub mod Kinds
pub mod Shapes
pub mod Filters

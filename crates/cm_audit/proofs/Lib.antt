-- What a verdict says, clause by clause; and that it rests on the family alone.
pub mod Clauses
pub mod Isolated

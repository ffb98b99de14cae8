-- Lemmas of these definitions, by topic.
pub mod AttributeCases
pub mod Chains
pub mod IdSets
pub mod Intervals
pub mod Lookups
pub mod Orders
pub mod Spaces
pub mod Trees
pub mod Finds

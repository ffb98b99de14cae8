-- Bounds of what the members of a family can hold, the rules by which bounds are closed, and what closed bounds exclude.
pub mod Row
pub mod Bounds
pub mod Rule
pub mod RuleNames
pub mod Gains
pub mod Files
pub mod Spread
pub mod Closed
pub mod Covers
pub mod Encloses
pub mod Meets
pub mod Start
pub mod Firsts
pub mod Laws
pub mod Parting
pub mod Reads
pub mod Example

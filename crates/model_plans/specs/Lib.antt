-- Plans: short lists of calls that a member of a family may make, in one fixed order, and which of them ends with a
-- holder of a right.
pub mod Move
pub mod Plan
pub mod PlanRun
pub mod Walk
pub mod Changes
pub mod Effects
pub mod Firsts
pub mod Shortcuts
pub mod Sought

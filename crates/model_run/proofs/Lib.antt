-- Worked cases of the machine: what the definitions give, computed, against what the manual pages say.
pub mod Filters
pub mod Worlds
pub mod Runs
pub mod SetIdCases
pub mod CapabilityCases
pub mod ExecCases
pub mod NamespaceCases
pub mod MapCases
pub mod FileCases
pub mod FamilyCases
pub mod ImpossibleCases
pub mod OutsideCases
pub mod FilterCases

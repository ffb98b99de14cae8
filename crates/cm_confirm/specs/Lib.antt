-- What the contracts on the check of a run cite beside the definitions.
pub mod Confirmed
pub mod Lines
pub mod Members

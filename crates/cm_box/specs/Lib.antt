-- The words of the contracts on bounds.
pub mod Places
pub mod Rules
pub mod Closing
pub mod Mapping
pub mod Meeting

pub mod Fault
pub mod Law

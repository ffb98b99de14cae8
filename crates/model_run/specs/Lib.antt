-- Steps and runs of the machine.
pub mod Same
pub mod Outside
pub mod Ruling
pub mod Step
pub mod Family
pub mod Own
pub mod Later
pub mod Within
pub mod Holds
pub mod Never

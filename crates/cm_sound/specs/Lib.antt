-- What a judged certificate says of the bounds, and of all later runs.
pub mod Judged
pub mod Never
pub mod Laws

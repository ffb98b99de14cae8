-- What an exact verdict says, before its code: the least bounds, what is blamed where they meet a right, families for
-- which a verdict is never open, and on what a verdict depends.
pub mod Least
pub mod Sweep
pub mod Rows
pub mod Blame
pub mod Back
pub mod Settled
pub mod Decides
pub mod Verdict
pub mod InWorld
pub mod Alike
pub mod More

-- What the lines of a run come to, and what is proved of that.
pub mod Confirm
pub mod Causes
pub mod Laws

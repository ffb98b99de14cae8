-- What the code reads of calls, in the words of the definitions.
pub mod Made
pub mod Names
pub mod Readers
pub mod Told

-- The code's verdicts in the words of the definitions, and what each kind says.
pub mod Told
pub mod Says
pub mod Laws

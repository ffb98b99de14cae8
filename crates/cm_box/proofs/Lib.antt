-- Lemmas on bounds, by topic.
pub mod CoverParts
pub mod MapRule
pub mod Meeting
pub mod MemberIds
pub mod Numbers
pub mod Openings
pub mod Rewriting
pub mod RowCopies
pub mod RowRules
pub mod Starting
pub mod WholeRules
pub mod Zeros

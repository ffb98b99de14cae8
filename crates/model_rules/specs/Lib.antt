-- The rules of the calls, by topic.
pub mod Answer
pub mod Caps
pub mod Securebits
pub mod Zero
pub mod Fixups
pub mod SetId
pub mod SetGroups
pub mod CapCalls
pub mod Power
pub mod FileView
pub mod Exec
pub mod Namespaces
pub mod Maps
pub mod Install
pub mod Reply

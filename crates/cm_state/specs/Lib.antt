-- How the code's types show themselves as those of the definitions.
pub mod Call
pub mod CallCode
pub mod Places
pub mod Right
pub use Rattle.model_cred.specs.IdMap
pub use Rattle.model_cred.specs.Credential
pub use Rattle.model_cred.specs.Space
pub use Rattle.model_cred.specs.Process
pub use Rattle.cm_base.specs.CapSet

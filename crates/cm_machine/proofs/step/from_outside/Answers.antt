use Rattle.std.proofs.Common.{◌≡◌, ℕ, ◌∙◌, refl}
use Rattle.cm_base.specs.declared.errno.Errno.{Errno}
use Rattle.cm_base.specs.declared.id.SpaceId.{SpaceId}
use Rattle.cm_base.specs.declared.res.FileRef.{FileRef}
use Rattle.cm_machine.proofs.step.from_outside.Goals as goal
use Rattle.cm_state.specs.Call.{call_of}
use Rattle.cm_state.specs.declared.call.Call.{Call}
use Rattle.cm_state.specs.declared.call.Call.TheVariants.{SetFsUid, SetFsGid, CloneUser, Unshare, SetNs, Exec, Exit}
use Rattle.model_run.specs.Outside.{is_common, is_outside_error}

-- each other call may answer the errors of most calls
others : (call : Call) (error : Errno) → ((f : ℕ) → call ≡ SetFsUid f → ⊥) → ((f : ℕ) → call ≡ SetFsGid f → ⊥) → (call ≡ CloneUser → ⊥) → (call ≡ Unshare → ⊥)
    → ((n : SpaceId) → call ≡ SetNs n → ⊥) → ((f : FileRef) → call ≡ Exec f → ⊥) → (call ≡ Exit → ⊥)
    → is_common error ≡ is_outside_error (call_of call) error
others (SetFsUid f) error a b c d e g h = absurd (a f refl)
others (SetFsGid f) error a b c d e g h = absurd (b f refl)
others CloneUser error a b c d e g h = absurd (c refl)
others Unshare error a b c d e g h = absurd (d refl)
others (SetNs n) error a b c d e g h = absurd (e n refl)
others (Exec f) error a b c d e g h = absurd (g f refl)
others Exit error a b c d e g h = absurd (h refl)
others call error a b c d e g h = refl

pub returns-in_default-call : goal.returns-in_default-call
returns-in_default-call c =
    rw c.in-Err.is (c.is_common_error.ensures
    ∙ others c.args.call.now c.in-Err.error c.in_default-call.not-SetFsUid c.in_default-call.not-SetFsGid c.in_default-call.not-CloneUser c.in_default-call.not-Unshare
    c.in_default-call.not-SetNs c.in_default-call.not-Exec c.in_default-call.not-Exit)

-- Calls after which nothing else is known.
use Rattle.std.proofs.Common.{◌≡◌, ℕ, refl}
use Rattle.cm_base.specs.declared.errno.Errno.{Errno}
use Rattle.cm_base.specs.declared.id.SpaceId.{SpaceId}
use Rattle.cm_base.specs.declared.res.FileRef.{FileRef}
use Rattle.cm_base.specs.declared.res.Res.TheVariants as res
use Rattle.cm_state.specs.Call.{call_of}
use Rattle.cm_state.specs.declared.call.Call.{Call}
use Rattle.cm_state.specs.declared.call.Call.TheVariants.{Unshare, SetNs, Exec}
use Rattle.model_strace.specs.Parts.{Parts}
use Rattle.model_strace.specs.Turn.{after_call}

-- one that isn't done
pub after_id : (pid : ℕ) (call : Call) (n : ℕ) (p : Parts) → after_call pid (call_of call) (res.Id n) p ≡ p
after_id pid Unshare n p = refl
after_id pid _ n p = refl

pub after_child : (pid : ℕ) (call : Call) (n : ℕ) (p : Parts) → after_call pid (call_of call) (res.Child n) p ≡ p
after_child pid Unshare n p = refl
after_child pid _ n p = refl

pub after_error : (pid : ℕ) (call : Call) (e : Errno) (p : Parts) → after_call pid (call_of call) (res.Err e) p ≡ p
after_error pid Unshare e p = refl
after_error pid _ e p = refl

-- one that neither leaves its user namespace nor closes descriptors
pub after_other : (pid : ℕ) (call : Call) (p : Parts) → (call ≡ Unshare → ⊥) → ((n : SpaceId) → call ≡ SetNs n → ⊥)
    → ((file : FileRef) → call ≡ Exec file → ⊥) → after_call pid (call_of call) res.Done p ≡ p
after_other pid Unshare p not_unshare not_setns not_exec = absurd (not_unshare refl)
after_other pid (SetNs n) p not_unshare not_setns not_exec = absurd (not_setns n refl)
after_other pid (Exec file) p not_unshare not_setns not_exec = absurd (not_exec file refl)
after_other pid _ p not_unshare not_setns not_exec = refl

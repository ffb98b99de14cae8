use Rattle.std.proofs.Common.{ℕ, ◌<◌, get_or}
use Rattle.model_cred.specs.Credential.{IsId}
use Rattle.cm_state.proofs.groups.see_ids.Given as goal

abbrev pub invariant-loop-id : goal.invariant-loop-id
invariant-loop-id l = (k : ℕ) (d : ℕ) → k < l.id-index → IsId (get_or l.list k d)

use Rattle.std.proofs.Common.{ℕ, ◌<◌, get_or}
use Rattle.model_cred.specs.Space.{Space, KeepsSpace}
use Rattle.cm_state.proofs.seeing.see_spaces.Given as goal

abbrev pub invariant-loop-s : goal.invariant-loop-s
invariant-loop-s l = (k : ℕ) (d : Space) → k < l.s-index → KeepsSpace (get_or l.list k d)

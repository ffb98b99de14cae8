use Rattle.std.proofs.Common.{ℕ, ◌<◌, get_or}
use Rattle.model_cred.specs.Credential.{Keeps}
use Rattle.model_cred.specs.Process.{Process}
use Rattle.cm_state.proofs.seeing.see_processes.Given as goal

abbrev pub invariant-loop-p : goal.invariant-loop-p
invariant-loop-p l = (k : ℕ) (d : Process) → k < l.p-index → Keeps (get_or l.list k d).cred

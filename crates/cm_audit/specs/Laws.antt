-- On what a verdict rests.
use Rattle.std.specs.Prelude.{◌≡◌, ℕ}
use Rattle.cm_audit.specs.Told.{Told, IsVerdictOn}
use Rattle.model_cred.specs.Process.{State}
use Rattle.model_cred.specs.Right.{Right}
use Rattle.model_cred.specs.World.{World}
use Rattle.model_run.specs.Family.{family}
use Rattle.model_verdict.specs.Alike.{AreAlike}

-- Two states of one world with equal spaces, in which the families of the root have the same pids, spaces,
-- credentials and filters, have one verdict, whatever other processes hold: the same run and holder, the same rows,
-- the same blame.
unfoldable pub VerdictsAreIsolated : State → State → Type 0
VerdictsAreIsolated s t =
    (w : World) (root : ℕ) (right : Right) (one other : Told) → AreAlike s t root
    → IsVerdictOn w s (family s root) right one → IsVerdictOn w t (family t root) right other → one ≡ other

-- What a verdict depends on: the spaces, and the members' own spaces, credentials and filters; nothing that others
-- hold.
use Rattle.std.specs.Prelude.{◌≡◌, ◌↔◌, List, ℕ}
use Rattle.cm_filter.specs.Filters.{permits}
use Rattle.model_cred.specs.Process.{State}
use Rattle.model_cred.specs.Right.{Right}
use Rattle.model_cred.specs.World.{World}
use Rattle.model_run.specs.Family.{family}
use Rattle.model_box.specs.Covers.{StateFits}
use Rattle.model_plans.specs.PlanRun.{first_found}
use Rattle.model_plans.specs.Shortcuts.{AreSeatedAlike}
use Rattle.model_verdict.specs.Least.{Test}
use Rattle.model_verdict.specs.Blame.{Blame}
use Rattle.model_verdict.specs.Decides.{LeastIn}
use Rattle.model_verdict.specs.Settled.{SettledIn}
use Rattle.model_verdict.specs.Verdict.{Verdict, VerdictIn, BlameIn}

-- The families of the root are alike in the two states: the spaces are equal, the members have the same pids, and each
-- stands in the same space with the same credential and the same filter.
pub record AreAlike (s t : State) (root : ℕ) : Type 0 where
  pub spaces : s.spaces ≡ t.spaces
  pub pids : family s root ≡ family t root
  pub members : AreSeatedAlike s t (family s root)

-- The verdicts are the same, and so is all that they are made of: what plans find, the least bounds, blame; and whether
-- the family is settled.
pub record SameVerdict (w : World) (s t : State) (members others : List ℕ) (right : Right) : Type 0 where
  pub verdict : (verdict : Verdict) → VerdictIn w s members right verdict ↔ VerdictIn w t others right verdict
  pub found : first_found (permits w.filter) w s members right ≡ first_found (permits w.filter) w t others right
  pub least : (bounds : Test) → LeastIn w s members bounds ↔ LeastIn w t others bounds
  pub blame : (blame : Blame) (below : Test) → BlameIn w s members right blame below ↔ BlameIn w t others right blame below
  pub settled : SettledIn w s members ↔ SettledIn w t others

-- So it is of alike families, whatever other processes hold.
unfoldable pub AlikeFamilies : Type 0
AlikeFamilies =
    (w : World) (s t : State) (root : ℕ) (right : Right) → StateFits s → StateFits t → AreAlike s t root
    → SameVerdict w s t (family s root) (family t root) right

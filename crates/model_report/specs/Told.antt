-- Verdicts with their bounds as rows, as a report shows them.
use Rattle.std.specs.Prelude.{ℕ, List}
use Rattle.model_box.specs.Bounds.{BoxRow, bounds_hold}
use Rattle.model_cred.specs.Process.{State}
use Rattle.model_cred.specs.Right.{Right}
use Rattle.model_cred.specs.Space.{Spaces}
use Rattle.model_cred.specs.World.{World}
use Rattle.model_plans.specs.PlanRun.{Found}
use Rattle.model_verdict.specs.Blame.{Blame}
use Rattle.model_verdict.specs.InWorld.{VerdictIn}
use Rattle.model_verdict.specs.Rows.{AreBounds}
use Rattle.model_verdict.specs.Verdict as model

-- What a verdict tells: the run and its holder; the rows of the least bounds; or what is blamed, and the rows of the bounds
-- just before.
pub data Told : Type 0 where
  TellsNo : Found → Told
  TellsYes : List BoxRow → Told
  TellsUndecided : Blame → List BoxRow → Told

-- the verdict of the definitions
abbrev pub verdict_in : Told → model.Verdict
verdict_in (TellsNo found) = model.No found
verdict_in (TellsYes rows) = model.Yes (bounds_hold rows)
verdict_in (TellsUndecided blame rows) = model.Undecided blame (bounds_hold rows)

-- the rows that are told, where any are, are such
abbrev pub RowsAreBounds : Spaces → Told → Type 0
RowsAreBounds spaces (TellsNo found) = Unit {0}
RowsAreBounds spaces (TellsYes rows) = AreBounds spaces rows
RowsAreBounds spaces (TellsUndecided blame rows) = AreBounds spaces rows

-- It is the verdict on the right, of the members, in the world.
pub record IsVerdictOn (w : World) (s : State) (members : List ℕ) (right : Right) (x : Told) : Type 0 where
  pub verdict : VerdictIn w s members right (verdict_in x)
  pub bounds : RowsAreBounds s.spaces x

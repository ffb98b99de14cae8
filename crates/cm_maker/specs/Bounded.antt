-- What bounds say of a right.
use Rattle.std.specs.Prelude.{ℕ, Bool, List}
use Rattle.cm_filter.specs.declared.kind.CallKind.{CallKind}
use Rattle.cm_maker.specs.Sweeping.{blame_told}
use Rattle.cm_maker.specs.declared.deciding.Bounded.{Bounded}
use Rattle.cm_maker.specs.declared.deciding.Bounded.TheVariants as code
use Rattle.model_box.specs.Bounds.{bounds_hold}
use Rattle.model_box.specs.Laws.{tested}
use Rattle.model_box.specs.Meets.{Meets}
use Rattle.model_cred.specs.Files.{FileTable}
use Rattle.model_cred.specs.Process.{State}
use Rattle.model_cred.specs.Right.{Right}
use Rattle.model_cred.specs.Space.{Spaces}
use Rattle.model_verdict.specs.Blame.{IsBlame}
use Rattle.model_verdict.specs.Least.{IsLeast, AllMeet}
use Rattle.model_verdict.specs.Rows.{AreBounds}

-- The least bounds, which don't meet the right; or all closed covering bounds meet it, and this is blamed.
abbrev pub IsBounded : (CallKind → Bool) → FileTable → State → List ℕ → Right → Bounded → Type 0
IsBounded permitted files s members right (code.Excludes b) =
    IsLeast permitted files s members (bounds_hold b) × (Meets s.spaces (tested (bounds_hold b)) right → ⊥)
IsBounded permitted files s members right (code.Blames x) =
    AllMeet permitted files s members right
    × IsBlame permitted files s members right (blame_told x.rule x.row) (bounds_hold x.below)

-- The rows that are told are two of each space, each set of ids written in the one way.
abbrev pub IsWritten : Spaces → Bounded → Type 0
IsWritten spaces (code.Excludes b) = AreBounds spaces b
IsWritten spaces (code.Blames x) = AreBounds spaces x.below

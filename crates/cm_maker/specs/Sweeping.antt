-- Rows that say what the sweep gives.
use Rattle.std.specs.Prelude.{ℕ, suc, ◌+◌, ◌*◌, Bool, List, Option, None, Some}
use Rattle.cm_filter.specs.Filters.{permits}
use Rattle.cm_filter.specs.declared.kind.CallKind.{CallKind}
use Rattle.model_box.specs.Bounds.{BoxRow, bounds_hold}
use Rattle.model_box.specs.Meets.{Meets}
use Rattle.model_box.specs.Row.{row_at}
use Rattle.model_box.specs.Rule.{rule_number}
use Rattle.model_cred.specs.Files.{FileTable}
use Rattle.model_cred.specs.Process.{State}
use Rattle.model_cred.specs.Right.{Right}
use Rattle.model_cred.specs.Space.{Spaces}
use Rattle.cm_box.specs.Rules.{rule_of}
use Rattle.cm_box.specs.declared.rules.Rule.{Rule}
use Rattle.cm_box.specs.declared.setting.Setting.{Setting}
use Rattle.cm_box_rows.specs.Rows.{RowsHold}
use Rattle.model_verdict.specs.Blame.{Blame, AtStart, ByTurn}
use Rattle.model_verdict.specs.Least.{Says}
use Rattle.model_verdict.specs.Sweep.{row_count, swept}

-- The rows say what the sweep gives after so many turns.
abbrev pub IsSweptTo : (CallKind → Bool) → FileTable → State → List ℕ → ℕ → List BoxRow → Type 0
IsSweptTo permitted files s members k rows = Says (bounds_hold rows) (swept permitted files s members k)

-- Rows that say what it gives after the one number of turns have become rows that say what it gives after the other,
-- whoever the members are.
abbrev pub Sweeps : (CallKind → Bool) → FileTable → State → ℕ → ℕ → List BoxRow → List BoxRow → Type 0
Sweeps permitted files s from to old new =
    (members : List ℕ) → IsSweptTo permitted files s members from old → IsSweptTo permitted files s members to new

-- So they do in each round, from its first turn to its last in a setting;
abbrev pub SweepsRound : Setting → List BoxRow → List BoxRow → Type 0
SweepsRound q old new =
    let rows = row_count q.state.now.spaces in
    (round : ℕ)
    → Sweeps (permits q.filter) q.files.now q.state.now (14 * round * rows) (14 * suc round * rows) old new

-- over the turns of a rule;
abbrev pub SweepsRule : Setting → Rule → List BoxRow → List BoxRow → Type 0
SweepsRule q rule old new =
    let rows = row_count q.state.now.spaces in
    let n = rule_number (rule_of rule) in
    (round : ℕ)
    → Sweeps (permits q.filter) q.files.now q.state.now ((14 * round + n) * rows) ((14 * round + suc n) * rows) old new

-- and over its turn at that row.
abbrev pub SweepsTurn : Setting → Rule → ℕ → List BoxRow → List BoxRow → Type 0
SweepsTurn q rule row old new =
    let rows = row_count q.state.now.spaces in
    let n = rule_number (rule_of rule) in
    (round : ℕ)
    → Sweeps (permits q.filter) q.files.now q.state.now ((14 * round + n) * rows + row)
    (suc ((14 * round + n) * rows + row)) old new

-- Where the rows say what it gives after so many turns, the right is met after the next one.
abbrev pub StopsAt : (CallKind → Bool) → FileTable → State → Right → ℕ → List BoxRow → Type 0
StopsAt permitted files s right k rows =
    (members : List ℕ) → IsSweptTo permitted files s members k rows
    → Meets s.spaces (swept permitted files s members (suc k)) right

-- They have become rows that say what it gives after the other number of turns, and the right is met after the next one.
pub record Stopped (permitted : CallKind → Bool) (files : FileTable) (s : State) (right : Right) (from k : ℕ)
    (old new : List BoxRow) : Type 0 where
  pub sweeps : Sweeps permitted files s from k old new
  pub stops : StopsAt permitted files s right k new

-- Where the old rows don't meet the right the new ones don't.
abbrev pub KeepsApart : Spaces → Right → List BoxRow → List BoxRow → Type 0
KeepsApart spaces right old new =
    (Meets spaces (RowsHold old) right → ⊥) → Meets spaces (RowsHold new) right → ⊥

-- what is blamed, in the words of the definitions
abbrev pub blame_told : Option Rule → ℕ → Blame
blame_told None row = AtStart (row_at row)
blame_told (Some rule) row = ByTurn (record { rule = rule_of rule; row = row_at row })

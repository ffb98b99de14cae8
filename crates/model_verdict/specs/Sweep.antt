-- The sweep: from the start bounds on, each rule at each row, in order, again and again. A turn is one rule at one row.
use Rattle.std.specs.Prelude.{◌≡◌, ◌↔◌, ◌⊎◌, ℕ, zero, suc, ◌+◌, ◌*◌, ◌/◌, ◌%◌, ◌<◌, ◌≤◌, Bool}
use Rattle.std.specs.Prelude.{length, List, slice_get, unwrap_or}
use Rattle.cm_filter.specs.declared.kind.CallKind.{CallKind}
use Rattle.model_cred.specs.Files.{FileTable}
use Rattle.model_cred.specs.Process.{State, KeepsState}
use Rattle.model_cred.specs.Space.{Spaces}
use Rattle.model_box.specs.Row.{Part, Row, row_at, IsWithin}
use Rattle.model_box.specs.Rule.{Rule, Maps, rules_in_order, rule_number}
use Rattle.model_box.specs.Closed.{Adds, Closed}
use Rattle.model_box.specs.Start.{StartHas}
use Rattle.model_box.specs.Covers.{StateFits}
use Rattle.model_box.specs.Encloses.{Encloses}
use Rattle.model_box.specs.Laws.{tested}
use Rattle.model_verdict.specs.Least.{Test, Says, IsLeast}

-- A turn: a rule at a row.
pub record Turn : Type 0 where
  pub rule : Rule
  pub row : Row

-- how many rows there are: two for each space
abbrev pub row_count : Spaces → ℕ
row_count spaces = 2 * length spaces

-- the rule of that place in their order
abbrev pub rule_at : ℕ → Rule
rule_at n = unwrap_or (slice_get rules_in_order n) Maps

-- The turn of that number, from 0 on: the first rule at each row, the rows ascending; then the next rule at each row; and
-- after the last rule the first one again.
abbrev pub turn_at : Spaces → ℕ → Turn
turn_at spaces k = record { rule = rule_at (k / row_count spaces % 14); row = row_at (k % row_count spaces) }

-- bounds, and what the rule of a turn adds to its row
abbrev pub widened : (CallKind → Bool) → FileTable → Spaces → (Row → Part → ℕ → Type 0) → Turn → Row → Part → ℕ → Type 0
widened permitted files spaces bounds turn row part x =
    bounds row part x ⊎ ((row ≡ turn.row) × Adds permitted files spaces bounds turn.rule turn.row part x)

-- The bounds after so many turns: none, the start bounds.
abbrev pub swept : (CallKind → Bool) → FileTable → State → List ℕ → ℕ → Row → Part → ℕ → Type 0
swept permitted files s members zero row part x = StartHas s members row part x
swept permitted files s members (suc k) row part x =
    widened permitted files s.spaces (swept permitted files s members k) (turn_at s.spaces k) row part x

-- In a round each rule of the order has its turn at each row: the turn of a round, a rule's place and a row's number.
unfoldable pub TurnsGoByRounds : Type 0
TurnsGoByRounds = (spaces : Spaces) (round : ℕ) (rule : Rule) (y : ℕ) → y < row_count spaces
    → turn_at spaces ((14 * round + rule_number rule) * row_count spaces + y) ≡ record { rule = rule; row = row_at y }

-- More turns give larger bounds.
unfoldable pub SweepGrows : Type 0
SweepGrows = (permitted : CallKind → Bool) (files : FileTable) (s : State) (members : List ℕ) (k later : ℕ) → k ≤ later
    → IsWithin (swept permitted files s members k) (swept permitted files s members later)

-- The sweep stays within all bounds that are closed and cover the members.
unfoldable pub SweepStaysWithin : Type 0
SweepStaysWithin =
    (permitted : CallKind → Bool) (files : FileTable) (s : State) (members : List ℕ) (k : ℕ) (other : Test)
    → StateFits s → Encloses permitted files s members (tested other)
    → IsWithin (swept permitted files s members k) (tested other)

-- how many turns there are before a round
abbrev pub turns_before : Spaces → ℕ → ℕ
turns_before spaces round = 14 * round * row_count spaces

-- The round adds nothing.
abbrev pub AddsNothing : (CallKind → Bool) → FileTable → State → List ℕ → ℕ → Type 0
AddsNothing permitted files s members round =
    IsWithin (swept permitted files s members (turns_before s.spaces (suc round)))
    (swept permitted files s members (turns_before s.spaces round))

-- A round that adds nothing begins with closed bounds.
unfoldable pub IdleRoundsBeginClosed : Type 0
IdleRoundsBeginClosed =
    (permitted : CallKind → Bool) (files : FileTable) (s : State) (members : List ℕ) (round : ℕ)
    → AddsNothing permitted files s members round
    → Closed permitted files s.spaces (swept permitted files s members (turns_before s.spaces round))

-- A test that says what the sweep gives after some number of turns, and is closed, is the least.
unfoldable pub ClosedTurnsAreLeast : Type 0
ClosedTurnsAreLeast =
    (permitted : CallKind → Bool) (files : FileTable) (s : State) (members : List ℕ) (test : Test) (k : ℕ)
    → StateFits s → Says test (swept permitted files s members k) → Closed permitted files s.spaces (tested test)
    → IsLeast permitted files s members test

-- The least bounds hold what the sweep ever gives, and nothing else.
unfoldable pub SweepComesToLeast : Type 0
SweepComesToLeast =
    (permitted : CallKind → Bool) (files : FileTable) (s : State) (members : List ℕ) (least : Test)
    → KeepsState s → IsLeast permitted files s members least → (row : Row) (part : Part) (x : ℕ)
    → tested least row part x ↔ ((k : ℕ) × swept permitted files s members k row part x)

-- A turn in code is a turn of the sweep.
use Rattle.std.proofs.Common.{◌≡◌, ℕ, suc, ◌+◌, ◌*◌, ◌<◌, Bool, List, length, set, refl, sym, ap, ◌∙◌, subst, inl, inr, arith}
use Rattle.std.specs.Prelude.{◌↔◌}
use Rattle.cm_filter.specs.declared.kind.CallKind.{CallKind}
use Rattle.model_cred.specs.Files.{FileTable}
use Rattle.model_cred.specs.Process.{State}
use Rattle.model_box.specs.Bounds.{BoxRow, bounds_hold}
use Rattle.model_box.specs.Closed.{Adds, Closed, ClosedAt}
use Rattle.model_box.specs.Row.{Part, Row, row_at}
use Rattle.model_box.specs.Rule.{Rule, rule_number}
use Rattle.model_box.proofs.Starts.{row_back}
use Rattle.cm_box.specs.Closing.{WithAdded, IsJoinedAt, IsFirstOpen}
use Rattle.model_box.specs.Start.{StartHas}
use Rattle.model_cred.specs.Space.{Spaces}
use Rattle.cm_box.proofs.Rewriting.{widened_at}
use Rattle.cm_box_rows.specs.Rows.{RowHolds, RowsHold, AreSameRows}
use Rattle.cm_maker.specs.Sweeping.{IsSweptTo, Sweeps}
use Rattle.model_verdict.proofs.Rounds.{one_more}
use Rattle.model_verdict.specs.Sweep.{row_count, turn_at, turns_before, TurnsGoByRounds}
use Rattle.model_verdict.proofs.Sweeps.{turns_go_by_rounds}
use Rattle.model_verdict.proofs.Turned.{says_next}

-- ---- the numbers of turns
-- a rule after its last row, and a round after its last rule
pub rule_end : (round n rows y : ℕ) → y ≡ rows → (14 * round + suc n) * rows ≡ (14 * round + n) * rows + y
rule_end round n rows y is =
    let more : 14 * round + suc n ≡ 14 * round + n + 1 = omega arith in
    ap (λ (m : ℕ). m * rows) more ∙ one_more (14 * round + n) rows ∙ ap (λ (m : ℕ). (14 * round + n) * rows + m) (sym is)

pub round_end : (round k rows : ℕ) → k ≡ 14 → 14 * suc round * rows ≡ (14 * round + k) * rows
round_end round k rows is =
    let all : 14 * suc round ≡ 14 * round + k = omega (arith, is) in
    ap (λ (m : ℕ). m * rows) all

zero_place : (rows : ℕ) → 14 * 0 * rows ≡ 0
zero_place rows = grind arith

-- start bounds are what the sweep begins with
pub start_swept : (permitted : CallKind → Bool) (files : FileTable) (s : State) (members : List ℕ) (rows : List BoxRow)
    → ((row : Row) (part : Part) (x : ℕ) → RowsHold rows row part x ↔ StartHas s members row part x)
    → IsSweptTo permitted files s members (turns_before s.spaces 0) rows
start_swept permitted files s members rows says =
    subst (λ (k : ℕ). IsSweptTo permitted files s members k rows) (sym (zero_place (row_count s.spaces))) says

-- where a rule is open, bounds aren't closed
pub first_open : (permitted : CallKind → Bool) (files : FileTable) (spaces : Spaces) (bounds : Row → Part → ℕ → Type 0) (rule : Rule) (y : ℕ)
    → IsFirstOpen permitted files spaces bounds rule y → Closed permitted files spaces bounds → ⊥
first_open permitted files spaces bounds rule y found closed = found.row.unmet (closed rule (row_at y) found.row.stands)

module _ (permitted : CallKind → Bool) (files : FileTable) (s : State) where
  -- the number of the turn of a rule at a row in a round
  abbrev pub turn_number : ℕ → Rule → ℕ → ℕ
  turn_number round rule y = (14 * round + rule_number rule) * row_count s.spaces + y

  pub turn_is : (round : ℕ) (rule : Rule) (y : ℕ) → y < row_count s.spaces
      → turn_at s.spaces (turn_number round rule y) ≡ record { rule = rule; row = row_at y }
  unfolding TurnsGoByRounds
  turn_is round rule y low = turns_go_by_rounds s.spaces round rule y low

  pub then_sweep : (from mid to k : ℕ) (old new last : List BoxRow) → Sweeps permitted files s from mid old new
      → Sweeps permitted files s mid to new last → k ≡ to → Sweeps permitted files s from k old last
  then_sweep from mid to k old new last first second is members says =
      subst (λ (n : ℕ). IsSweptTo permitted files s members n last) (sym is) (second members (first members says))

  -- over the next row
  pub next_turn : (from y k : ℕ) (old mid new : List BoxRow)
      → ((n : ℕ) → n ≡ from + y → Sweeps permitted files s from n old mid)
      → Sweeps permitted files s (from + y) (suc (from + y)) mid new → k ≡ from + (y + 1)
      → Sweeps permitted files s from k old new
  next_turn from y k old mid new before turn is =
      then_sweep from (from + y) (suc (from + y)) k old mid new (before (from + y) refl) turn (omega (arith, is))

  -- and by the next rule
  pub next_rule : (round n k : ℕ) (old mid new : List BoxRow)
      → ((m : ℕ) → m ≡ (14 * round + n) * row_count s.spaces
      → Sweeps permitted files s (14 * round * row_count s.spaces) m old mid)
      → Sweeps permitted files s ((14 * round + n) * row_count s.spaces) ((14 * round + suc n) * row_count s.spaces) mid new
      → k ≡ (14 * round + (n + 1)) * row_count s.spaces
      → Sweeps permitted files s (14 * round * row_count s.spaces) k old new
  next_rule round n k old mid new before rule is =
      let rows : ℕ = row_count s.spaces in
      let next : n + 1 ≡ suc n = omega arith in
      then_sweep (14 * round * rows) ((14 * round + n) * rows) ((14 * round + suc n) * rows) k old mid new
      (before ((14 * round + n) * rows) refl) rule (is ∙ ap (λ (m : ℕ). (14 * round + m) * rows) next)

  -- rows with what the rule adds to one
  pub joined_sweeps : (rule : Rule) (y : ℕ) (old new : List BoxRow) → y < row_count s.spaces
      → IsJoinedAt y (RowsHold old) (Adds permitted files s.spaces (RowsHold old) rule (row_at y)) (RowsHold new)
      → (round : ℕ) → Sweeps permitted files s (turn_number round rule y) (suc (turn_number round rule y)) old new
  joined_sweeps rule y old new low joined round members says =
      says_next permitted files s members (bounds_hold old) (bounds_hold new) (turn_number round rule y) rule (row_at y)
      (turn_is round rule y low) says joined.there
      (λ row other part x. joined.elsewhere row (λ same. other (sym (row_back row) ∙ ap row_at same)) part x)

  -- a row that is put in its place
  pub wider_sweeps : (rule : Rule) (y : ℕ) (old : List BoxRow) (wider : BoxRow) → y < length old → y < row_count s.spaces
      → AreSameRows (RowHolds wider) (WithAdded permitted files s.spaces (RowsHold old) rule (row_at y))
      → (round : ℕ) → Sweeps permitted files s (turn_number round rule y) (suc (turn_number round rule y)) old (set old y wider)
  wider_sweeps rule y old wider there low same round =
      joined_sweeps rule y old (set old y wider) low
      (widened_at old old y wider (Adds permitted files s.spaces (RowsHold old) rule (row_at y)) (λ k part x. (λ held. held, λ held. held)) there same)
      round

  -- and rows that are closed there already
  pub closed_sweeps : (rule : Rule) (y : ℕ) (rows : List BoxRow) → y < row_count s.spaces
      → ClosedAt permitted files s.spaces (RowsHold rows) rule (row_at y)
      → (round : ℕ) → Sweeps permitted files s (turn_number round rule y) (suc (turn_number round rule y)) rows rows
  closed_sweeps rule y rows low closed round =
      joined_sweeps rule y rows rows low (record {
        there = λ part x. (λ held. inl held, λ held. elim held [ inl old ↦ old | inr added ↦ closed part x added ]);
        elsewhere = λ row other part x. (λ held. held, λ held. held);
      }) round

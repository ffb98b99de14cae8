-- Where the sweep first meets a right.
use Rattle.std.proofs.Common.{◌≡◌, ℕ, suc, ◌<◌, Bool, List, length, set, sym, ap, ◌∙◌, subst, inl, inr}
use Rattle.std.proofs.lemmas.List.{get_or-set_same, get_or-set_other}
use Rattle.cm_filter.specs.declared.kind.CallKind.{CallKind}
use Rattle.model_cred.specs.Files.{FileTable}
use Rattle.model_cred.specs.Process.{State, KeepsState}
use Rattle.model_cred.specs.Right.{Right, Cap}
use Rattle.model_cred.specs.Space.{Spaces}
use Rattle.model_box.specs.Bounds.{BoxRow, bounds_hold, row_in, no_row}
use Rattle.model_box.specs.Closed.{Closed}
use Rattle.model_box.specs.Laws.{tested}
use Rattle.model_box.specs.Meets.{Meets, MeetsAt, IsFirstMet}
use Rattle.model_box.specs.Row.{Part, Row, Standing, row_at, row_number}
use Rattle.model_box.specs.Rule.{Rule}
use Rattle.model_box.proofs.Monotone.{meets_more, meets_at_more}
use Rattle.model_box.proofs.Starts.{row_back, number_back}
use Rattle.model_box.proofs.Worlds.{state_fits}
use Rattle.cm_box.specs.Closing.{WithAdded}
use Rattle.cm_box.specs.Meeting.{RowMeets}
use Rattle.cm_box_rows.specs.Rows.{RowHolds, RowsHold, AreSameRows}
use Rattle.cm_maker.specs.Sweeping.{IsSweptTo, Sweeps, StopsAt, Stopped, KeepsApart}
use Rattle.cm_maker.proofs.Turns.{turn_number, turn_is, wider_sweeps}
use Rattle.model_verdict.specs.Blame.{ByTurn, IsBlame, BeforeAndAfter}
use Rattle.model_box.specs.Start.{StartHas}
use Rattle.model_verdict.specs.Least.{Says, AllMeet, IsLeast}
use Rattle.model_verdict.specs.Sweep.{row_count, swept}
use Rattle.model_verdict.proofs.Blames.{before_and_after}
use Rattle.model_verdict.proofs.Deciding.{Decided, same_number}
use Rattle.model_verdict.proofs.Rounds.{says_least}
use Rattle.model_verdict.proofs.Sweeps.{row_stands}

-- whether bounds meet a right at a row is seen from that row alone
own_of : (spaces : Spaces) (bounds : Row → Part → ℕ → Type 0) (right : Right) (row : Row)
    → MeetsAt spaces bounds right row → RowMeets spaces (bounds row) right row
own_of spaces bounds (Cap cap n) (Standing a) met = met
own_of spaces bounds _ _ met = met

of_own : (spaces : Spaces) (bounds : Row → Part → ℕ → Type 0) (right : Right) (row : Row)
    → RowMeets spaces (bounds row) right row → MeetsAt spaces bounds right row
of_own spaces bounds (Cap cap n) (Standing a) met = met
of_own spaces bounds _ _ met = met

-- rows that don't meet it still don't, once a row that wouldn't is put into them
pub put_apart : (spaces : Spaces) (right : Right) (rows : List BoxRow) (y : ℕ) (wider : BoxRow) → y < length rows
    → (RowMeets spaces (RowHolds wider) right (row_at y) → ⊥) → KeepsApart spaces right rows (set rows y wider)
put_apart spaces right rows y wider low never apart (row, standing, met) = by (same_number (row_number row) y) where
  new : List BoxRow
  new = set rows y wider

  own : RowMeets spaces (RowsHold (set rows y wider) row) right row
  own = own_of spaces (RowsHold (set rows y wider)) right row met

  by : Decided (row_number row ≡ y) → ⊥
  by (inl is) =
      let here : row ≡ row_at y = sym (row_back row) ∙ ap row_at is in
      let at : RowMeets spaces (RowHolds (row_in (set rows y wider) (row_number (row_at y)))) right (row_at y)
      = subst (λ (r : Row). RowMeets spaces (RowsHold (set rows y wider) r) right r) here own in
      let there : RowMeets spaces (RowHolds (row_in (set rows y wider) y)) right (row_at y)
      = subst (λ (n : ℕ). RowMeets spaces (RowHolds (row_in (set rows y wider) n)) right (row_at y)) (number_back y) at in
      never (subst (λ (r : BoxRow). RowMeets spaces (RowHolds r) right (row_at y)) (get_or-set_same rows y wider no_row low) there)
  by (inr other) =
      apart (
        row,
        standing,
        of_own spaces (RowsHold rows) right row
            (subst (λ (r : BoxRow). RowMeets spaces (RowHolds r) right row) (get_or-set_other rows y (row_number row) wider no_row other) own),
      )

-- the first row by which rows that say what the start bounds hold meet it
pub start_first : (s : State) (members : List ℕ) (right : Right) (rows : List BoxRow) (row : Row)
    → Says (bounds_hold rows) (StartHas s members) → IsFirstMet s.spaces (RowsHold rows) right row
    → IsFirstMet s.spaces (StartHas s members) right row
start_first s members right rows row says first = record {
  standing = first.standing;
  meets = meets_at_more s.spaces (RowsHold rows) (StartHas s members) (λ r p x held. (says r p x).0 held) right row first.meets;
  first = λ earlier less at.
      first.first earlier less
      (meets_at_more s.spaces (StartHas s members) (RowsHold rows) (λ r p x held. (says r p x).1 held) right earlier at);
}

module _ (permitted : CallKind → Bool) (files : FileTable) (s : State) (right : Right) where
  -- a row that would meet it
  pub wider_stops : (rule : Rule) (y : ℕ) (old : List BoxRow) (wider : BoxRow) → y < length old → y < row_count s.spaces
      → AreSameRows (RowHolds wider) (WithAdded permitted files s.spaces (RowsHold old) rule (row_at y))
      → RowMeets s.spaces (RowHolds wider) right (row_at y)
      → (round : ℕ) → StopsAt permitted files s right (turn_number permitted files s round rule y) old
  wider_stops rule y old wider there low same met round members says =
      let k : ℕ = turn_number permitted files s round rule y in
      let next : IsSweptTo permitted files s members (suc k) (set old y wider)
      = wider_sweeps permitted files s rule y old wider there low same round members says in
      let at : (part : Part) (x : ℕ) → RowHolds wider part x → RowsHold (set old y wider) (row_at y) part x
      = (λ part x held.
      subst (λ (n : ℕ). RowHolds (row_in (set old y wider) n) part x) (sym (number_back y))
      (subst (λ (r : BoxRow). RowHolds r part x) (sym (get_or-set_same old y wider no_row there)) held)) in (
        row_at y,
        row_stands s.spaces y low,
        of_own s.spaces (swept permitted files s members (suc k)) right (row_at y)
            (meets_at_more s.spaces (λ _. RowHolds wider) (λ _. swept permitted files s members (suc k) (row_at y))
            (λ r part x held. (next (row_at y) part x).0 (at part x held)) right (row_at y) met),
      )

  -- the turn at which they stopped
  pub stopped_same : (from k : ℕ) (old mid new : List BoxRow) → Sweeps permitted files s from k old mid → new ≡ mid
      → StopsAt permitted files s right k mid → Stopped permitted files s right from k old new
  stopped_same from k old mid new sweeps same stops = record {
    sweeps = λ members says. subst (λ (rows : List BoxRow). IsSweptTo permitted files s members k rows) (sym same) (sweeps members says);
    stops = λ members says. stops members (subst (λ (rows : List BoxRow). IsSweptTo permitted files s members k rows) same says);
  }

  pub then_stopped : (from mid k : ℕ) (old before new : List BoxRow) → Sweeps permitted files s from mid old before
      → Stopped permitted files s right mid k before new → Stopped permitted files s right from k old new
  then_stopped from mid k old before new sweeps stopped = record {
    sweeps = λ members says. stopped.sweeps members (sweeps members says);
    stops = stopped.stops;
  }

  -- so it is blamed
  pub stopped_blamed : (members : List ℕ) (rule : Rule) (y : ℕ) (below : List BoxRow) (round : ℕ) → y < row_count s.spaces
      → IsSweptTo permitted files s members (turn_number permitted files s round rule y) below
      → (Meets s.spaces (RowsHold below) right → ⊥)
      → StopsAt permitted files s right (turn_number permitted files s round rule y) below
      → IsBlame permitted files s members right (ByTurn (record { rule = rule; row = row_at y })) (bounds_hold below)
  unfolding BeforeAndAfter
  stopped_blamed members rule y below round low says apart stops =
      let k : ℕ = turn_number permitted files s round rule y in (
        k,
        sym (turn_is permitted files s round rule y low),
        before_and_after permitted files s members right k
            (λ met. apart (meets_more s.spaces (swept permitted files s members k) (RowsHold below) (λ r p x held. (says r p x).1 held) right met))
            (stops members says),
        says,
      )

  -- and while it isn't met, though all closed bounds meet it, the bounds aren't closed
  pub apart_open : (members : List ℕ) (k : ℕ) (rows : List BoxRow) → KeepsState s → AllMeet permitted files s members right
      → IsSweptTo permitted files s members k rows → (Meets s.spaces (RowsHold rows) right → ⊥)
      → Closed permitted files s.spaces (RowsHold rows) → ⊥
  apart_open members k rows keeps met says apart closed =
      let least : IsLeast permitted files s members (bounds_hold rows)
      = says_least permitted files s members (state_fits s keeps) (bounds_hold rows) k says closed in
      apart (met (bounds_hold rows) least.encloses)

-- what the least bounds meet all closed covering bounds meet
pub all_meet : (permitted : CallKind → Bool) (files : FileTable) (s : State) (members : List ℕ) (right : Right) (rows : List BoxRow) (y : ℕ)
    → IsLeast permitted files s members (bounds_hold rows) → IsFirstMet s.spaces (RowsHold rows) right (row_at y)
    → AllMeet permitted files s members right
all_meet permitted files s members right rows y least first other encloses =
    meets_more s.spaces (RowsHold rows) (tested other) (least.within other encloses) right (row_at y, first.standing, first.meets)

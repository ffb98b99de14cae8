-- Rows that grow and stay within all closed bounds.
use Rattle.std.proofs.Common.{◌≡◌, ◌⊎◌, ℕ, ◌<◌, ◌≤◌, Bool, true, false, ◌||◌, ◌&&◌, List, length, set, refl, sym, ap, ◌∙◌, subst, inl, inr, arith}
use Rattle.std.specs.Prelude.{IsTrue, nat_lt}
use Rattle.std.proofs.lemmas.Bool.{false≢true, ltb-true, lt-ltb, and_parts, and_from}
use Rattle.std.proofs.lemmas.List.{get_or-set_same, get_or-set_other, length-set}
use Rattle.cm_base.specs.CapSet.{cap_count}
use Rattle.cm_base.specs.Limits.{id_count}
use Rattle.cm_filter.specs.declared.kind.CallKind.{CallKind}
use Rattle.model_cred.specs.Files.{FileTable}
use Rattle.model_cred.specs.Space.{Spaces, stands}
use Rattle.model_box.specs.Bounds.{BoxRow, bounds_hold, row_in, no_row}
use Rattle.model_box.specs.Closed.{Adds, Closed, ClosedAt}
use Rattle.model_box.specs.Laws.{tested}
use Rattle.model_box.specs.Row.{Part, Row, row_at, row_number, space_under, IsWithin}
use Rattle.model_box.specs.Rule.{Rule}
use Rattle.model_box.proofs.Monotone.{adds_more}
use Rattle.model_box.proofs.Starts.{row_back, number_back}
use Rattle.cm_box_rows.specs.Rows.{RowHolds, RowsHold, AreSameRows}
use Rattle.cm_box.specs.Closing.{WithAdded}
use Rattle.cm_maker.specs.Widening.{Widens, Visits}
use Rattle.model_verdict.specs.Least.{Test}
use Rattle.model_verdict.specs.Rows.{AreLow, part_limit}
use Rattle.model_verdict.specs.Sweep.{row_count}
use Rattle.model_verdict.proofs.Deciding.{Decided, same_number}
use Rattle.model_verdict.proofs.Lacking.{lacking, same_lack}
use Rattle.model_verdict.proofs.Limits.{adds_low, limit_is, limit_low}
use Rattle.model_verdict.proofs.Rounds.{standing_low}
use Rattle.model_verdict.proofs.Sums.{grown_or_not}
use Rattle.model_verdict.proofs.Sweeps.{row_stands}

-- ---- all that there can be is closed
low_test : Spaces → Test
low_test spaces y part x = nat_lt y (row_count spaces) && nat_lt x (part_limit part)

is_low : (spaces : Spaces) (row : Row) (part : Part) (x : ℕ) → IsTrue (stands spaces (space_under row)) → x < part_limit part
    → tested (low_test spaces) row part x
unfolding low_test
is_low spaces row part x standing low =
    and_from (nat_lt (row_number row) (row_count spaces)) (nat_lt x (part_limit part))
    (lt-ltb (row_number row) (row_count spaces) (standing_low spaces row standing)) (lt-ltb x (part_limit part) low)

low_stands : (spaces : Spaces) (row : Row) (part : Part) (x : ℕ) → tested (low_test spaces) row part x → IsTrue (stands spaces (space_under row))
unfolding low_test
low_stands spaces row part x held =
    let both = and_parts (nat_lt (row_number row) (row_count spaces)) (nat_lt x (part_limit part)) held in
    subst (λ (r : Row). IsTrue (stands spaces (space_under r))) (row_back row)
    (row_stands spaces (row_number row) (ltb-true (row_number row) (row_count spaces) both.0))

low_below : (spaces : Spaces) (row : Row) (part : Part) (x : ℕ) → tested (low_test spaces) row part x → x < part_limit part
unfolding low_test
low_below spaces row part x held =
    let both = and_parts (nat_lt (row_number row) (row_count spaces)) (nat_lt x (part_limit part)) held in
    ltb-true x (part_limit part) both.1

low_closed : (permitted : CallKind → Bool) (files : FileTable) (spaces : Spaces) → Closed permitted files spaces (tested (low_test spaces))
low_closed permitted files spaces rule row standing part x added =
    is_low spaces row part x standing
    (subst (λ (n : ℕ). x < n) (sym (limit_is part))
    (adds_low id_count cap_count 1 permitted files spaces (tested (low_test spaces))
    (λ r p y held. subst (λ (n : ℕ). y < n) (limit_is p) (low_below spaces r p y held)) (omega arith) (omega arith) rule row part x added))

module _ {permitted : CallKind → Bool} {files : FileTable} {spaces : Spaces} where
  -- ---- growth goes on
  pub then_widens : {old mid new : List BoxRow} → Widens permitted files spaces old mid → Widens permitted files spaces mid new
      → Widens permitted files spaces old new
  then_widens first second = record {
    count = second.count ∙ first.count;
    grown = λ row part x held. second.grown row part x (first.grown row part x held);
    within = λ other closed holds. second.within other closed (first.within other closed holds);
  }

  pub low_kept : {old new : List BoxRow} → Widens permitted files spaces old new → AreLow spaces (RowsHold old) → AreLow spaces (RowsHold new)
  low_kept {new = new} widens low =
      let within : IsWithin (RowsHold new) (tested (low_test spaces))
      = widens.within (low_test spaces) (low_closed permitted files spaces)
      (λ row part x held. is_low spaces row part x (low.stand row part x held) (low.low row part x held)) in
      record {
        stand = λ row part x held. low_stands spaces row part x (within row part x held);
        low = λ row part x held. low_below spaces row part x (within row part x held);
      }

  -- ---- visits
  -- one after the other
  pub then_visits : {y : ℕ} {old mid new : List BoxRow} {a b c : Bool} → Visits permitted files spaces y old mid a
      → Visits permitted files spaces y mid new b → c ≡ a || b → Visits permitted files spaces y old new c
  then_visits {old = old} {new = new} {a = a} {b = b} first second is = record {
    widens = then_widens first.widens second.widens;
    elsewhere = λ z other. second.elsewhere z other ∙ first.elsewhere z other;
    same = λ none. same a b refl refl (sym is ∙ none);
    larger = λ some back. larger a b refl refl (sym is ∙ some) back;
  } where
    same : (d e : Bool) → a ≡ d → b ≡ e → d || e ≡ false → new ≡ old
    same false false here there none = second.same there ∙ first.same here
    same _ _ here there none = absurd (false≢true (sym none))

    larger : (d e : Bool) → a ≡ d → b ≡ e → d || e ≡ true → IsWithin (RowsHold new) (RowsHold old) → ⊥
    larger true e here there some back = first.larger here (λ row part x held. back row part x (second.widens.grown row part x held))
    larger false true here there some back =
        second.larger there (λ row part x held. first.widens.grown row part x (back row part x held))
    larger false false here there none back = false≢true none

module _ (permitted : CallKind → Bool) (files : FileTable) (spaces : Spaces) where
  -- a row that is put in its place: it holds the old one, and else only what a rule adds
  module _ (rule : Rule) (y : ℕ) (old : List BoxRow) (wider : BoxRow) (there : y < length old) (low : y < row_count spaces)
      (holds : (part : Part) (x : ℕ) → RowsHold old (row_at y) part x → RowHolds wider part x)
      (adds : (part : Part) (x : ℕ) → RowHolds wider part x
      → RowsHold old (row_at y) part x ⊎ Adds permitted files spaces (RowsHold old) rule (row_at y) part x) where
    new : List BoxRow
    new = set old y wider

    -- where it stands
    at_there : (row : Row) → row_number row ≡ y → (part : Part) (x : ℕ) → RowsHold new row part x → RowHolds wider part x
    unfolding new
    at_there row is part x held =
        subst (λ (r : BoxRow). RowHolds r part x) (get_or-set_same old y wider no_row there)
        (subst (λ (n : ℕ). RowHolds (row_in (set old y wider) n) part x) is held)

    there_at : (row : Row) → row_number row ≡ y → (part : Part) (x : ℕ) → RowHolds wider part x → RowsHold new row part x
    unfolding new
    there_at row is part x held =
        subst (λ (n : ℕ). RowHolds (row_in (set old y wider) n) part x) (sym is)
        (subst (λ (r : BoxRow). RowHolds r part x) (sym (get_or-set_same old y wider no_row there)) held)

    row_is : (row : Row) → row_number row ≡ y → row ≡ row_at y
    row_is row is = sym (row_back row) ∙ ap row_at is

    put_grown : (row : Row) (part : Part) (x : ℕ) → Decided (row_number row ≡ y) → RowsHold old row part x → RowsHold new row part x
    unfolding new
    put_grown row part x (inl is) held =
        there_at row is part x (holds part x (subst (λ (r : Row). RowsHold old r part x) (row_is row is) held))
    put_grown row part x (inr other) held =
        subst (λ (r : BoxRow). RowHolds r part x) (sym (get_or-set_other old y (row_number row) wider no_row other)) held

    put_within : (other : Test) → Closed permitted files spaces (tested other) → IsWithin (RowsHold old) (tested other)
        → (row : Row) (part : Part) (x : ℕ) → Decided (row_number row ≡ y) → RowsHold new row part x → tested other row part x
    unfolding new
    put_within other closed within row part x (inl is) held =
        subst (λ (r : Row). tested other r part x) (sym (row_is row is)) (elim (adds part x (at_there row is part x held)) [
          | inl was ↦ within (row_at y) part x was
          | inr added ↦
              closed rule (row_at y) (row_stands spaces y low) part x
              (adds_more permitted files spaces (RowsHold old) (tested other) within rule (row_at y) part x added)
        ])
    put_within other closed within row part x (inr apart) held =
        within row part x (subst (λ (r : BoxRow). RowHolds r part x) (get_or-set_other old y (row_number row) wider no_row apart) held)

    pub put_widens : Widens permitted files spaces old (set old y wider)
    unfolding new
    put_widens = record {
      count = length-set old y wider;
      grown = λ row part x held. put_grown row part x (same_number (row_number row) y) held;
      within = λ other closed within row part x held. put_within other closed within row part x (same_number (row_number row) y) held;
    }

    pub put_visits : (IsWithin (RowsHold (set old y wider)) (RowsHold old) → ⊥) → Visits permitted files spaces y old (set old y wider) true
    put_visits more = record {
      widens = put_widens;
      elsewhere = λ z other. get_or-set_other old y z wider no_row other;
      same = λ wrong. absurd (false≢true (sym wrong));
      larger = λ is back. more back;
    }

    -- what it holds is there
    pub held_put : (part : Part) (x : ℕ) → RowHolds wider part x → RowsHold (set old y wider) (row_at y) part x
    unfolding new
    held_put part x held = there_at (row_at y) (number_back y) part x held

  -- a rule at a row that isn't closed there
  pub wider_visits : (rule : Rule) (y : ℕ) (old : List BoxRow) (wider : BoxRow) → y < length old → y < row_count spaces
      → (ClosedAt permitted files spaces (RowsHold old) rule (row_at y) → ⊥)
      → AreSameRows (RowHolds wider) (WithAdded permitted files spaces (RowsHold old) rule (row_at y))
      → Visits permitted files spaces y old (set old y wider) true
  wider_visits rule y old wider there low unmet same =
      let holds : (part : Part) (x : ℕ) → RowsHold old (row_at y) part x → RowHolds wider part x
      = (λ part x held. (same part x).1 (inl held)) in
      let adds : (part : Part) (x : ℕ) → RowHolds wider part x
      → RowsHold old (row_at y) part x ⊎ Adds permitted files spaces (RowsHold old) rule (row_at y) part x
      = (λ part x held. (same part x).0 held) in
      put_visits rule y old wider there low holds adds
      (λ back. unmet (λ part x added.
      back (row_at y) part x (held_put rule y old wider there low holds adds part x ((same part x).1 (inr added)))))

-- ---- fewer numbers lack
module _ {permitted : CallKind → Bool} {files : FileTable} {spaces : Spaces} where
  pub lacks_less : {old new : List BoxRow} → Widens permitted files spaces old new → AreLow spaces (RowsHold old)
      → (IsWithin (RowsHold new) (RowsHold old) → ⊥)
      → lacking (row_count spaces) (bounds_hold new) < lacking (row_count spaces) (bounds_hold old)
  lacks_less {old = old} {new = new} widens before more =
      elim (grown_or_not (lacking (row_count spaces) (bounds_hold new)) (lacking (row_count spaces) (bounds_hold old))) [
        | inl same ↦ absurd (more (same_lack (row_count spaces) (bounds_hold old) (bounds_hold new) by_number in_range same))
        | inr less ↦ less
      ] where
        low : AreLow spaces (RowsHold new)
        low = low_kept widens before

        by_number : (y : ℕ) (part : Part) (x : ℕ) → bounds_hold old y part x ≡ true → bounds_hold new y part x ≡ true
        by_number y part x held =
            let Held : List BoxRow → ℕ → Type 0 = λ rows n. bounds_hold rows n part x ≡ true in
            subst (Held new) (number_back y) (widens.grown (row_at y) part x (subst (Held old) (sym (number_back y)) held))

        in_range : (row : Row) (part : Part) (x : ℕ) → tested (bounds_hold new) row part x → (row_number row < row_count spaces) × (x < id_count)
        in_range row part x held =
            let below : x < part_limit part = low.low row part x held in
            let limit : part_limit part ≤ id_count = limit_low part in
            (standing_low spaces row (low.stand row part x held), omega (arith, below, limit))

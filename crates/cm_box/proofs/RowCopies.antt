-- Rows copied one by one.
use Rattle.std.proofs.Common.{◌≡◌, ℕ, ◌+◌, ◌<◌, List, [], ◌∷◌, ◌++◌, length, get_or, refl, sym, ap, ◌∙◌, inl, inr}
use Rattle.std.proofs.Common.{arith}
use Rattle.std.proofs.lemmas.Bool.{cases_lt}
use Rattle.std.proofs.lemmas.List.{get_or_append_left, get_or_read}
use Rattle.std.proofs.Math.Seq.{get_or-append_seam}
use Rattle.model_box.specs.Bounds.{BoxRow, no_row, row_in}
use Rattle.cm_box_rows.specs.Rows.{RowHolds, AreSameRows}

-- rows that are those given hold what those hold
replaced : (one other one' other' : BoxRow) → one' ≡ one → other' ≡ other → AreSameRows (RowHolds one) (RowHolds other)
    → AreSameRows (RowHolds one') (RowHolds other')
replaced one other one' other' first second same = rw (first, second) same

pub one_more : (made rows : List BoxRow) (k : ℕ) (old new : BoxRow) → length made ≡ k → k < length rows
    → old ≡ get_or rows k old
    → AreSameRows (RowHolds new) (RowHolds old)
    → ((y : ℕ) → y < k → AreSameRows (RowHolds (row_in made y)) (RowHolds (row_in rows y)))
    → (y : ℕ) → y < k + 1 → AreSameRows (RowHolds (row_in (made ++ new ∷ []) y)) (RowHolds (row_in rows y))
one_more made rows k old new count low is same before y below = elim (cases_lt y k) [
  | inl early ↦
      replaced (row_in made y) (row_in rows y) (row_in (made ++ new ∷ []) y) (row_in rows y)
      (get_or_append_left made (new ∷ []) no_row y (omega arith)) refl (before y early)
  | inr late ↦
      let at : y ≡ length made = omega arith in
      let here : y ≡ k = omega arith in
      replaced new old (row_in (made ++ new ∷ []) y) (row_in rows y)
      (ap (λ (j : ℕ). get_or (made ++ new ∷ []) j no_row) at ∙ get_or-append_seam made new [] no_row)
      (ap (λ (j : ℕ). get_or rows j no_row) here ∙ sym (get_or_read rows k old low is no_row)) same
]

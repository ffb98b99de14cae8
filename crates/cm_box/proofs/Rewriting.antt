-- Bounds with one row changed.
use Rattle.std.proofs.Common.{◌≡◌, ℕ, ◌<◌, List, length, set, sym, subst, inl, inr}
use Rattle.std.specs.Prelude.{◌↔◌, ◌⊎◌, ◌≢◌}
use Rattle.std.proofs.lemmas.List.{get_or-set_same, get_or-set_other}
use Rattle.model_box.specs.Bounds.{BoxRow, row_in, no_row}
use Rattle.model_box.specs.Row.{Part, Row, row_at, row_number}
use Rattle.model_box.proofs.Starts.{number_back}
use Rattle.cm_box.specs.Closing.{IsJoinedAt}
use Rattle.cm_box_rows.specs.Rows.{RowHolds, RowsHold, AreSameRows, InEitherRow}

-- a row of the rows, and what is added to it
pub added_to : (rows : List BoxRow) (y : ℕ) (more wider : BoxRow) (Added : Part → ℕ → Type 0)
    → AreSameRows (RowHolds more) Added
    → AreSameRows (RowHolds wider) (InEitherRow (RowHolds (row_in rows y)) (RowHolds more))
    → AreSameRows (RowHolds wider) (InEitherRow (RowsHold rows (row_at y)) Added)
added_to rows y more wider Added added joined part x =
    let At : ℕ → Type 0 = λ k. RowHolds wider part x ↔ (RowHolds (row_in rows k) part x ⊎ Added part x) in
    subst At (sym (number_back y)) (to, from) where
      to : RowHolds wider part x → RowHolds (row_in rows y) part x ⊎ Added part x
      to held = elim ((joined part x).0 held) [ inl old ↦ inl old | inr new ↦ inr ((added part x).0 new) ]

      from : RowHolds (row_in rows y) part x ⊎ Added part x → RowHolds wider part x
      from (inl old) = (joined part x).1 (inl old)
      from (inr new) = (joined part x).1 (inr ((added part x).1 new))

-- rows that hold the same but for that one, which holds what is added too
pub widened_at : (rows copy : List BoxRow) (y : ℕ) (wider : BoxRow) (Added : Part → ℕ → Type 0)
    → ((k : ℕ) → AreSameRows (RowHolds (row_in copy k)) (RowHolds (row_in rows k))) → y < length copy
    → AreSameRows (RowHolds wider) (InEitherRow (RowsHold rows (row_at y)) Added)
    → IsJoinedAt y (RowsHold rows) Added (RowsHold (set copy y wider))
widened_at rows copy y wider Added same low joined = record { there = there; elsewhere = elsewhere } where
  there : (part : Part) (x : ℕ)
      → RowsHold (set copy y wider) (row_at y) part x ↔ (RowsHold rows (row_at y) part x ⊎ Added part x)
  there part x =
      let At : ℕ → Type 0 = λ k. RowHolds (row_in (set copy y wider) k) part x ↔ (RowHolds (row_in rows k) part x ⊎ Added part x) in
      let put : RowHolds wider part x ↔ (RowHolds (row_in rows y) part x ⊎ Added part x)
      = subst (λ (k : ℕ). RowHolds wider part x ↔ (RowHolds (row_in rows k) part x ⊎ Added part x)) (number_back y) (joined part x) in
      subst At (sym (number_back y)) (rw (get_or-set_same copy y wider no_row low) put)

  elsewhere : (row : Row) → row_number row ≢ y → (part : Part) (x : ℕ)
      → RowsHold (set copy y wider) row part x ↔ RowsHold rows row part x
  elsewhere row other part x =
      let kept : row_in (set copy y wider) (row_number row) ≡ row_in copy (row_number row) = get_or-set_other copy y (row_number row) wider no_row other in
      let At : BoxRow → Type 0 = λ r. RowHolds r part x ↔ RowHolds (row_in rows (row_number row)) part x in
      subst At (sym kept) (same (row_number row) part x)

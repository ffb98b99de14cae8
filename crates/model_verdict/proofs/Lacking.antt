-- How much bounds lack of all that they could hold.
use Rattle.std.proofs.Common.{◌≡◌, ℕ, ◌<◌, ◌≤◌, Bool, true, false, refl, sym, ap, ◌∙◌, subst}
use Rattle.std.proofs.lemmas.Bool.{false≢true}
use Rattle.std.specs.Prelude.{not}
use Rattle.cm_base.specs.Limits.{id_count}
use Rattle.model_box.specs.Laws.{tested}
use Rattle.model_box.specs.Row.{Part, Row, row_number, IsWithin}
use Rattle.model_verdict.specs.Least.{Test}
use Rattle.model_verdict.proofs.Parts.{part_at, Numbered, numbered}
use Rattle.model_verdict.proofs.Sums.{sum_below, sum_more, sum_same, bit, bit_more, more_bit}

lacking_row : Test → ℕ → ℕ → ℕ
lacking_row test y p = sum_below (λ x. bit (not (test y (part_at p) x))) id_count

lacking_of : Test → ℕ → ℕ
lacking_of test y = sum_below (lacking_row test y) 15

-- how many numbers the parts of so many rows lack
pub lacking : ℕ → Test → ℕ
lacking rows test = sum_below (lacking_of test) rows

not_more : (a b : Bool) → (a ≡ true → b ≡ true) → not b ≡ true → not a ≡ true
not_more false b more is = refl
not_more true b more is = absurd (false≢true (sym (ap not (more refl)) ∙ is))

was_true : (a b : Bool) → bit (not a) ≤ bit (not b) → b ≡ true → a ≡ true
was_true true b less is = refl
was_true false b less is = absurd (false≢true (sym (ap not is) ∙ more_bit (not b) true less refl))

module _ (rows : ℕ) (old new : Test)
    (more : (y : ℕ) (part : Part) (x : ℕ) → old y part x ≡ true → new y part x ≡ true) where
  bit_less : (y p x : ℕ) → bit (not (new y (part_at p) x)) ≤ bit (not (old y (part_at p) x))
  bit_less y p x = bit_more (not (new y (part_at p) x)) (not (old y (part_at p) x))
      (not_more (old y (part_at p) x) (new y (part_at p) x) (more y (part_at p) x))

  row_less : (y p : ℕ) → lacking_row new y p ≤ lacking_row old y p
  unfolding lacking_row
  row_less y p = sum_more _ _ id_count (λ x low. bit_less y p x)

  of_less : (y : ℕ) → lacking_of new y ≤ lacking_of old y
  unfolding lacking_of
  of_less y = sum_more _ _ 15 (λ p low. row_less y p)

  no_new : lacking rows old ≤ lacking rows new
      → (y p x : ℕ) → y < rows → p < 15 → x < id_count → new y (part_at p) x ≡ true → old y (part_at p) x ≡ true
  unfolding lacking lacking_of lacking_row
  no_new same y p x row_low part_low low held =
      let rows_same : lacking_of old y ≤ lacking_of new y = sum_same _ _ rows (λ i below. of_less i) same y row_low in
      let parts : lacking_row old y p ≤ lacking_row new y p = sum_same _ _ 15 (λ i below. row_less y i) rows_same p part_low in
      let bits : bit (not (old y (part_at p) x)) ≤ bit (not (new y (part_at p) x))
      = sum_same _ _ id_count (λ i below. bit_less y p i) parts x low in
      was_true (old y (part_at p) x) (new y (part_at p) x) bits held

-- Bounds that grow and lack as much are the same, where all that they hold is in so many rows and below the number of ids.
pub same_lack : (rows : ℕ) (old new : Test)
    → ((y : ℕ) (part : Part) (x : ℕ) → old y part x ≡ true → new y part x ≡ true)
    → ((row : Row) (part : Part) (x : ℕ) → tested new row part x → (row_number row < rows) × (x < id_count))
    → lacking rows old ≤ lacking rows new → IsWithin (tested new) (tested old)
same_lack rows old new more low same row part x held =
    let of : Numbered part = numbered part in
    let there : new (row_number row) (part_at of.number) x ≡ true
    = subst (λ (q : Part). new (row_number row) q x ≡ true) (sym of.back) held in
    subst (λ (q : Part). old (row_number row) q x ≡ true) of.back
    (no_new rows old new more same (row_number row) of.number x (low row part x held).0 of.low (low row part x held).1 there)

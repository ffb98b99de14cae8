-- The first row by which bounds meet a right.
use Rattle.std.proofs.Common.{ℕ, ◌*◌, ◌<◌, length, subst, sym}
use Rattle.std.proofs.lemmas.Bool.{lt-ltb}
use Rattle.model_cred.specs.Right.{Right}
use Rattle.model_cred.specs.Space.{Spaces}
use Rattle.model_box.specs.Meets.{MeetsAt, IsFirstMet}
use Rattle.model_box.specs.Row.{Part, Row, row_at, row_number, space_under}
use Rattle.model_box.proofs.Starts.{row_back, number_back}
use Rattle.cm_box.proofs.Numbers.{under_low}

-- a row that meets it, where none of a lower number does
pub first_met : (spaces : Spaces) (bounds : Row → Part → ℕ → Type 0) (right : Right) (y : ℕ) → y < 2 * length spaces
    → MeetsAt spaces bounds right (row_at y)
    → ((z : ℕ) → z < y → MeetsAt spaces bounds right (row_at z) → ⊥) → IsFirstMet spaces bounds right (row_at y)
first_met spaces bounds right y low met before = record {
  standing = lt-ltb (space_under (row_at y)) (length spaces) (under_low y (length spaces) low);
  meets = met;
  first = λ earlier less at.
      before (row_number earlier) (subst (λ (n : ℕ). row_number earlier < n) (number_back y) less)
      (subst (λ (r : Row). MeetsAt spaces bounds right r) (sym (row_back earlier)) at);
}

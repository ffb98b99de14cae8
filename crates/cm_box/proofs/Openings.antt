-- The first rule and row at which bounds are open.
use Rattle.std.proofs.Common.{◌≡◌, ℕ, ◌+◌, ◌*◌, ◌<◌, ◌≤◌, Bool, length, subst, inl, inr, arith}
use Rattle.std.proofs.lemmas.Bool.{ltb-true, cases_lt}
use Rattle.cm_filter.specs.declared.kind.CallKind.{CallKind}
use Rattle.model_cred.specs.Files.{FileTable}
use Rattle.model_cred.specs.Space.{Spaces}
use Rattle.model_box.specs.Closed.{ClosedAt}
use Rattle.model_box.specs.Row.{Part, Row, row_at, space_under}
use Rattle.model_box.specs.Rule.{Rule}
use Rattle.cm_box.specs.Closing.{ClosedIn}
use Rattle.cm_box.proofs.Numbers.{all_rows}

module _ (permitted : CallKind → Bool) (files : FileTable) (spaces : Spaces) (bounds : Row → Part → ℕ → Type 0) where
  -- each row before that number is
  abbrev pub RowsClosedBefore : Rule → ℕ → Type 0
  RowsClosedBefore rule y = (z : ℕ) → z < y → ClosedAt permitted files spaces bounds rule (row_at z)

  pub all_rows_closed : (rule : Rule) (y : ℕ) → 2 * length spaces ≤ y → RowsClosedBefore rule y
      → ClosedIn permitted files spaces bounds rule
  all_rows_closed rule y up before row there =
      all_rows (ClosedAt permitted files spaces bounds rule) (length spaces) (λ z low. before z (omega arith)) row
      (ltb-true (space_under row) (length spaces) there)

  pub next_row_closed : (rule : Rule) (y : ℕ) → ClosedAt permitted files spaces bounds rule (row_at y)
      → RowsClosedBefore rule y → RowsClosedBefore rule (y + 1)
  next_row_closed rule y closed before z low = elim (cases_lt z y) [
    | inl lower ↦ before z lower
    | inr up ↦
        let same : y ≡ z = omega arith in
        subst (λ (k : ℕ). ClosedAt permitted files spaces bounds rule (row_at k)) same closed
  ]

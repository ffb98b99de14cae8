-- The rules at one row, one after the other.
use Rattle.std.proofs.Common.{◌≡◌, ◌⊎◌, ℕ, ◌+◌, ◌<◌, ◌≤◌, Bool, true, false, ◌||◌, List, refl, sym, ap, ◌∙◌, subst, inl, inr, arith}
use Rattle.cm_filter.specs.declared.kind.CallKind.{CallKind}
use Rattle.model_cred.specs.Files.{FileTable}
use Rattle.model_cred.specs.Space.{Spaces}
use Rattle.model_box.specs.Bounds.{BoxRow}
use Rattle.model_box.specs.Closed.{ClosedAt}
use Rattle.model_box.specs.Row.{row_at}
use Rattle.model_box.specs.Rule.{Rule, rule_number}
use Rattle.model_box.proofs.Numbers.{rule_low}
use Rattle.cm_box_rows.specs.Rows.{RowsHold}
use Rattle.cm_maker.specs.Widening.{Visits, Rests, RestsUnder}
use Rattle.cm_maker.proofs.Looks.{earlier_or_here}
use Rattle.cm_maker.proofs.Widenings.{then_visits}
use Rattle.model_verdict.specs.Sweep.{rule_at}
use Rattle.model_verdict.proofs.Sweeps.{rule_back}

or_true : (a : Bool) → true ≡ a || true
or_true true = refl
or_true false = refl

or_false : (a : Bool) → a ≡ a || false
or_false true = refl
or_false false = refl

module _ {permitted : CallKind → Bool} {files : FileTable} {spaces : Spaces} {y : ℕ} {old mid new : List BoxRow} {a b : Bool}
    (first : Visits permitted files spaces y old mid a) where
  -- a visit after which the row holds more
  pub visits_more : Visits permitted files spaces y mid new b → b ≡ true → Visits permitted files spaces y old new true
  visits_more second is = then_visits first second (or_true a ∙ ap (λ (d : Bool). a || d) (sym is))

  -- and one after which it holds the same
  pub visits_same : Visits permitted files spaces y mid new b → b ≡ false → Visits permitted files spaces y old new a
  visits_same second is = then_visits first second (or_false a ∙ ap (λ (d : Bool). a || d) (sym is))

  -- and after two of which the second one adds, a third
  pub visits_all : {last : List BoxRow} {d : Bool} → Visits permitted files spaces y mid new b → b ≡ true
      → Visits permitted files spaces y new last d → Visits permitted files spaces y old last true
  visits_all second is third = then_visits (visits_more second is) third refl

  pub rests_next : (rule : Rule) (from k : ℕ) → rule_number rule ≡ k → RestsUnder permitted files spaces mid y from k
      → Visits permitted files spaces y mid new b → b ≡ false → ClosedAt permitted files spaces (RowsHold new) rule (row_at y)
      → RestsUnder permitted files spaces new y from (k + 1)
  rests_next rule from k is closed second none here other late low =
      elim (earlier_or_here (rule_number other) k low) [
        | inl earlier ↦
            subst (λ (rows : List BoxRow). ClosedAt permitted files spaces (RowsHold rows) other (row_at y)) (sym (second.same none))
            (closed other late earlier)
        | inr this ↦
            subst (λ (r : Rule). ClosedAt permitted files spaces (RowsHold new) r (row_at y))
            (sym (rule_back rule) ∙ ap rule_at (is ∙ sym this) ∙ rule_back other) here
      ]

  -- what rested under some rules still does, where nothing came since
  pub rests_still : (from to : ℕ) → Visits permitted files spaces y mid new b → b ≡ false → RestsUnder permitted files spaces mid y from to
      → RestsUnder permitted files spaces new y from to
  rests_still from to second none rests =
      subst (λ (rows : List BoxRow). RestsUnder permitted files spaces rows y from to) (sym (second.same none)) rests

which_third : (n : ℕ) → n < 14 → (n < 7) ⊎ ((7 ≤ n) × (n < 10)) ⊎ (10 ≤ n)
which_third n low = grind (arith, low)

-- under all of the rules it rests
pub rests_all : (permitted : CallKind → Bool) (files : FileTable) (spaces : Spaces) (rows : List BoxRow) (y : ℕ)
    → RestsUnder permitted files spaces rows y 0 7 → RestsUnder permitted files spaces rows y 7 10 → RestsUnder permitted files spaces rows y 10 14
    → Rests permitted files spaces rows y
rests_all permitted files spaces rows y first files_too last rule = elim (which_third (rule_number rule) (rule_low rule)) [
  | inl low ↦ first rule (omega arith) low
  | inr others ↦ elim others [
    | inl middle ↦ files_too rule middle.0 middle.1
    | inr high ↦ last rule high (rule_low rule)
  ]
]

-- A turn of the sweep made on a test: what the rule adds is put to one row, and all else stays.
use Rattle.std.proofs.Common.{◌≡◌, ℕ, suc, Bool, List, sym, ap, inl, inr, subst}
use Rattle.std.specs.Prelude.{◌↔◌, ◌⊎◌}
use Rattle.cm_filter.specs.declared.kind.CallKind.{CallKind}
use Rattle.model_cred.specs.Files.{FileTable}
use Rattle.model_cred.specs.Process.{State}
use Rattle.model_cred.specs.Space.{Spaces}
use Rattle.model_box.specs.Row.{Part, Row, row_number}
use Rattle.model_box.specs.Rule.{Rule}
use Rattle.model_box.specs.Closed.{Adds}
use Rattle.model_box.specs.Laws.{tested}
use Rattle.model_box.proofs.Monotone.{adds_more}
use Rattle.model_verdict.specs.Least.{Test, Says}
use Rattle.model_verdict.specs.Sweep.{Turn, turn_at, widened, swept}
use Rattle.model_verdict.proofs.Deciding.{Decided, same_number}
use Rattle.model_verdict.proofs.Blames.{same_row}

module _ (permitted : CallKind → Bool) (files : FileTable) (spaces : Spaces) (test next : Test)
    (bounds : Row → Part → ℕ → Type 0) (says : Says test bounds) where
  -- rows to one of which is added what the rule of a turn adds say what the bounds after the turn are
  widened_says : (turn : Turn)
      → ((part : Part) (x : ℕ) → tested next turn.row part x
      ↔ (tested test turn.row part x ⊎ Adds permitted files spaces (tested test) turn.rule turn.row part x))
      → ((row : Row) → (row ≡ turn.row → ⊥) → (part : Part) (x : ℕ) → tested next row part x ↔ tested test row part x)
      → Says next (widened permitted files spaces bounds turn)
  widened_says turn there elsewhere row part x = by (same_number (row_number row) (row_number turn.row)) where
    now : Adds permitted files spaces (tested test) turn.rule turn.row part x → Adds permitted files spaces bounds turn.rule turn.row part x
    now added = adds_more permitted files spaces (tested test) bounds (λ r p z held. (says r p z).0 held) turn.rule turn.row part x added

    was : Adds permitted files spaces bounds turn.rule turn.row part x → Adds permitted files spaces (tested test) turn.rule turn.row part x
    was added = adds_more permitted files spaces bounds (tested test) (λ r p z held. (says r p z).1 held) turn.rule turn.row part x added

    here : row ≡ turn.row → tested next row part x ↔ widened permitted files spaces bounds turn row part x
    here is = (
      λ held. elim ((there part x).0 (subst (λ (r : Row). tested next r part x) is held)) [
        | inl old ↦ inl ((says row part x).0 (subst (λ (r : Row). tested test r part x) (sym is) old))
        | inr added ↦ inr (is, now added)
      ],
      λ held. subst (λ (r : Row). tested next r part x) (sym is) ((there part x).1 (elim held [
        | inl old ↦ inl (subst (λ (r : Row). tested test r part x) is ((says row part x).1 old))
        | inr added ↦ inr (was added.1)
      ])),
    )

    other : (row ≡ turn.row → ⊥) → tested next row part x ↔ widened permitted files spaces bounds turn row part x
    other apart = (
      λ held. inl ((says row part x).0 ((elsewhere row apart part x).0 held)),
      λ held. elim held [
        | inl old ↦ (elsewhere row apart part x).1 ((says row part x).1 old)
        | inr added ↦ absurd (apart added.0)
      ],
    )

    by : Decided (row_number row ≡ row_number turn.row) → tested next row part x ↔ widened permitted files spaces bounds turn row part x
    by (inl same) = here (same_row row turn.row same)
    by (inr apart) = other (λ is. apart (ap row_number is))

module _ (permitted : CallKind → Bool) (files : FileTable) (s : State) (members : List ℕ) where
  -- the same of the turn of a number
  pub says_next : (test next : Test) (k : ℕ) (rule : Rule) (row : Row) → turn_at s.spaces k ≡ record { rule = rule; row = row }
      → Says test (swept permitted files s members k)
      → ((part : Part) (x : ℕ) → tested next row part x
      ↔ (tested test row part x ⊎ Adds permitted files s.spaces (tested test) rule row part x))
      → ((other : Row) → (other ≡ row → ⊥) → (part : Part) (x : ℕ) → tested next other part x ↔ tested test other part x)
      → Says next (swept permitted files s members (suc k))
  says_next test next k rule row is says there elsewhere =
      subst (λ (t : Turn). Says next (widened permitted files s.spaces (swept permitted files s members k) t)) (sym is)
      (widened_says permitted files s.spaces test next (swept permitted files s members k) says (record { rule = rule; row = row }) there elsewhere)

-- Blame: within all closed covering bounds, and determined.
use Rattle.std.proofs.Common.{◌≡◌, ◌⊎◌, ℕ, suc, ◌<◌, Bool, List, sym, ap, ◌∙◌, inl, inr, subst, arith}
use Rattle.std.specs.Prelude.{◌↔◌}
use Rattle.cm_filter.specs.declared.kind.CallKind.{CallKind}
use Rattle.model_cred.specs.Files.{FileTable}
use Rattle.model_cred.specs.Process.{State}
use Rattle.model_cred.specs.Right.{Right}
use Rattle.model_box.specs.Row.{Part, Row, row_at, row_number, IsWithin}
use Rattle.model_box.specs.Covers.{StateFits}
use Rattle.model_box.specs.Encloses.{Encloses}
use Rattle.model_box.specs.Laws.{tested}
use Rattle.model_box.specs.Meets.{Meets, IsFirstMet}
use Rattle.model_box.specs.Start.{StartHas}
use Rattle.model_box.proofs.Monotone.{meets_more}
use Rattle.model_box.proofs.Starts.{row_back}
use Rattle.model_verdict.specs.Least.{Test, Says}
use Rattle.model_verdict.specs.Sweep.{turn_at, swept}
use Rattle.model_verdict.specs.Blame.{Blame, AtStart, ByTurn, FirstMeets, IsBlame, IsBlamed, BlameIsWithin, OneBlame, BeforeAndAfter}
use Rattle.model_verdict.proofs.Sweeps.{grows, stays_within}

pub two_orders : (j k : ℕ) → (j < k) ⊎ (k < j) ⊎ (j ≡ k)
two_orders j k = grind arith

pub same_row : (one two : Row) → row_number one ≡ row_number two → one ≡ two
same_row one two same = sym (row_back one) ∙ ap row_at same ∙ row_back two

-- two tests that say what the same bounds hold
say_one : (below other : Test) (bounds : Row → Part → ℕ → Type 0) → Says below bounds → Says other bounds
    → (row : Row) (part : Part) (x : ℕ) → tested below row part x ↔ tested other row part x
say_one below other bounds one two row part x =
    (λ held. (two row part x).1 ((one row part x).0 held), λ held. (one row part x).1 ((two row part x).0 held))

module _ (permitted : CallKind → Bool) (files : FileTable) (s : State) (members : List ℕ) (right : Right) where
  within : (blame : Blame) (below : Test) (other : Row → Part → ℕ → Type 0)
      → ((k : ℕ) → IsWithin (swept permitted files s members k) other)
      → IsBlame permitted files s members right blame below → IsWithin (tested below) other
  within (AtStart row) below other stays (first, says) r part x held = stays 0 r part x ((says r part x).0 held)
  within (ByTurn turn) below other stays (k, is, first, says) r part x held = stays k r part x ((says r part x).0 held)

  -- what the start bounds meet is met before any turn
  not_both : (row : Row) (k : ℕ) → IsFirstMet s.spaces (StartHas s members) right row → FirstMeets permitted files s members right k → ⊥
  not_both row k start later = later.before 0 (omega arith) (row, start.standing, start.meets)

  one_start : (one two : Row) → IsFirstMet s.spaces (StartHas s members) right one → IsFirstMet s.spaces (StartHas s members) right two → one ≡ two
  one_start one two first second = by (two_orders (row_number one) (row_number two)) where
    by : (row_number one < row_number two) ⊎ (row_number two < row_number one) ⊎ (row_number one ≡ row_number two) → one ≡ two
    by (inl less) = absurd (second.first one less first.meets)
    by (inr (inl more)) = absurd (first.first two more second.meets)
    by (inr (inr same)) = same_row one two same

  one_turn : (j k : ℕ) → FirstMeets permitted files s members right j → FirstMeets permitted files s members right k → j ≡ k
  one_turn j k first second = by (two_orders j k) where
    by : (j < k) ⊎ (k < j) ⊎ (j ≡ k) → j ≡ k
    by (inl less) = absurd (second.before (suc j) (omega arith) first.meets)
    by (inr (inl more)) = absurd (first.before (suc k) (omega arith) second.meets)
    by (inr (inr same)) = same

  one_blame_of : (one two : Blame) (below other : Test)
      → IsBlame permitted files s members right one below → IsBlame permitted files s members right two other
      → (one ≡ two) × ((row : Row) (part : Part) (x : ℕ) → tested below row part x ↔ tested other row part x)
  one_blame_of (AtStart one) (AtStart two) below other (first, says) (second, says_too) =
      (ap AtStart (one_start one two first second), say_one below other (StartHas s members) says says_too)
  one_blame_of (AtStart one) (ByTurn two) below other (first, says) (k, is, later, says_too) = absurd (not_both one k first later)
  one_blame_of (ByTurn one) (AtStart two) below other (k, is, later, says) (first, says_too) = absurd (not_both two k first later)
  one_blame_of (ByTurn one) (ByTurn two) below other (j, is, first, says) (k, is_too, second, says_too) =
      let same : j ≡ k = one_turn j k first second in (
        ap ByTurn (is ∙ ap (turn_at s.spaces) same ∙ sym is_too),
        say_one below other (swept permitted files s members k)
            (subst (λ (n : ℕ). Says below (swept permitted files s members n)) same says) says_too,
      )

  -- what is blamed is met by all bounds within which the sweep stays
  blamed_met : (other : Row → Part → ℕ → Type 0) → ((k : ℕ) → IsWithin (swept permitted files s members k) other)
      → (blame : Blame) (below : Test) → IsBlame permitted files s members right blame below → Meets s.spaces other right
  blamed_met other stays (AtStart row) below (first, says) =
      meets_more s.spaces (swept permitted files s members 0) other (stays 0) right (row, first.standing, first.meets)
  blamed_met other stays (ByTurn turn) below (k, is, first, says) =
      meets_more s.spaces (swept permitted files s members (suc k)) other (stays (suc k)) right first.meets

pub blame_is_within : BlameIsWithin
unfolding BlameIsWithin
blame_is_within permitted files s members right blame below other fits is encloses =
    within permitted files s members right blame below (tested other)
    (stays_within permitted files s members (tested other) fits encloses.closed encloses.covers) is

pub one_blame : OneBlame
unfolding OneBlame
one_blame permitted files s members right one two below other first second =
    one_blame_of permitted files s members right one two below other first second

pub met_if_blamed : (permitted : CallKind → Bool) (files : FileTable) (s : State) (members : List ℕ) (right : Right) (least : Test)
    → StateFits s → Encloses permitted files s members (tested least) → IsBlamed permitted files s members right → Meets s.spaces (tested least) right
met_if_blamed permitted files s members right least fits encloses blamed =
    blamed_met permitted files s members right (tested least)
    (stays_within permitted files s members (tested least) fits encloses.closed encloses.covers) blamed.blame blamed.below blamed.is

pub before_and_after : BeforeAndAfter
unfolding BeforeAndAfter
before_and_after permitted files s members right k before met = record {
  before = λ j low earlier. before
      (meets_more s.spaces (swept permitted files s members j) (swept permitted files s members k) (grows permitted files s members j k low) right earlier);
  meets = met;
}

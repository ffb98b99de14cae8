-- Whether a set holds the outside ids of a map: as far as its lines were gone through, and where one line isn't held.
use Rattle.std.proofs.Common.{◌≡◌, ℕ, ◌+◌, ◌<◌, false, List, length, get_or, take, sym, ◌∙◌, inl, inr}
use Rattle.std.specs.Prelude.{◌↔◌, IsTrue}
use Rattle.std.proofs.lemmas.Bool.{or_cases, or_right}
use Rattle.model_cred.specs.IdMap.{Extent, is_outside, lies_in}
use Rattle.cm_box_rows.specs.Members.{MapHeld}
use Rattle.cm_box_rows.proofs.OutsideIds.{outside_taken, outside_kept}
use Rattle.cm_box_rows.proofs.Tests.{no}

module _ (Set : ℕ → Type 0) (map : List Extent) (k : ℕ) where
  pub lines_more : (e : Extent) → k < length map → e ≡ get_or map k e → MapHeld (take k map) Set
      → ((x : ℕ) → IsTrue (lies_in e.outside e.length x) → Set x) → MapHeld (take (k + 1) map) Set
  lines_more e low is so_far here x out = elim (
      or_cases (is_outside (take k map) x) (lies_in e.outside e.length x) (sym (outside_taken map k e low is x) ∙ out)
      ) [
        | inl old ↦ so_far x old
        | inr new ↦ here x new
      ]

  pub lines_out : (e : Extent) → k < length map → e ≡ get_or map k e
      → ¬ ((x : ℕ) → IsTrue (lies_in e.outside e.length x) → Set x)
      → IsTrue false ↔ MapHeld map Set
  lines_out e low is out = no (MapHeld map Set)
      (λ all. out (λ x lies. all x (outside_kept map (k + 1) x
      (outside_taken map k e low is x ∙ or_right (is_outside (take k map) x) (lies_in e.outside e.length x) lies))))

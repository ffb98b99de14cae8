-- Spaces by their numbers: each that is looked up keeps what a space keeps, and one that is named stands.
use Rattle.std.proofs.Common.{◌≡◌, ℕ, ◌+◌, ◌<◌, ◌≤◌, not, false, [], ◌∷◌, length, sym, inl, inr, subst, lit<}
use Rattle.std.specs.Prelude.{All}
use Rattle.std.proofs.lemmas.Bool.{cases_eq, not-false, ltb-true}
use Rattle.std.proofs.lemmas.List.Elements.{All-head, All-tail, All-nil}
use Rattle.cm_base.specs.Limits.{id_count}
use Rattle.model_cred.proofs.Trees.{space_of_newest, space_of_older}
use Rattle.model_cred.specs.IdMap.{Extent}
use Rattle.model_cred.specs.Space.{Spaces, KeepsSpace, no_space, space_of, stands}

-- what stands in the place of a space keeps it too
keeps_no_space : KeepsSpace no_space
keeps_no_space = record {
  owner = lit< tt;
  uids = All-nil (λ (e : Extent). e.outside + e.length ≤ id_count);
  gids = All-nil (λ (e : Extent). e.outside + e.length ≤ id_count);
  uid_map = tt;
  gid_map = tt;
}

-- each space that is looked up keeps what a space keeps
pub keeps_space_of : (spaces : Spaces) (n : ℕ) → All KeepsSpace spaces → KeepsSpace (space_of spaces n)
keeps_space_of [] n each = keeps_no_space
keeps_space_of (t ∷ older) n each =
    elim (cases_eq n (length older)) [
      | inl same ↦ subst KeepsSpace (sym (space_of_newest t older n same)) (All-head KeepsSpace t older each)
      | inr other ↦ subst KeepsSpace (sym (space_of_older t older n other)) (keeps_space_of older n (All-tail KeepsSpace t older each))
    ]

-- a space that is named stands
pub stands_there : (spaces : Spaces) (n : ℕ) → not (stands spaces n) ≡ false → n < length spaces
stands_there spaces n is = ltb-true n (length spaces) (not-false (stands spaces n) is)

-- Trees of spaces: a space by its number, and what stays a tree with another space in the place of one, or one more.
use Rattle.std.proofs.Common.{◌≡◌, ◌≢◌, ℕ, ◌<◌, ◌==◌, [], ◌∷◌, length, Option, Some, sym, ap, ◌∙◌, inl, inr, subst, arith}
use Rattle.std.specs.Prelude.{IsSomeAnd, unwrap_or}
use Rattle.std.proofs.lemmas.Bool.{cases_eq, eq-eqb, ne_eqb, cond-true, cond-false}
use Rattle.model_cred.proofs.Chains.{space_newest, space_older, tree_older}
use Rattle.model_cred.proofs.Spaces.{length_put}
use Rattle.model_cred.specs.Space.{Space, Spaces, IsTree, space_of, no_space, put_space}

-- a space by its number
pub space_of_newest : (t : Space) (older : Spaces) (n : ℕ) → n ≡ length older → space_of (t ∷ older) n ≡ t
space_of_newest t older n same = ap (λ o. unwrap_or o no_space) (space_newest t older n same)

pub space_of_older : (t : Space) (older : Spaces) (n : ℕ) → n ≢ length older → space_of (t ∷ older) n ≡ space_of older n
space_of_older t older n other = ap (λ o. unwrap_or o no_space) (space_older t older n other)

-- a space in the place of another
pub put_newest : (new t : Space) (older : Spaces) (n : ℕ) → n ≡ length older → put_space n new (t ∷ older) ≡ new ∷ older
put_newest new t older n same = cond-true (n == length older) (new ∷ older) (t ∷ put_space n new older) (eq-eqb n (length older) same)

pub put_older : (new t : Space) (older : Spaces) (n : ℕ) → n ≢ length older → put_space n new (t ∷ older) ≡ t ∷ put_space n new older
put_older new t older n other = cond-false (n == length older) (new ∷ older) (t ∷ put_space n new older) (ne_eqb n (length older) other)

-- the newest space over other older ones that are as many
pub tree_over : (t : Space) (xs ys : Spaces) → length xs ≡ length ys → IsTree (t ∷ ys) → IsTree xs → IsTree (t ∷ xs)
tree_over t xs [] same tree rest = absurd (no xs same rest)
  where
    no : (zs : Spaces) → length zs ≡ 0 → IsTree zs → ⊥
    no [] e wrong = wrong
    no (z ∷ zs) e _ = omega arith
tree_over t [] (u ∷ ys) same tree rest = absurd rest
tree_over t (v ∷ xs) (u ∷ ys) same tree rest = (subst (λ (n : ℕ). IsSomeAnd t.parent (λ p. p < n)) (sym same) tree.0, rest)

-- the newest space changed, its parent kept
pub tree_newest : (new t : Space) (older : Spaces) → new.parent ≡ t.parent → IsTree (t ∷ older) → IsTree (new ∷ older)
tree_newest new t [] same tree = same ∙ tree
tree_newest new t (u ∷ older) same tree = (subst (λ (o : Option ℕ). IsSomeAnd o (λ p. p < length (u ∷ older))) (sym same) tree.0, tree.1)

pub tree_put : (n : ℕ) (new : Space) (spaces : Spaces) → n < length spaces → new.parent ≡ (space_of spaces n).parent
    → IsTree spaces → IsTree (put_space n new spaces)
tree_put n new [] there same tree = tree
tree_put n new (t ∷ older) there same tree =
    elim (cases_eq n (length older)) [
      | inl at ↦
          subst IsTree (sym (put_newest new t older n at))
          (tree_newest new t older (same ∙ ap (λ (s : Space). s.parent) (space_of_newest t older n at)) tree)
      | inr other ↦
          let low : n < length older = omega arith in
          subst IsTree (sym (put_older new t older n other))
          (tree_over t (put_space n new older) older (length_put n new older) tree
          (tree_put n new older low (same ∙ ap (λ (s : Space). s.parent) (space_of_older t older n other)) (tree_older t older n low tree)))
    ]

-- a new space whose parent stands
pub tree_grows : (new : Space) (at : ℕ) (spaces : Spaces) → new.parent ≡ Some at → at < length spaces → IsTree spaces → IsTree (new ∷ spaces)
tree_grows new at [] parent there tree = absurd tree
tree_grows new at (t ∷ older) parent there tree = (subst (λ (o : Option ℕ). IsSomeAnd o (λ p. p < length (t ∷ older))) (sym parent) there, tree)

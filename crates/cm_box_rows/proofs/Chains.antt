-- From a space to its parent: what is said of the spaces above it, as what is said of its parent and those above that.
use Rattle.std.proofs.Common.{◌≡◌, ℕ, ◌==◌, ◌||◌, false, ◌∷◌, Option, Some, None, refl, sym, ap, ◌∙◌, inl, inr}
use Rattle.std.specs.Prelude.{◌↔◌, ◌⊎◌, IsTrue}
use Rattle.std.specs.List.{list_any}
use Rattle.std.proofs.lemmas.Bool.{false≢true, or_cases, or_left, or_right, eqb-true, eq-eqb}
use Rattle.model_cred.proofs.Spaces.{chain_none}
use Rattle.model_cred.specs.Space.{Spaces, chain, chain_from, is_at_or_above, space_of}
use Rattle.model_box.specs.Spread.{IsNext}

-- the spaces at or above a space are it, and those at or above its parent
at_or_above_step : (spaces : Spaces) (n p m : ℕ) → chain spaces n ≡ n ∷ chain_from spaces (Some p)
    → is_at_or_above spaces m n ≡ ((n == m) || is_at_or_above spaces m p)
at_or_above_step spaces n p m is = ap (list_any (λ k. k == m)) is

-- where there is no parent, it alone
at_or_above_end : (spaces : Spaces) (n m : ℕ) → chain spaces n ≡ n ∷ chain_from spaces None
    → is_at_or_above spaces m n ≡ ((n == m) || false)
at_or_above_end spaces n m is = ap (list_any (λ k. k == m)) (is ∙ ap (λ l. n ∷ l) (chain_none spaces))

-- some space at or above it is such
abbrev pub SomeAbove : Spaces → (ℕ → Type 0) → ℕ → Type 0
SomeAbove spaces P n = (a : ℕ) × IsTrue (is_at_or_above spaces a n) × P a

pub some_end : (spaces : Spaces) (P : ℕ → Type 0) (n : ℕ) → chain spaces n ≡ n ∷ chain_from spaces None → P n ↔ SomeAbove spaces P n
some_end spaces P n is = (to, from) where
  to : P n → SomeAbove spaces P n
  to here = (n, at_or_above_end spaces n n is ∙ or_left (n == n) false (eq-eqb n n refl), here)

  from : SomeAbove spaces P n → P n
  from (a, above, has) = elim (or_cases (n == a) false (sym (at_or_above_end spaces n a is) ∙ above)) [
    | inl same ↦ rw (eqb-true n a same) has
    | inr wrong ↦ absurd (false≢true wrong)
  ]

-- the space whose parent is the first is the second itself, or is on the chain of its parent
pub next_step : (spaces : Spaces) (a n p m : ℕ) → chain spaces n ≡ n ∷ chain_from spaces (Some p)
    → (space_of spaces n).parent ≡ Some p → (((m ≡ n) × (p ≡ a)) ⊎ IsNext spaces a p m) ↔ IsNext spaces a n m
next_step spaces a n p m is parent = (to, from) where
  to : ((m ≡ n) × (p ≡ a)) ⊎ IsNext spaces a p m → IsNext spaces a n m
  to (inl (same, at)) =
      rw same (
        at_or_above_step spaces n p n is ∙ or_left (n == n) (is_at_or_above spaces n p) (eq-eqb n n refl),
        parent ∙ ap (λ (k : ℕ). Some k) at,
      )
  to (inr (above, up)) = (at_or_above_step spaces n p m is ∙ or_right (n == m) (is_at_or_above spaces m p) above, up)

  from : IsNext spaces a n m → ((m ≡ n) × (p ≡ a)) ⊎ IsNext spaces a p m
  from (above, up) = elim (or_cases (n == m) (is_at_or_above spaces m p) (sym (at_or_above_step spaces n p m is) ∙ above)) [
    | inl same ↦
        let m_is : m ≡ n = sym (eqb-true n m same) in
        let both : Some p ≡ Some a = sym parent ∙ (rw (sym m_is) up) in
        inl (m_is, cc)
    | inr later ↦ inr (later, up)
  ]

pub next_end : (spaces : Spaces) (a n m : ℕ) → chain spaces n ≡ n ∷ chain_from spaces None
    → (space_of spaces n).parent ≡ None → IsNext spaces a n m → ⊥
next_end spaces a n m is parent (above, up) = elim (or_cases (n == m) false (sym (at_or_above_end spaces n m is) ∙ above)) [
  | inl same ↦ let none : (space_of spaces m).parent ≡ None = rw (sym (eqb-true n m same)) parent in cc
  | inr wrong ↦ absurd (false≢true wrong)
]

-- where the space itself is such
pub some_here : (spaces : Spaces) (P : ℕ → Type 0) (n : ℕ) (o : Option ℕ) → chain spaces n ≡ n ∷ chain_from spaces o → P n → SomeAbove spaces P n
some_here spaces P n o is here =
    (n, ap (list_any (λ k. k == n)) is ∙ or_left (n == n) (list_any (λ k. k == n) (chain_from spaces o)) (eq-eqb n n refl), here)

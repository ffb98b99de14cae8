-- Chains of spaces: a chain is the number of its first space and then the chain of that space's parent, which is older.
use Rattle.std.proofs.Common.{◌≡◌, ◌≢◌, ℕ, ◌<◌, ◌++◌, ◌==◌, Bool, true, false, List, [], ◌∷◌, length, Option, Some}
use Rattle.std.proofs.Common.{None, if◌then◌else◌, refl, sym, ap, ◌∙◌, inl, inr, arith}
use Rattle.std.proofs.lemmas.Bool.{cases_eq, ne_eqb, eq-eqb, eqb-true, cond-true, cond-false}
use Rattle.model_cred.specs.IdMap.{is_the}
use Rattle.model_cred.specs.Space.{Space, Spaces, IsTree, space_at, chain, chain_from}

-- an optional number that isn't this one fails the test for it
pub not_the : (o : Option ℕ) (k : ℕ) → ((p : ℕ) → o ≡ Some p → p ≢ k) → is_the o k ≡ false
not_the None k other = refl
not_the (Some p) k other = ne_eqb k p (λ same. other p refl (sym same))

-- an optional number that passes the test is this one
pub the_is : (o : Option ℕ) (k : ℕ) → is_the o k ≡ true → o ≡ Some k
the_is None k wrong = absurd (cc)
the_is (Some p) k same = ap (λ (n : ℕ). Some n) (sym (eqb-true k p same))

-- the number passes the test for itself
pub is_the_same : (o : Option ℕ) (k : ℕ) → o ≡ Some k → is_the o k ≡ true
is_the_same o k e = ap (λ (n : Option ℕ). is_the n k) e ∙ eq-eqb k k refl

-- the newest space
pub space_newest : (t : Space) (older : Spaces) (n : ℕ) → n ≡ length older → space_at (t ∷ older) n ≡ Some t
space_newest t older n same = cond-true (n == length older) (Some t) (space_at older n) (eq-eqb n (length older) same)

-- another one
pub space_older : (t : Space) (older : Spaces) (n : ℕ) → n ≢ length older → space_at (t ∷ older) n ≡ space_at older n
space_older t older n other = cond-false (n == length older) (Some t) (space_at older n) (ne_eqb n (length older) other)

-- a space that is there has a number below how many there are
pub number_below : (spaces : Spaces) (n : ℕ) (s : Space) → space_at spaces n ≡ Some s → n < length spaces
number_below [] n s is = absurd (cc)
number_below (t ∷ older) n s is =
    elim (cases_eq n (length older)) [
      | inl same ↦ omega arith
      | inr other ↦ let below : n < length older = number_below older n s (sym (space_older t older n other) ∙ is) in omega arith
    ]

-- and the other way
pub space_there : (spaces : Spaces) (n : ℕ) → n < length spaces → (s : Space) × (space_at spaces n ≡ Some s)
space_there [] n low = absurd (omega arith)
space_there (t ∷ older) n low =
    elim (cases_eq n (length older)) [
      | inl same ↦ (t, space_newest t older n same)
      | inr other ↦ let rest : (s : Space) × (space_at older n ≡ Some s) = space_there older n (omega arith) in (rest.0, space_older t older n other ∙ rest.1)
    ]

-- the older spaces of a tree are one
pub tree_older : (t : Space) (older : Spaces) (n : ℕ) → n < length older → IsTree (t ∷ older) → IsTree older
tree_older t [] n low tree = absurd (omega arith)
tree_older t (u ∷ older) n low tree = tree.1

-- the parent of the newest space is older
pub newest_parent : (t : Space) (older : Spaces) → IsTree (t ∷ older) → (p : ℕ) → t.parent ≡ Some p → p < length older
newest_parent t [] tree p is = absurd (cc)
newest_parent t (u ∷ older) tree p is = rw is at tree.0

-- the parent of each space is older
pub parent_older : (spaces : Spaces) (n p : ℕ) (s : Space) → IsTree spaces → space_at spaces n ≡ Some s → s.parent ≡ Some p → p < n
parent_older [] n p s tree is parent = absurd (cc)
parent_older (t ∷ older) n p s tree is parent =
    elim (cases_eq n (length older)) [
      | inl same ↦
          let it : Some t ≡ Some s = sym (space_newest t older n same) ∙ is in
          let its : t.parent ≡ Some p = cc in
          let low : p < length older = newest_parent t older tree p its in
          omega arith
      | inr other ↦
          let at : space_at older n ≡ Some s = sym (space_older t older n other) ∙ is in
          parent_older older n p s (tree_older t older n (number_below older n s at) tree) at parent
    ]

-- a chain that begins with the newest space goes on from its parent
pub chain_take : (t : Space) (older : Spaces) (o : Option ℕ) → is_the o (length older) ≡ true
    → chain_from (t ∷ older) o ≡ length older ∷ chain_from older t.parent
chain_take t older o is =
    ap (λ (b : Bool). (if b then length older ∷ [] else []) ++ chain_from older (if b then t.parent else o)) is

-- another one lies in the older spaces
pub chain_skip : (t : Space) (older : Spaces) (o : Option ℕ) → is_the o (length older) ≡ false
    → chain_from (t ∷ older) o ≡ chain_from older o
chain_skip t older o is =
    ap (λ (b : Bool). (if b then length older ∷ [] else []) ++ chain_from older (if b then t.parent else o)) is

-- the chain of a space is its number and the chain of its parent
pub chain_step : (spaces : Spaces) (n : ℕ) (s : Space) → IsTree spaces → space_at spaces n ≡ Some s
    → chain spaces n ≡ n ∷ chain_from spaces s.parent
chain_step [] n s tree is = absurd (cc)
chain_step (t ∷ older) n s tree is =
    elim (cases_eq n (length older)) [
      | inl same ↦
          let it : Some t ≡ Some s = sym (space_newest t older n same) ∙ is in
          let is_s : t ≡ s = cc in
          let skip : chain_from (t ∷ older) t.parent ≡ chain_from older t.parent
          = chain_skip t older t.parent (not_the t.parent (length older) (λ p e. let low : p < length older = newest_parent t older tree p e in omega arith)) in
          chain_take t older (Some n) (eq-eqb (length older) n (sym same))
          ∙ ap (λ (m : ℕ). m ∷ chain_from older t.parent) (sym same)
          ∙ ap (λ (rest : List ℕ). n ∷ rest) (sym skip ∙ ap (λ (u : Space). chain_from (t ∷ older) u.parent) is_s)
      | inr other ↦
          let at : space_at older n ≡ Some s = sym (space_older t older n other) ∙ is in
          let low : n < length older = number_below older n s at in
          let tree_of : IsTree older = tree_older t older n low tree in
          let skip : chain_from (t ∷ older) s.parent ≡ chain_from older s.parent
          = chain_skip t older s.parent (not_the s.parent (length older) (λ p e. let under : p < n = parent_older older n p s tree_of at e in omega arith)) in
          chain_skip t older (Some n) (ne_eqb (length older) n (λ same. other (sym same)))
          ∙ chain_step older n s tree_of at
          ∙ ap (λ (rest : List ℕ). n ∷ rest) (sym skip)
    ]

-- The owner that is sought: chains of spaces, and the space on one whose parent is a given one.
use Rattle.std.proofs.Common.{◌≡◌, ◌≢◌, ◌⊎◌, ℕ, zero, suc, ◌<◌, ◌≤◌, ◌==◌, Bool, true, false, List, [], ◌∷◌, length}
use Rattle.std.proofs.Common.{Option, None, Some, option_map, refl, sym, ap, ◌∙◌, inl, inr, subst, arith}
use Rattle.std.specs.Prelude.{find, unwrap_or}
use Rattle.std.specs.List.{list_any}
use Rattle.std.proofs.lemmas.Bool.{cases_Bool, cases_lt, cases_eq, cond-true, cond-false, eqb-true, eq-eqb, or_cases, or_left, or_right}
use Rattle.model_cred.proofs.Chains.{the_is, is_the_same, space_there, parent_older, chain_step}
use Rattle.model_cred.proofs.Spaces.{chain_none, chain_empty}
use Rattle.model_cred.specs.IdMap.{is_the}
use Rattle.model_cred.specs.Space.{Space, Spaces, IsTree, space_at, space_of, no_space, chain, chain_from, is_at_or_above, is_child, next_below}
use Rattle.model_plans.specs.Sought.{IsOnTheWay, SoughtOwner, OwnersAreSought}
use Rattle.model_plans.proofs.Holders.{found_passes}

module _ (spaces : Spaces) (tree : IsTree spaces) (at : ℕ) where
  -- a space whose parent is `at` is a child of it, by the test too
  child_of : (o : Option Space) → (unwrap_or o no_space).parent ≡ Some at → is_child o at ≡ true
  child_of None wrong = absurd (cc)
  child_of (Some s) is = is_the_same s.parent at is

  of_child : (o : Option Space) → is_child o at ≡ true → (unwrap_or o no_space).parent ≡ Some at
  of_child None wrong = absurd (cc)
  of_child (Some s) is = the_is s.parent at is

  abbrev tests : ℕ → Bool
  tests m = is_child (space_at spaces m) at

  -- a space that isn't there has no chain
  none_past : (n a : ℕ) → length spaces ≤ n → is_at_or_above spaces a n ≡ true → ⊥
  none_past n a high is = let none : is_at_or_above spaces a n ≡ false = ap (list_any (λ m. m == a)) (chain_empty spaces n high) in cc

  -- a parent is older
  parent_below : (m : ℕ) (o : Option Space) → space_at spaces m ≡ o → is_child o at ≡ true → at < m
  parent_below m None is wrong = absurd (cc)
  parent_below m (Some s) is child = parent_older spaces m at s tree is (the_is s.parent at child)

  child_below : (m : ℕ) → tests m ≡ true → at < m
  child_below m child = parent_below m (space_at spaces m) refl child

  -- ---- along a chain
  -- what is known of the chain of a space
  record Along (n : ℕ) : Type 0 where
    self : is_at_or_above spaces n n ≡ true
    low : (m : ℕ) → is_at_or_above spaces m n ≡ true → m ≤ n
    found : (m : ℕ) → is_at_or_above spaces m n ≡ true → tests m ≡ true → next_below spaces at n ≡ Some m
    exists : is_at_or_above spaces at n ≡ true → at ≢ n → (m : ℕ) × (is_at_or_above spaces m n ≡ true) × (tests m ≡ true)
    above : (m : ℕ) → is_at_or_above spaces m n ≡ true → tests m ≡ true → is_at_or_above spaces at n ≡ true

  -- a space without a parent is alone on its chain
  along_top : (n : ℕ) → chain spaces n ≡ n ∷ [] → tests n ≡ false → Along n
  along_top n is top =
      let only : (m : ℕ) → is_at_or_above spaces m n ≡ true → n ≡ m
      = λ m it. elim (or_cases (n == m) false (sym (ap (list_any (λ k. k == m)) is) ∙ it)) [
        | inl same ↦ eqb-true n m same
        | inr wrong ↦ absurd (cc)
      ] in
      let never : (m : ℕ) → is_at_or_above spaces m n ≡ true → tests m ≡ true → ⊥
      = λ m it child. let no : true ≡ false = sym child ∙ ap tests (sym (only m it)) ∙ top in cc in
      record {
        self = ap (list_any (λ k. k == n)) is ∙ or_left (n == n) false (eq-eqb n n refl);
        low = λ m it. let same : n ≡ m = only m it in omega arith;
        found = λ m it child. absurd (never m it child);
        exists = λ it other. absurd (other (sym (only at it)));
        above = λ m it child. absurd (never m it child);
      }

  -- the chain of a space with a parent goes on with that of the parent
  along_next : (n p : ℕ) → chain spaces n ≡ n ∷ chain spaces p → p < n → tests n ≡ (at == p) → Along p → Along n
  along_next n p is less test parent =
      let up : (m : ℕ) → is_at_or_above spaces m p ≡ true → is_at_or_above spaces m n ≡ true
      = λ m it. ap (list_any (λ k. k == m)) is ∙ or_right (n == m) (is_at_or_above spaces m p) it in
      let here : is_at_or_above spaces n n ≡ true
      = ap (list_any (λ k. k == n)) is ∙ or_left (n == n) (is_at_or_above spaces n p) (eq-eqb n n refl) in
      let cases : (m : ℕ) → is_at_or_above spaces m n ≡ true → (n ≡ m) ⊎ (is_at_or_above spaces m p ≡ true)
      = λ m it. elim (or_cases (n == m) (is_at_or_above spaces m p) (sym (ap (list_any (λ k. k == m)) is) ∙ it)) [
        | inl same ↦ inl (eqb-true n m same)
        | inr later ↦ inr later
      ] in
      let of_parent : tests n ≡ true → at ≡ p = λ child. eqb-true at p (sym test ∙ child) in
      record {
        self = here;
        low = λ m it. elim (cases m it) [
          | inl same ↦ omega arith
          | inr later ↦ let le : m ≤ p = parent.low m later in omega arith
        ];
        found = λ m it child. ap (find tests) is ∙ elim (cases_Bool (tests n)) [
          | inl first ↦
              cond-true (tests n) (Some n) (find tests (chain spaces p)) first
              ∙ ap (λ (k : ℕ). Some k) (elim (cases m it) [
                | inl same ↦ same
                | inr later ↦
                    let le : m ≤ p = parent.low m later in
                    let below : at < m = child_below m child in
                    let same : at ≡ p = of_parent first in
                    absurd (omega arith)
              ])
          | inr not_it ↦
              cond-false (tests n) (Some n) (find tests (chain spaces p)) not_it
              ∙ elim (cases m it) [
                | inl same ↦ absurd (let no : true ≡ false = sym child ∙ ap tests (sym same) ∙ not_it in cc)
                | inr later ↦ parent.found m later child
              ]
        ];
        exists = λ it other. elim (cases at it) [
          | inl same ↦ absurd (other (sym same))
          | inr later ↦ elim (cases_eq at p) [
            | inl same ↦ (n, here, test ∙ eq-eqb at p same)
            | inr apart ↦
                let further : (m : ℕ) × (is_at_or_above spaces m p ≡ true) × (tests m ≡ true) = parent.exists later apart in
                (further.0, up further.0 further.1, further.2)
          ]
        ];
        above = λ m it child. elim (cases m it) [
          | inl same ↦
              let p_is : at ≡ p = of_parent (ap tests same ∙ child) in
              up at (subst (λ (k : ℕ). is_at_or_above spaces k p ≡ true) (sym p_is) parent.self)
          | inr later ↦ up at (parent.above m later child)
        ];
      }

  along : (fuel n : ℕ) → n < fuel → n < length spaces → Along n
  along zero n low there = absurd (omega arith)
  along (suc fuel) n low there =
      let it : (s : Space) × (space_at spaces n ≡ Some s) = space_there spaces n there in
      by it.0 it.1 it.0.parent refl (λ p less. along fuel p (omega arith) (omega arith))
    where
      by : (s : Space) → space_at spaces n ≡ Some s → (o : Option ℕ) → s.parent ≡ o → ((p : ℕ) → p < n → Along p) → Along n
      by s is None parent rest =
          along_top n (chain_step spaces n s tree is ∙ ap (λ (o : Option ℕ). n ∷ chain_from spaces o) parent ∙ ap (λ (c : List ℕ). n ∷ c) (chain_none spaces))
          (ap (λ (o : Option Space). is_child o at) is ∙ ap (λ (o : Option ℕ). is_the o at) parent)
      by s is (Some p) parent rest =
          let less : p < n = parent_older spaces n p s tree is parent in
          along_next n p (chain_step spaces n s tree is ∙ ap (λ (o : Option ℕ). n ∷ chain_from spaces o) parent) less
          (ap (λ (o : Option Space). is_child o at) is ∙ ap (λ (o : Option ℕ). is_the o at) parent) (rest p less)

  -- ---- the owner
  -- none is found where there is none
  nothing : (n : ℕ) → ((next : ℕ) → IsOnTheWay spaces at n next → ⊥) → next_below spaces at n ≡ None
  nothing n never = by (next_below spaces at n) refl
    where
      by : (o : Option ℕ) → next_below spaces at n ≡ o → next_below spaces at n ≡ None
      by None none = none
      by (Some m) is =
          let it : (is_at_or_above spaces m n ≡ true) × (tests m ≡ true) = found_passes tests (chain spaces n) m is in
          absurd (never m (it.0, of_child (space_at spaces m) it.1))

  sought : (cap n : ℕ) → n < length spaces → SoughtOwner spaces at cap n
  sought cap n there =
      let chained : Along n = along (suc n) n (omega arith) there in
      record {
        owner = λ next it. ap (option_map (λ m. (space_of spaces m).owner)) (chained.found next it.0 (child_of (space_at spaces next) it.1));
        one = λ it other.
            let next : (m : ℕ) × (is_at_or_above spaces m n ≡ true) × (tests m ≡ true) = chained.exists it other in
            (next.0, (next.1, of_child (space_at spaces next.0) next.2));
        above = λ next it.
            let child : tests next ≡ true = child_of (space_at spaces next) it.1 in (
              chained.above next it.0 child,
              λ same. let below : at < next = child_below next child in let le : next ≤ n = chained.low next it.0 in omega arith,
            );
        none = λ never. ap (option_map (λ m. (space_of spaces m).owner)) (nothing n never);
      }

  -- above a space that doesn't stand there is none
  sought_past : (cap n : ℕ) → length spaces ≤ n → SoughtOwner spaces at cap n
  sought_past cap n high = record {
    owner = λ next it. absurd (none_past n next high it.0);
    one = λ it other. absurd (none_past n at high it);
    above = λ next it. absurd (none_past n next high it.0);
    none = λ never. ap (option_map (λ m. (space_of spaces m).owner)) (nothing n never);
  }

pub owners_are_sought : OwnersAreSought
unfolding OwnersAreSought
owners_are_sought spaces at cap n tree =
    elim (cases_lt n (length spaces)) [
      | inl there ↦ sought spaces tree at cap n there
      | inr high ↦ sought_past spaces tree at cap n high
    ]

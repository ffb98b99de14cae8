-- Power over a space, by how the member's own lies to it.
use Rattle.std.proofs.Common.{◌≡◌, ℕ, ◌==◌, ◌≤◌, ◌&&◌, ◌||◌, Bool, true, false, List, [], ◌∷◌, Option, None, Some, option_map, length, refl, sym, ap, ◌∙◌, inl, inr}
use Rattle.std.specs.Prelude.{find, unwrap_or}
use Rattle.std.specs.List.{list_any}
use Rattle.std.proofs.lemmas.Bool.{cases_Bool, cond-true, cond-false, eqb-true, eq-eqb, and_parts, and_from, or_cases, or_left, or_right, false≢true}
use Rattle.cm_base.specs.CapSet.{holds}
use Rattle.model_cred.proofs.Chains.{the_is}
use Rattle.model_cred.specs.Credential.{Credential}
use Rattle.model_cred.specs.IdMap.{is_the}
use Rattle.model_cred.specs.Right.{Cap}
use Rattle.model_cred.specs.Space.{Space, Spaces, IsTree, space_at, space_of, no_space, chain, is_at_or_above, is_child, next_below}
use Rattle.model_cred.proofs.Spaces.{chain_empty}
use Rattle.cm_plans.specs.Ways.{way_of}
use Rattle.cm_plans.specs.declared.ways.Way.{Way}
use Rattle.model_plans.proofs.Holders.{found_passes}
use Rattle.model_plans.proofs.Owners.{owners_are_sought}
use Rattle.model_plans.specs.Move.{sought_uid}
use Rattle.model_plans.specs.Sought.{IsOnTheWay, OwnersAreSought}
use Rattle.model_rules.specs.Power.{gives_power, has_over, is_owned}

-- two that are true alike are the same
alike : (a b : Bool) → (a ≡ true → b ≡ true) → (b ≡ true → a ≡ true) → a ≡ b
alike true b there back = sym (there refl)
alike false true there back = back refl
alike false false there back = refl

-- where a test passes some number, one is found
any_found : (test : ℕ → Bool) (ns : List ℕ) → list_any test ns ≡ true → (m : ℕ) × (find test ns ≡ Some m)
any_found test [] some = absurd (false≢true some)
any_found test (n ∷ ns) some = elim (cases_Bool (test n)) [
  | inl here ↦ (n, cond-true (test n) (Some n) (find test ns) here)
  | inr fails ↦ elim (or_cases (test n) (list_any test ns) some) [
    | inl here ↦ absurd (false≢true (sym fails ∙ here))
    | inr later ↦
        let rest : (m : ℕ) × (find test ns ≡ Some m) = any_found test ns later in
        (rest.0, cond-false (test n) (Some n) (find test ns) fails ∙ rest.1)
  ]
]

-- what is found by one test passes another for some number, if it passes that
found_any : (test other : ℕ → Bool) (ns : List ℕ) (m : ℕ) → find test ns ≡ Some m → other m ≡ true → list_any other ns ≡ true
found_any test other [] m is passes = absurd (cc)
found_any test other (n ∷ ns) m is passes = elim (cases_Bool (test n)) [
  | inl here ↦
      let it : Some n ≡ Some m = sym (cond-true (test n) (Some n) (find test ns) here) ∙ is in
      let same : n ≡ m = cc in
      or_left (other n) (list_any other ns) (ap other same ∙ passes)
  | inr fails ↦
      or_right (other n) (list_any other ns)
      (found_any test other ns m (sym (cond-false (test n) (Some n) (find test ns) fails) ∙ is) passes)
]

-- equal either way
turned : (a b : ℕ) → (a == b) ≡ true → (b == a) ≡ true
turned a b is = eq-eqb b a (sym (eqb-true a b is))

module _ (spaces : Spaces) (tree : IsTree spaces) (at : ℕ) (c : Credential) (cap n : ℕ) where
  abbrev gives : ℕ → Bool
  gives = gives_power spaces at c.effective c.uid.effective cap

  abbrev by_way : Bool
  by_way = (is_at_or_above spaces at n && holds c.effective cap) || is_the (sought_uid spaces at (Cap cap n)) c.uid.effective

  -- an owned space is a child, and its owner is the member
  parent_of_owned : (o : Option Space) → is_owned at c.uid.effective o ≡ true → (unwrap_or o no_space).parent ≡ Some at
  parent_of_owned None owned = absurd (false≢true owned)
  parent_of_owned (Some s) owned = the_is s.parent at (and_parts (is_the s.parent at) (s.owner == c.uid.effective) owned).0

  owner_of_owned : (o : Option Space) → is_owned at c.uid.effective o ≡ true → ((unwrap_or o no_space).owner == c.uid.effective) ≡ true
  owner_of_owned None owned = absurd (false≢true owned)
  owner_of_owned (Some s) owned = (and_parts (is_the s.parent at) (s.owner == c.uid.effective) owned).1

  owned_child : (o : Option Space) → is_child o at ≡ true → ((unwrap_or o no_space).owner == c.uid.effective) ≡ true
      → is_owned at c.uid.effective o ≡ true
  owned_child None child owner = absurd (false≢true child)
  owned_child (Some s) child owner = and_from (is_the s.parent at) (s.owner == c.uid.effective) child owner

  -- the owner of a space on the way is the one that is sought
  sought : (m : ℕ) → IsOnTheWay spaces at n m → sought_uid spaces at (Cap cap n) ≡ Some (space_of spaces m).owner
  unfolding OwnersAreSought
  sought m it = (owners_are_sought spaces at cap n tree).owner m it

  there : has_over spaces at c cap n ≡ true → by_way ≡ true
  there has =
      let found : (m : ℕ) × (find gives (chain spaces n) ≡ Some m) = any_found gives (chain spaces n) has in
      let m : ℕ = found.0 in
      let it = found_passes gives (chain spaces n) m found.1 in
      elim (or_cases (m == at && holds c.effective cap) (is_owned at c.uid.effective (space_at spaces m)) it.1) [
        | inl own ↦
            let parts = and_parts (m == at) (holds c.effective cap) own in
            or_left (is_at_or_above spaces at n && holds c.effective cap) (is_the (sought_uid spaces at (Cap cap n)) c.uid.effective)
            (and_from (is_at_or_above spaces at n) (holds c.effective cap)
            (ap (λ (k : ℕ). is_at_or_above spaces k n) (sym (eqb-true m at parts.0)) ∙ it.0) parts.1)
        | inr owned ↦
            or_right (is_at_or_above spaces at n && holds c.effective cap) (is_the (sought_uid spaces at (Cap cap n)) c.uid.effective)
            (ap (λ (o : Option ℕ). is_the o c.uid.effective) (sought m (it.0, parent_of_owned (space_at spaces m) owned))
            ∙ turned (space_of spaces m).owner c.uid.effective (owner_of_owned (space_at spaces m) owned))
      ]

  -- by the next space on the way down
  by_next : (o : Option ℕ) → next_below spaces at n ≡ o
      → is_the (option_map (λ next. (space_of spaces next).owner) o) c.uid.effective ≡ true → has_over spaces at c cap n ≡ true
  by_next None is owner = absurd (false≢true owner)
  by_next (Some m) is owner =
      let child = (found_passes (λ m. is_child (space_at spaces m) at) (chain spaces n) m is).1 in
      found_any (λ m. is_child (space_at spaces m) at) gives (chain spaces n) m is
      (or_right (m == at && holds c.effective cap) (is_owned at c.uid.effective (space_at spaces m))
      (owned_child (space_at spaces m) child (turned c.uid.effective (space_of spaces m).owner owner)))

  back : by_way ≡ true → has_over spaces at c cap n ≡ true
  back by =
      elim (or_cases (is_at_or_above spaces at n && holds c.effective cap) (is_the (sought_uid spaces at (Cap cap n)) c.uid.effective) by) [
        | inl own ↦
            let parts = and_parts (is_at_or_above spaces at n) (holds c.effective cap) own in
            let found : (m : ℕ) × (find (λ m. m == at) (chain spaces n) ≡ Some m) = any_found (λ m. m == at) (chain spaces n) parts.0 in
            let same = (found_passes (λ m. m == at) (chain spaces n) found.0 found.1).1 in
            found_any (λ m. m == at) gives (chain spaces n) found.0 found.1
            (or_left (found.0 == at && holds c.effective cap) (is_owned at c.uid.effective (space_at spaces found.0))
            (and_from (found.0 == at) (holds c.effective cap) same parts.1))
        | inr owner ↦ by_next (next_below spaces at n) refl owner
      ]

  -- A member has the capability where its space is that of the right or above it and the capability is effective, or where
  -- it is the owner that is sought.
  pub power_by_way : has_over spaces at c cap n ≡ by_way
  power_by_way = alike (has_over spaces at c cap n) by_way there back

-- to a space that doesn't stand none is above, and no owner is sought
pub no_way : (spaces : Spaces) (at cap n : ℕ) → length spaces ≤ n → record { above = false; sought = None } ≡ way_of spaces (Cap cap n) at
no_way spaces at cap n high =
    let Of : List ℕ → Way = λ ns. record {
      above = list_any (λ m. m == at) ns;
      sought = option_map (λ next. (space_of spaces next).owner) (find (λ m. is_child (space_at spaces m) at) ns);
    } in
    sym (ap Of (chain_empty spaces n high))

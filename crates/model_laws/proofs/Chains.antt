-- Chains of spaces, and the laws of power over them.
use Rattle.std.proofs.Common.{◌≡◌, ℕ, suc, zero, ◌<◌, ◌≤◌, ◌||◌, ◌&&◌, ◌==◌, ◌↔◌, true, false, length, Option, Some}
use Rattle.std.proofs.Common.{None, refl, sym, subst, ap, ◌∙◌, inl, inr, arith}
use Rattle.std.specs.Prelude.{IsTrue}
use Rattle.std.specs.List.{list_any}
use Rattle.std.proofs.lemmas.Bool.{cases_lt, eq-eqb, eqb-true, ltb-true}
use Rattle.std.proofs.lemmas.Bool.{and_parts, and_from, or_cases, or_left, or_right, false_from_ne_true}
use Rattle.cm_base.proofs.CapSets.{same_tests}
use Rattle.cm_base.specs.CapSet.{holds}
use Rattle.model_cred.proofs.Chains.{the_is, is_the_same, space_there, parent_older, chain_step}
use Rattle.model_cred.proofs.Spaces.{chain_none, chain_empty}
use Rattle.model_cred.specs.IdMap.{is_the}
use Rattle.model_cred.specs.Space.{Space, Spaces, IsTree, space_at, chain_from, is_at_or_above}
use Rattle.model_rules.specs.Power.{Over, here, owned, above, over, has_over, gives_power, is_owned}
use Rattle.model_laws.specs.Powers.{PowerIsComputed, NoPowerAbove, PowerOverOwnSpace}

-- the test of a space and of those above it
over_step : (spaces : Spaces) (at effective euid cap n : ℕ) (s : Space) → IsTree spaces → space_at spaces n ≡ Some s
    → over spaces at effective euid cap n
    ≡ (gives_power spaces at effective euid cap n || list_any (gives_power spaces at effective euid cap) (chain_from spaces s.parent))
over_step spaces at effective euid cap n s tree is = ap (list_any (gives_power spaces at effective euid cap)) (chain_step spaces n s tree is)

-- the relation as the function
over_forth : (spaces : Spaces) (at effective euid cap n : ℕ) → IsTree spaces → at < length spaces
    → Over spaces at effective euid cap n → IsTrue (over spaces at effective euid cap n)
over_forth spaces at effective euid cap n tree low (here held) =
    let it : (s : Space) × (space_at spaces at ≡ Some s) = space_there spaces at low in
    over_step spaces at effective euid cap at it.0 tree it.1
    ∙ or_left _ _ (or_left _ _ (and_from _ _ (eq-eqb at at refl) held))
over_forth spaces at effective euid cap n tree low (owned m s is parent owner) =
    over_step spaces at effective euid cap m s tree is
    ∙ or_left _ _ (or_right (m == at && holds effective cap) (is_owned at euid (space_at spaces m))
    (ap (is_owned at euid) is ∙ and_from (is_the s.parent at) (s.owner == euid) (is_the_same s.parent at parent) (eq-eqb s.owner euid owner)))
over_forth spaces at effective euid cap n tree low (above m p s is parent rest) =
    over_step spaces at effective euid cap m s tree is
    ∙ or_right (gives_power spaces at effective euid cap m) _
    (ap (λ (o : Option ℕ). list_any (gives_power spaces at effective euid cap) (chain_from spaces o)) parent
    ∙ over_forth spaces at effective euid cap p tree low rest)

-- a space that the member owns
owned_by : (spaces : Spaces) (at effective euid cap n : ℕ) (s : Space) → space_at spaces n ≡ Some s
    → is_owned at euid (space_at spaces n) ≡ true → Over spaces at effective euid cap n
owned_by spaces at effective euid cap n s is owns =
    let parts : (is_the s.parent at ≡ true) × ((s.owner == euid) ≡ true) =
    and_parts (is_the s.parent at) (s.owner == euid) (sym (ap (is_owned at euid) is) ∙ owns) in
    owned n s is (the_is s.parent at parts.0) (eqb-true s.owner euid parts.1)

-- what the first space of a chain gives
gives_forth : (spaces : Spaces) (at effective euid cap n : ℕ) (s : Space) → space_at spaces n ≡ Some s
    → gives_power spaces at effective euid cap n ≡ true → Over spaces at effective euid cap n
gives_forth spaces at effective euid cap n s is gives =
    elim (or_cases (n == at && holds effective cap) (is_owned at euid (space_at spaces n)) gives) [
      | inl own ↦
          let parts : ((n == at) ≡ true) × (holds effective cap ≡ true) = and_parts (n == at) (holds effective cap) own in
          let same : n ≡ at = eqb-true n at parts.0 in
          subst (λ (m : ℕ). Over spaces at effective euid cap m) (sym same) (here parts.1)
      | inr owns ↦ owned_by spaces at effective euid cap n s is owns
    ]

-- power over a space through its parent
from_parent : (spaces : Spaces) (at effective euid cap n : ℕ) → IsTree spaces
    → ((p : ℕ) → p < n → IsTrue (over spaces at effective euid cap p) → Over spaces at effective euid cap p)
    → (s : Space) → space_at spaces n ≡ Some s → (o : Option ℕ) → s.parent ≡ o
    → list_any (gives_power spaces at effective euid cap) (chain_from spaces o) ≡ true → Over spaces at effective euid cap n
from_parent spaces at effective euid cap n tree before s is None parent rest =
    absurd (let none : list_any (gives_power spaces at effective euid cap) (chain_from spaces None) ≡ false
    = ap (list_any (gives_power spaces at effective euid cap)) (chain_none spaces) in
    cc)
from_parent spaces at effective euid cap n tree before s is (Some p) parent rest =
    above n p s is parent (before p (parent_older spaces n p s tree is parent) rest)

-- The function as the relation; the fuel is above the number of the space.
over_back : (fuel : ℕ) (spaces : Spaces) (at effective euid cap n : ℕ) → n < fuel → IsTree spaces
    → IsTrue (over spaces at effective euid cap n) → Over spaces at effective euid cap n
over_back zero spaces at effective euid cap n low tree held = absurd (omega arith)
over_back (suc fuel) spaces at effective euid cap n low tree held =
    elim (cases_lt n (length spaces)) [
      | inr high ↦
          absurd (let none : over spaces at effective euid cap n ≡ false
          = ap (list_any (gives_power spaces at effective euid cap)) (chain_empty spaces n high) in
          cc)
      | inl there ↦
          let it : (s : Space) × (space_at spaces n ≡ Some s) = space_there spaces n there in
          elim (or_cases (gives_power spaces at effective euid cap n) (list_any (gives_power spaces at effective euid cap) (chain_from spaces it.0.parent))
          (sym (over_step spaces at effective euid cap n it.0 tree it.1) ∙ held)) [
            | inl gives ↦ gives_forth spaces at effective euid cap n it.0 it.1 gives
            | inr rest ↦
                from_parent spaces at effective euid cap n tree
                (λ p under over_p. over_back fuel spaces at effective euid cap p (omega arith) tree over_p)
                it.0 it.1 it.0.parent refl rest
          ]
    ]

pub over_is : (spaces : Spaces) (at effective euid cap n : ℕ) → IsTree spaces → at < length spaces
    → Over spaces at effective euid cap n ↔ IsTrue (over spaces at effective euid cap n)
over_is spaces at effective euid cap n tree low =
    (over_forth spaces at effective euid cap n tree low, over_back (suc n) spaces at effective euid cap n (omega arith) tree)

-- whoever has power over a space sits in it or in an older one
pub power_goes_down : (spaces : Spaces) (at effective euid cap n : ℕ) → IsTree spaces → Over spaces at effective euid cap n → at ≤ n
power_goes_down spaces at effective euid cap n tree (here held) = omega arith
power_goes_down spaces at effective euid cap n tree (owned m s is parent owner) =
    let under : at < m = parent_older spaces m at s tree is parent in omega arith
power_goes_down spaces at effective euid cap n tree (above m p s is parent rest) =
    let under : p < m = parent_older spaces m p s tree is parent in
    let low : at ≤ p = power_goes_down spaces at effective euid cap p tree rest in
    omega arith

-- a space above the parent
up_from_parent : (spaces : Spaces) (n a : ℕ) → IsTree spaces → ((p : ℕ) → p < n → is_at_or_above spaces a p ≡ true → a ≤ p)
    → (s : Space) → space_at spaces n ≡ Some s → (o : Option ℕ) → s.parent ≡ o
    → list_any (λ m. m == a) (chain_from spaces o) ≡ true → a ≤ n
up_from_parent spaces n a tree before s at None parent rest =
    absurd (let none : list_any (λ m. m == a) (chain_from spaces None) ≡ false = ap (list_any (λ m. m == a)) (chain_none spaces) in cc)
up_from_parent spaces n a tree before s at (Some p) parent rest =
    let under : p < n = parent_older spaces n p s tree at parent in
    let low : a ≤ p = before p under rest in
    omega arith

-- each space of a chain is the first or an older one
chain_goes_up : (fuel : ℕ) (spaces : Spaces) (n a : ℕ) → n < fuel → IsTree spaces → is_at_or_above spaces a n ≡ true → a ≤ n
chain_goes_up zero spaces n a low tree is = absurd (omega arith)
chain_goes_up (suc fuel) spaces n a low tree is =
    elim (cases_lt n (length spaces)) [
      | inr high ↦ absurd (let none : is_at_or_above spaces a n ≡ false = ap (list_any (λ m. m == a)) (chain_empty spaces n high) in cc)
      | inl there ↦
          let it : (s : Space) × (space_at spaces n ≡ Some s) = space_there spaces n there in
          elim (or_cases (n == a) (list_any (λ m. m == a) (chain_from spaces it.0.parent))
          (sym (ap (list_any (λ m. m == a)) (chain_step spaces n it.0 tree it.1)) ∙ is)) [
            | inl same ↦ let e : n ≡ a = eqb-true n a same in omega arith
            | inr rest ↦
                up_from_parent spaces n a tree (λ p under up. chain_goes_up fuel spaces p a (omega arith) tree up) it.0 it.1 it.0.parent refl rest
          ]
    ]

-- over his own space a member has what is in his effective set alone
own_is : (spaces : Spaces) (at effective euid cap n : ℕ) → IsTree spaces → n ≡ at → Over spaces at effective euid cap n → IsTrue (holds effective cap)
own_is spaces at effective euid cap n tree same (here held) = held
own_is spaces at effective euid cap n tree same (owned m s is parent owner) =
    absurd (let under : at < m = parent_older spaces m at s tree is parent in omega arith)
own_is spaces at effective euid cap n tree same (above m p s is parent rest) =
    absurd (let under : p < m = parent_older spaces m p s tree is parent in
    let low : at ≤ p = power_goes_down spaces at effective euid cap p tree rest in
    omega arith)

-- ---- as the contracts of `power` state them
pub power_is_computed : PowerIsComputed
unfolding PowerIsComputed
power_is_computed spaces at effective euid cap n tree there = over_is spaces at effective euid cap n tree (ltb-true at (length spaces) there)

pub no_power_above : NoPowerAbove
unfolding NoPowerAbove
no_power_above spaces at c cap a tree there is other =
    false_from_ne_true (has_over spaces at c cap a) (λ held.
    let low : a ≤ at = chain_goes_up (suc at) spaces at a (omega arith) tree is in
    let down : at ≤ a
    = power_goes_down spaces at c.effective c.uid.effective cap a tree
    (over_back (suc a) spaces at c.effective c.uid.effective cap a (omega arith) tree held) in
    other (omega arith))

pub power_over_own_space : PowerOverOwnSpace
unfolding PowerOverOwnSpace
power_over_own_space spaces at c cap tree there =
    same_tests (has_over spaces at c cap at) (holds c.effective cap)
    (λ held.
    own_is spaces at c.effective c.uid.effective cap at tree refl
    (over_back (suc at) spaces at c.effective c.uid.effective cap at (omega arith) tree held))
    (λ held. over_forth spaces at c.effective c.uid.effective cap at tree (ltb-true at (length spaces) there) (here held))

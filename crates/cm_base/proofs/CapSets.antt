-- The laws of sets of capabilities: membership, inclusion, equality, and that the operations give sets of capabilities.
use Rattle.std.proofs.Common.{◌≡◌, ℕ, zero, suc, ◌+◌, ◌*◌, ◌%◌, ◌^◌, ◌<◌, Bool, true, false, not, ◌&&◌, ◌||◌, eqb, ltb}
use Rattle.std.proofs.Common.{min, max, refl, sym, ap, ◌∙◌, inl, inr, arith, eqb-true, eq-eqb, lit<}
use Rattle.std.specs.Prelude.{bit_and, bit_or, IsTrue}
use Rattle.std.specs.Int.{bit_at}
use Rattle.std.proofs.lemmas.Bool.{false≢true, cases_eq, cases_lt, ne_eqb, lt-ltb, le-ltb, and_parts, and_from, or_cases, or_left, or_right}
use Rattle.std.proofs.lemmas.Nat.{or_lt, xor_lt, and_le_l, one_shl, pow_below}
use Rattle.std.proofs.lemmas.Nat.Bits.{bit_at_and, bit_at_or, bit_at_xor, bit_at-lt, bit_at-zero, bit_at-pow_same}
use Rattle.std.proofs.lemmas.Nat.Bits.{bit_at-pow_other, bit_at_ones, bit_at_ones_above, bit_at_above, same_from_bits}
use Rattle.cm_base.specs.CapSet.{cap_count, full, none, holds, union, meet, minus, single, with, is_within, IsCapSet}
use Rattle.cm_base.specs.Laws.{Membership, InclusionByMembers, InclusionOrder, CapSetsKept}

-- What holds of each pair of bits holds of two numbers below 2.
on_bits : (P : ℕ → ℕ → Type 0) → P 0 0 → P 0 1 → P 1 0 → P 1 1 → (x y : ℕ) → x < 2 → y < 2 → P x y
on_bits P neither second first both zero zero _ _ = neither
on_bits P neither second first both zero (suc zero) _ _ = second
on_bits P neither second first both (suc zero) zero _ _ = first
on_bits P neither second first both (suc zero) (suc zero) _ _ = both
on_bits P neither second first both (suc (suc x)) y low _ = absurd (omega arith)
on_bits P neither second first both zero (suc (suc y)) _ low = absurd (omega arith)
on_bits P neither second first both (suc zero) (suc (suc y)) _ low = absurd (omega arith)

-- ---- membership
pub holds_none : (c : ℕ) → holds none c ≡ false
holds_none c = ap (λ (bit : ℕ). eqb bit 1) (bit_at-zero c)

pub holds_full : (c : ℕ) → holds full c ≡ ltb c cap_count
holds_full c =
    elim (cases_lt c 41) [
      | inl low ↦ ap (λ (bit : ℕ). eqb bit 1) (bit_at_ones 41 c low) ∙ sym (lt-ltb c 41 low)
      | inr high ↦ ap (λ (bit : ℕ). eqb bit 1) (bit_at_ones_above 41 c high) ∙ sym (le-ltb c 41 high)
    ]

pub holds_single : (k c : ℕ) → holds (single k) c ≡ eqb c k
holds_single k c =
    elim (cases_eq c k) [
      | inl same ↦ rw same (ap (λ (bit : ℕ). eqb bit 1) (bit_at-pow_same k) ∙ sym (eq-eqb k k refl))
      | inr other ↦ ap (λ (bit : ℕ). eqb bit 1) (bit_at-pow_other k c other) ∙ sym (ne_eqb c k other)
    ]

pub holds_union : (a b c : ℕ) → holds (union a b) c ≡ (holds a c || holds b c)
holds_union a b c =
    ap (λ (bit : ℕ). eqb bit 1) (bit_at_or a b c)
    ∙ on_bits (λ (x y : ℕ). eqb (max x y) 1 ≡ (eqb x 1 || eqb y 1)) refl refl refl refl (bit_at a c) (bit_at b c) (bit_at-lt a c) (bit_at-lt b c)

pub holds_meet : (a b c : ℕ) → holds (meet a b) c ≡ (holds a c && holds b c)
holds_meet a b c =
    ap (λ (bit : ℕ). eqb bit 1) (bit_at_and a b c)
    ∙ on_bits (λ (x y : ℕ). eqb (min x y) 1 ≡ (eqb x 1 && eqb y 1)) refl refl refl refl (bit_at a c) (bit_at b c) (bit_at-lt a c) (bit_at-lt b c)

pub holds_minus : (a b c : ℕ) → holds (minus a b) c ≡ (holds a c && not (holds b c))
holds_minus a b c =
    ap (λ (bit : ℕ). eqb bit 1) (bit_at_xor a (bit_and a b) c ∙ ap (λ (bit : ℕ). (bit_at a c + bit) % 2) (bit_at_and a b c))
    ∙ on_bits (λ (x y : ℕ). eqb ((x + min x y) % 2) 1 ≡ (eqb x 1 && not (eqb y 1))) refl refl refl refl (bit_at a c)
    (bit_at b c) (bit_at-lt a c) (bit_at-lt b c)

pub holds_with : (a k c : ℕ) → holds (with a k) c ≡ (holds a c || eqb c k)
holds_with a k c = holds_union a (single k) c ∙ ap (λ (held : Bool). holds a c || held) (holds_single k c)

-- ---- equality and inclusion
pub same_members : (a b : ℕ) → ((c : ℕ) → holds a c ≡ holds b c) → a ≡ b
same_members a b same =
    same_from_bits a b
    (λ c.
    on_bits (λ (x y : ℕ). eqb x 1 ≡ eqb y 1 → x ≡ y) (λ _. refl) (λ wrong. cc) (λ wrong. cc) (λ _. refl) (bit_at a c)
    (bit_at b c) (bit_at-lt a c) (bit_at-lt b c) (same c))

-- a test that implies another is what both together are
both_is_first : (p q : Bool) → (IsTrue p → IsTrue q) → (p && q) ≡ p
both_is_first true q implies = implies refl
both_is_first false q implies = refl

-- the other way
implies_from_both : (p q : Bool) → (p && q) ≡ p → IsTrue p → IsTrue q
implies_from_both true q both _ = both
implies_from_both false q both wrong = absurd (cc)

pub within_from_members : (a b : ℕ) → ((c : ℕ) → IsTrue (holds a c) → IsTrue (holds b c)) → IsTrue (is_within a b)
within_from_members a b members =
    eq-eqb (bit_and a b) a (same_members (bit_and a b) a (λ c. holds_meet a b c ∙ both_is_first (holds a c) (holds b c) (members c)))

pub member_of_wider : (a b : ℕ) → IsTrue (is_within a b) → (c : ℕ) → IsTrue (holds a c) → IsTrue (holds b c)
member_of_wider a b within c =
    implies_from_both (holds a c) (holds b c) (sym (holds_meet a b c) ∙ ap (λ (set : ℕ). holds set c) (eqb-true (bit_and a b) a within))

pub within_by_members : InclusionByMembers
within_by_members a b = (member_of_wider a b, within_from_members a b)

pub within_reflexive : (a : ℕ) → IsTrue (is_within a a)
within_reflexive a = within_from_members a a (λ c held. held)

pub within_transitive : (a b c : ℕ) → IsTrue (is_within a b) → IsTrue (is_within b c) → IsTrue (is_within a c)
within_transitive a b c first second = within_from_members a c (λ k held. member_of_wider b c second k (member_of_wider a b first k held))

-- two tests that imply each other are one
pub same_tests : (p q : Bool) → (IsTrue p → IsTrue q) → (IsTrue q → IsTrue p) → p ≡ q
same_tests true q forth back = sym (forth refl)
same_tests false true forth back = back refl
same_tests false false forth back = refl

pub within_antisymmetric : (a b : ℕ) → IsTrue (is_within a b) → IsTrue (is_within b a) → a ≡ b
within_antisymmetric a b forth back = same_members a b (λ c. same_tests (holds a c) (holds b c) (member_of_wider a b forth c) (member_of_wider b a back c))

pub none_within : (a : ℕ) → IsTrue (is_within none a)
none_within a = within_from_members none a (λ c held. absurd (false≢true (sym (holds_none c) ∙ held)))

pub within_full : (a : ℕ) → IsCapSet a → IsTrue (is_within a full)
within_full a small =
    within_from_members a full
    (λ c held. elim (cases_lt c 41) [
      | inl low ↦ holds_full c ∙ lt-ltb c 41 low
      | inr high ↦ absurd (let out : bit_at a c ≡ 0 = bit_at_above a 41 c small high in let one : bit_at a c ≡ 1 = eqb-true (bit_at a c) 1 held in cc)
    ])

pub meet_within_first : (a b : ℕ) → IsTrue (is_within (meet a b) a)
meet_within_first a b = within_from_members (meet a b) a (λ c held. (and_parts (holds a c) (holds b c) (sym (holds_meet a b c) ∙ held)).0)

pub meet_within_second : (a b : ℕ) → IsTrue (is_within (meet a b) b)
meet_within_second a b = within_from_members (meet a b) b (λ c held. (and_parts (holds a c) (holds b c) (sym (holds_meet a b c) ∙ held)).1)

pub within_meet : (a b c : ℕ) → IsTrue (is_within c a) → IsTrue (is_within c b) → IsTrue (is_within c (meet a b))
within_meet a b c first second =
    within_from_members c (meet a b)
    (λ k held. holds_meet a b k ∙ and_from (holds a k) (holds b k) (member_of_wider c a first k held) (member_of_wider c b second k held))

pub first_within_union : (a b : ℕ) → IsTrue (is_within a (union a b))
first_within_union a b = within_from_members a (union a b) (λ c held. holds_union a b c ∙ or_left (holds a c) (holds b c) held)

pub second_within_union : (a b : ℕ) → IsTrue (is_within b (union a b))
second_within_union a b = within_from_members b (union a b) (λ c held. holds_union a b c ∙ or_right (holds a c) (holds b c) held)

pub union_within : (a b c : ℕ) → IsTrue (is_within a c) → IsTrue (is_within b c) → IsTrue (is_within (union a b) c)
union_within a b c first second =
    within_from_members (union a b) c
    (λ k held. elim (or_cases (holds a k) (holds b k) (sym (holds_union a b k) ∙ held)) [
      | inl left ↦ member_of_wider a c first k left
      | inr right ↦ member_of_wider b c second k right
    ])

pub minus_within : (a b : ℕ) → IsTrue (is_within (minus a b) a)
minus_within a b = within_from_members (minus a b) a (λ c held. (and_parts (holds a c) (not (holds b c)) (sym (holds_minus a b c) ∙ held)).0)

-- ---- sets of capabilities
pub union_is_cap_set : (a b : ℕ) → IsCapSet a → IsCapSet b → IsCapSet (union a b)
union_is_cap_set a b = or_lt 41 a b

pub meet_is_cap_set : (a b : ℕ) → IsCapSet a → IsCapSet (meet a b)
meet_is_cap_set a b small = omega (arith, and_le_l a b)

pub minus_is_cap_set : (a b : ℕ) → IsCapSet a → IsCapSet (minus a b)
minus_is_cap_set a b small = xor_lt 41 a (bit_and a b) small (meet_is_cap_set a b small)

pub with_is_cap_set : (a k : ℕ) → IsCapSet a → k < cap_count → IsCapSet (with a k)
with_is_cap_set a k small low = or_lt 41 a (2 ^ k) small (pow_below k 41 low)

-- the same of the set that the code's `1 << k` makes
pub shifted_is_cap_set : (a k : ℕ) → a < 2 ^ 41 → k < 41 → bit_or a ((1 * 2 ^ k) % 2 ^ 64) < 2 ^ 41
shifted_is_cap_set a k small low = let below : k < 64 = omega arith in rw one_shl (or_lt 41 a (2 ^ k) small (pow_below k 41 low))

-- what the code's operations on sets stand on
pub ruleset kept_sets = (union_is_cap_set, minus_is_cap_set, shifted_is_cap_set, one_shl)

-- ---- as the contracts of `laws` state them
pub membership : Membership
membership = record {
  in_none = holds_none;
  in_full = holds_full;
  in_single = holds_single;
  in_union = holds_union;
  in_meet = holds_meet;
  in_minus = holds_minus;
  in_with = holds_with;
  in_without = λ a k c. holds_minus a (single k) c ∙ ap (λ (held : Bool). holds a c && not held) (holds_single k c);
}

pub inclusion_order : InclusionOrder
inclusion_order = record {
  reflexive = within_reflexive;
  transitive = within_transitive;
  antisymmetric = within_antisymmetric;
  none_within = none_within;
  within_full = within_full;
  meet_within_first = meet_within_first;
  meet_within_second = meet_within_second;
  within_meet = within_meet;
  first_within_union = first_within_union;
  second_within_union = second_within_union;
  union_within = union_within;
  minus_within = minus_within;
}

pub cap_sets_kept : CapSetsKept
cap_sets_kept = record {
  none_is = lit< tt;
  full_is = lit< tt;
  union_is = union_is_cap_set;
  meet_is = meet_is_cap_set;
  minus_is = minus_is_cap_set;
  with_is = with_is_cap_set;
  without_is = λ a k. minus_is_cap_set a (single k);
}

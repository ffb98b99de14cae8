-- Sets of capabilities by their members: what the tests and the operations on words come to, with a member where a test
-- fails.
use Rattle.std.proofs.Common.{◌≡◌, ◌≢◌, ℕ, zero, suc, ◌<◌, ◌≤◌, ◌⊎◌, Bool, false, not, ◌&&◌, ◌||◌, eqb, sym, ap, ◌∙◌, inl, inr, arith}
use Rattle.std.specs.Prelude.{IsTrue}
use Rattle.std.specs.Int.{bit_at}
use Rattle.std.proofs.lemmas.Bool.{cases_Bool, cases_lt, eqb-true, and_parts, and_from, or_cases, or_left, or_right, true_from_ne_false}
use Rattle.std.proofs.lemmas.Nat.Bits.{bit_at_above}
use Rattle.cm_base.specs.CapSet.{cap_count, none, holds, union, meet, minus, is_within, IsCapSet}
use Rattle.cm_base.proofs.CapSets.{holds_none, holds_union, holds_meet, holds_minus, same_members, member_of_wider, within_from_members}
use Rattle.cm_base.proofs.Words.{below_power}
use Rattle.cm_sets.specs.Sets.{InEither, InBoth, AreSame, Exceeds, HoldsNone, HoldsSome, IsBelow}

-- what a word holds
abbrev pub In : ℕ → ℕ → Type 0
In a c = IsTrue (holds a c)

-- a number below a count passes a test, or none does
one_below : (p : ℕ → Bool) (count : ℕ) → ((n : ℕ) × IsTrue (p n)) ⊎ ((n : ℕ) → n < count → p n ≡ false)
one_below p zero = inr (λ n below. absurd (omega arith))
one_below p (suc count) = elim (one_below p count) [
  | inl found ↦ inl found
  | inr none ↦ elim (cases_Bool (p count)) [
    | inl passes ↦ inl (count, passes)
    | inr fails ↦ inr (λ n below. elim (cases_lt n count) [ inl low ↦ none n low | inr high ↦ let last : n ≡ count = omega arith in rw last fails ])
  ]
]

-- a word holds nothing from itself on
none_from_itself : (a c : ℕ) → a ≤ c → holds a c ≡ false
none_from_itself a c high = ap (λ (bit : ℕ). eqb bit 1) (bit_at_above a a c (below_power a) high)

-- a word other than 0 holds a number
pub some_held : (a : ℕ) → a ≢ 0 → HoldsSome (In a)
some_held a some = elim (one_below (holds a) a) [
  | inl found ↦ found
  | inr fewer ↦
      let empty : (c : ℕ) → holds a c ≡ false = λ c. elim (cases_lt c a) [ inl low ↦ fewer c low | inr high ↦ none_from_itself a c high ] in
      absurd (some (same_members a none (λ c. empty c ∙ sym (holds_none c))))
]

pub none_held : (a : ℕ) → a ≡ 0 → HoldsNone (In a)
none_held a is c held = let not_held : holds none c ≡ false = holds_none c in cc

-- a word that isn't within another holds a number that the other doesn't
pub one_outside : (a b : ℕ) → is_within a b ≡ false → Exceeds (In a) (In b)
one_outside a b fails =
    let some : minus a b ≢ 0 = λ is.
    let each : (c : ℕ) → IsTrue (holds a c) → IsTrue (holds b c) = λ c held.
    true_from_ne_false (holds b c) (λ missing.
    let there : IsTrue (holds (minus a b) c) = holds_minus a b c ∙ and_from (holds a c) (not (holds b c)) held (ap not missing) in
    none_held (minus a b) is c there) in
    let within : IsTrue (is_within a b) = within_from_members a b each in cc in
    let found : HoldsSome (In (minus a b)) = some_held (minus a b) some in
    let parts : IsTrue (holds a found.0) × IsTrue (not (holds b found.0)) =
    and_parts (holds a found.0) (not (holds b found.0)) (sym (holds_minus a b found.0) ∙ found.1) in
    (found.0, parts.0, λ held. let wrong : not (holds b found.0) ≡ false = ap not held in cc)

-- ---- what the operations hold
pub in_union : (a b set : ℕ) → set ≡ union a b → AreSame (In set) (InEither (In a) (In b))
in_union a b set is c =
    let same : holds set c ≡ (holds a c || holds b c) = ap (λ (word : ℕ). holds word c) is ∙ holds_union a b c in (
      λ held. or_cases (holds a c) (holds b c) (sym same ∙ held),
      λ held. same ∙ elim held [ inl one ↦ or_left (holds a c) (holds b c) one | inr other ↦ or_right (holds a c) (holds b c) other ],
    )

pub in_meet : (a b set : ℕ) → set ≡ meet a b → AreSame (In set) (InBoth (In a) (In b))
in_meet a b set is c =
    let same : holds set c ≡ (holds a c && holds b c) = ap (λ (word : ℕ). holds word c) is ∙ holds_meet a b c in (
      λ held. and_parts (holds a c) (holds b c) (sym same ∙ held),
      λ both. same ∙ and_from (holds a c) (holds b c) both.0 both.1,
    )

-- a word of capabilities holds none past the last one
pub below_count : (a : ℕ) → IsCapSet a → IsBelow cap_count (In a)
below_count a small c held = elim (cases_lt c cap_count) [
  | inl low ↦ low
  | inr high ↦ absurd (let out : bit_at a c ≡ 0 = bit_at_above a cap_count c small high in let one : bit_at a c ≡ 1 = eqb-true (bit_at a c) 1 held in cc)
]

-- ---- as the answers of the tests state it
-- where what both hold isn't within a bound, both hold a number that the bound doesn't
pub common_outside : (a b both bound : ℕ) → both ≡ meet a b → is_within both bound ≡ false → Exceeds (InBoth (In a) (In b)) (In bound)
common_outside a b both bound is fails =
    let out : Exceeds (In both) (In bound) = one_outside both bound fails in
    (out.0, (in_meet a b both is out.0).0 out.1, out.2)

-- where what both hold is a word other than 0, both hold a number
pub common_held : (a b both : ℕ) → both ≡ meet a b → both ≢ 0 → HoldsSome (InBoth (In a) (In b))
common_held a b both is some =
    let found : HoldsSome (In both) = some_held both some in
    (found.0, (in_meet a b both is found.0).0 found.1)

-- where it is 0, both hold none
pub none_common : (a b both : ℕ) → both ≡ meet a b → both ≡ 0 → HoldsNone (InBoth (In a) (In b))
none_common a b both is empty n held = none_held both empty n ((in_meet a b both is n).1 held)

-- what the tests of sets of capabilities stand on
pub ruleset cap_sets = (in_meet, one_outside, some_held, below_count, member_of_wider)

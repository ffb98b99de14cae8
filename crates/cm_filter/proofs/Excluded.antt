-- The kinds that a filter excludes make the filter again.
use Rattle.std.proofs.Common.{◌≡◌, ℕ, zero, suc, ◌+◌, ◌^◌, ◌<◌, ◌==◌, ◌&&◌, ◌||◌, Bool, true, false, List, [], ◌∷◌, map, filter}
use Rattle.std.proofs.Common.{refl, sym, ap, ◌∙◌, inl, inr, subst, arith, eqb, eqb-true}
use Rattle.std.specs.Prelude.{◌⊎◌, ◌≤◌, All, fold}
use Rattle.std.proofs.lemmas.List.Elements.{All-nil, All-cons}
use Rattle.std.specs.List.{list_any, range_with_len}
use Rattle.std.proofs.lemmas.Bool.{cases_Bool, cases_lt, cond-true, cond-false, or_left, or_right, eq-eqb}
use Rattle.std.proofs.lemmas.Nat.{or_lt, pow_below}
use Rattle.std.proofs.lemmas.Nat.Bits.{bit_at_above}
use Rattle.cm_base.specs.CapSet.{holds}
use Rattle.cm_base.proofs.CapSets.{holds_none, holds_with, same_members}
use Rattle.cm_filter.specs.Filters.{Filter, IsFilter, excludes, excluding, no_filter, filter_excluding, excluded_kinds}
use Rattle.cm_filter.specs.Kinds.{call_kinds, kind_count, kind_number}
use Rattle.cm_filter.specs.declared.kind.CallKind.{CallKind}
use Rattle.cm_filter.specs.declared.kind.CallKind.TheVariants.{Exit}

-- ---- numbers of kinds
-- the numbers of the kinds are those from 0 on
in_order : map kind_number call_kinds ≡ range_with_len 0 kind_count
in_order = refl

in_range : (c from n : ℕ) → c < n → list_any (λ m. from + c == m) (range_with_len from n) ≡ true
in_range c from zero low = absurd (omega arith)
in_range zero from (suc n) low = or_left (from + 0 == from) (list_any (λ m. from + 0 == m) (range_with_len (from + 1) n)) (eq-eqb (from + 0) from (omega arith))
in_range (suc c) from (suc n) low =
    let later : list_any (λ m. from + 1 + c == m) (range_with_len (from + 1) n) ≡ true = in_range c (from + 1) n (omega arith) in
    let same : from + 1 + c ≡ from + suc c = omega arith in
    or_right (from + suc c == from) (list_any (λ m. from + suc c == m) (range_with_len (from + 1) n))
    (subst (λ (k : ℕ). list_any (λ m. k == m) (range_with_len (from + 1) n) ≡ true) same later)

any_map : {A B : Type 0} (p : B → Bool) (f : A → B) (xs : List A) → list_any p (map f xs) ≡ list_any (λ x. p (f x)) xs
any_map p f [] = refl
any_map p f (x ∷ xs) = ap (λ (b : Bool). p (f x) || b) (any_map p f xs)

-- one of the kinds has each number that a kind may have
some_kind : (c : ℕ) → c < kind_count → list_any (λ kind. c == kind_number kind) call_kinds ≡ true
some_kind c low =
    sym (any_map (λ m. c == m) kind_number call_kinds)
    ∙ ap (list_any (λ m. c == m)) in_order
    ∙ subst (λ (k : ℕ). list_any (λ m. k == m) (range_with_len 0 kind_count) ≡ true) whole (in_range c 0 kind_count low)
  where
    whole : 0 + c ≡ c
    whole = omega arith

pub number_low : (kind : CallKind) → kind_number kind < kind_count
number_low Exit = omega arith
number_low _ = omega arith

-- ---- the filter again
with_one : (a e b h : Bool) → (e ≡ true → h ≡ true) → ((a || e) || (b && h)) ≡ (a || ((e || b) && h))
with_one true e b h is = refl
with_one false true b h is = sym (is refl)
with_one false false b h is = refl

without_one : (a e b h : Bool) → (e ≡ true → h ≡ false) → (a || (b && h)) ≡ (a || ((e || b) && h))
without_one true e b h is = refl
without_one false true true h is = refl
without_one false true false h is = sym (is refl)
without_one false false b h is = refl

-- what a filter holds to which those of some kinds come that another excludes
held_after : (f g : Filter) (kinds : List CallKind) (c : ℕ)
    → holds (fold excluding g (filter (excludes f) kinds)) c ≡ (holds g c || (list_any (λ kind. c == kind_number kind) kinds && holds f c))
held_after f g [] c = none (holds g c) where
  none : (b : Bool) → b ≡ (b || false)
  none true = refl
  none false = refl
held_after f g (kind ∷ kinds) c =
    let n : ℕ = kind_number kind in
    let rest : Bool = list_any (λ k. c == kind_number k) kinds in
    elim (cases_Bool (excludes f kind)) [
      | inl held ↦
          ap (λ (ks : List CallKind). holds (fold excluding g ks) c) (cond-true (excludes f kind) (kind ∷ filter (excludes f) kinds) (filter (excludes f) kinds) held)
          ∙ held_after f (excluding g kind) kinds c
          ∙ ap (λ (b : Bool). b || (rest && holds f c)) (holds_with g n c)
          ∙ with_one (holds g c) (c == n) rest (holds f c) (λ same. ap (holds f) (eqb-true c n same) ∙ held)
      | inr free ↦
          ap (λ (ks : List CallKind). holds (fold excluding g ks) c) (cond-false (excludes f kind) (kind ∷ filter (excludes f) kinds) (filter (excludes f) kinds) free)
          ∙ held_after f g kinds c
          ∙ without_one (holds g c) (c == n) rest (holds f c) (λ same. ap (holds f) (eqb-true c n same) ∙ free)
    ]

pub kinds_back : (f : Filter) → IsFilter f → filter_excluding (excluded_kinds f) ≡ f
kinds_back f small =
    same_members (filter_excluding (excluded_kinds f)) f
    (λ c. held_after f no_filter call_kinds c
    ∙ ap (λ (b : Bool). b || (list_any (λ kind. c == kind_number kind) call_kinds && holds f c)) (holds_none c)
    ∙ by c (cases_lt c kind_count)) where
      by_none : (b : Bool) → (b && false) ≡ false
      by_none true = refl
      by_none false = refl

      by : (c : ℕ) → (c < kind_count) ⊎ (kind_count ≤ c) → (list_any (λ kind. c == kind_number kind) call_kinds && holds f c) ≡ holds f c
      by c (inl low) = ap (λ (b : Bool). b && holds f c) (some_kind c low)
      by c (inr high) =
          let out : holds f c ≡ false = ap (λ (bit : ℕ). eqb bit 1) (bit_at_above f kind_count c small high) in
          ap (λ (b : Bool). list_any (λ kind. c == kind_number kind) call_kinds && b) out ∙ by_none (list_any (λ kind. c == kind_number kind) call_kinds) ∙ sym out

-- ---- a filter of kinds
-- a filter and one kind more are a filter
pub kind_more : (g : Filter) (kind : CallKind) → IsFilter g → IsFilter (excluding g kind)
kind_more g kind small =
    or_lt kind_count g (2 ^ kind_number kind) small (pow_below (kind_number kind) kind_count (number_low kind))

-- and so are a filter and several
kinds_filter : (g : Filter) (kinds : List CallKind) → IsFilter g → IsFilter (fold excluding g kinds)
kinds_filter g [] small = small
kinds_filter g (kind ∷ kinds) small = kinds_filter (excluding g kind) kinds (kind_more g kind small)

pub excluding_filter : (kinds : List CallKind) → IsFilter (filter_excluding kinds)
excluding_filter kinds = kinds_filter no_filter kinds (omega arith)

-- the filter of kinds excludes what the first filter does, and the kinds
pub fold_excludes : (g : Filter) (kinds : List CallKind) (kind : CallKind)
    → excludes (fold excluding g kinds) kind ≡ (excludes g kind || list_any (λ k. kind_number kind == kind_number k) kinds)
fold_excludes g [] kind = none (excludes g kind) where
  none : (b : Bool) → b ≡ (b || false)
  none true = refl
  none false = refl
fold_excludes g (k ∷ kinds) kind =
    fold_excludes (excluding g k) kinds kind
    ∙ ap (λ (b : Bool). b || list_any (λ j. kind_number kind == kind_number j) kinds) (holds_with g (kind_number k) (kind_number kind))
    ∙ turned (excludes g kind) (kind_number kind == kind_number k) (list_any (λ j. kind_number kind == kind_number j) kinds) where
      turned : (a b c : Bool) → ((a || b) || c) ≡ (a || (b || c))
      turned true b c = refl
      turned false b c = refl

-- what passes a test is all that is kept by it
passing : (p : CallKind → Bool) (kinds : List CallKind) → All (λ kind. p kind ≡ true) (filter p kinds)
passing p [] = All-nil (λ kind. p kind ≡ true)
passing p (kind ∷ kinds) =
    elim (cases_Bool (p kind)) [
      | inl is ↦
          subst (All (λ k. p k ≡ true)) (sym (cond-true (p kind) (kind ∷ filter p kinds) (filter p kinds) is))
          (All-cons (λ k. p k ≡ true) kind (filter p kinds) is (passing p kinds))
      | inr fails ↦ subst (All (λ k. p k ≡ true)) (sym (cond-false (p kind) (kind ∷ filter p kinds) (filter p kinds) fails)) (passing p kinds)
    ]

-- a filter excludes each of the kinds that it excludes
pub excluded_are : (f : Filter) → All (λ kind. excludes f kind ≡ true) (excluded_kinds f)
excluded_are f = passing (excludes f) call_kinds

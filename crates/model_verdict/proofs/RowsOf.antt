-- Rows that say what a test says: the ids that pass, as intervals; the capabilities that do; and flags.
use Rattle.std.proofs.Common.{◌≡◌, ◌≢◌, ◌⊎◌, ℕ, zero, suc, ◌+◌, ◌<◌, ◌≤◌, ◌==◌, ◌||◌, Bool, true, false, cond, List, [], ◌∷◌, length, refl, sym, ◌∙◌, inl, inr, ap, subst, arith, All}
use Rattle.std.specs.Prelude.{◌↔◌, ◌&&◌, IsTrue, not}
use Rattle.std.proofs.lemmas.Bool.{or_cases, cases_lt, eqb-true, eq-eqb, false≢true, and_parts}
use Rattle.std.proofs.lemmas.List.Elements.{All-nil, All-cons}
use Rattle.std.proofs.Math.Bool.{not-not}
use Rattle.cm_base.proofs.CapSets.{holds_none, holds_with}
use Rattle.cm_base.specs.CapSet.{holds, none, with, cap_count}
use Rattle.cm_base.specs.Limits.{id_count}
use Rattle.model_box.specs.Bounds.{BoxRow, row_has, row_in, no_row, bounds_hold}
use Rattle.model_box.specs.Row.{Part, Uids, EffectiveUids, FsUids, Gids, EffectiveGids, FsGids, Groups, MappedUids, MappedGids}
use Rattle.model_box.specs.Row.{PermittedCaps, InheritableCaps, BoundingCaps, NewPrivs, RootCounts, LockClear, Row, row_number}
use Rattle.model_cred.proofs.Intervals.{Ascends, between_parts, between_from, ascend_parts, ascend_made, ascend_lower}
use Rattle.model_cred.specs.Intervals.{Interval, ids_hold, is_between, ascend_from, IsCanonical}
use Rattle.model_verdict.proofs.Rounds.{standing_low}
use Rattle.model_verdict.specs.Least.{Test}
use Rattle.model_verdict.specs.Rows.{IsRow, part_limit, RowsSayEachTest}
use Rattle.model_verdict.specs.Sweep.{row_count}

-- ---- ids
-- the list with a number before all that it holds: joined to the first interval where this begins next to it
abbrev joined : Bool → ℕ → Interval → List Interval → List Interval
joined true n i list = record { first = n; last = i.last } ∷ list
joined false n i list = record { first = n; last = n } ∷ i ∷ list

abbrev put_first : ℕ → List Interval → List Interval
put_first n [] = record { first = n; last = n } ∷ []
put_first n (i ∷ list) = joined (i.first == n + 1) n i list

-- it is written in the one way
put_ascends : (n : ℕ) (list : List Interval) → n < id_count → IsTrue (ascend_from (suc n) list) → IsTrue (ascend_from n (put_first n list))
put_ascends n [] low is = ascend_made n (record { first = n; last = n }) [] (record { above = omega arith; full = omega arith; ids = low; rest = refl })
put_ascends n (i ∷ list) low is = by (i.first == n + 1) refl where
  parts : Ascends (suc n) i list
  parts = ascend_parts (suc n) i list is

  by : (b : Bool) → (i.first == n + 1) ≡ b → IsTrue (ascend_from n (joined b n i list))
  by true next =
      let first : i.first ≡ n + 1 = eqb-true i.first (n + 1) next in
      ascend_made n (record { first = n; last = i.last }) list
      (record { above = omega arith; full = omega (arith, first, parts.full); ids = parts.ids; rest = parts.rest })
  by false apart =
      let far : i.first ≢ n + 1 = λ same. false≢true (sym apart ∙ eq-eqb i.first (n + 1) same) in
      ascend_made n (record { first = n; last = n }) (i ∷ list)
      (record {
        above = omega arith;
        full = omega arith;
        ids = low;
        rest = ascend_made (n + 2) i list (record { above = omega (arith, far, parts.above); full = parts.full; ids = parts.ids; rest = parts.rest });
      })

first_test : (a b : Bool) → IsTrue a → IsTrue (a || b)
first_test true b is = refl
first_test false b is = absurd (false≢true is)

second_test : (a b : Bool) → IsTrue b → IsTrue (a || b)
second_test true b is = refl
second_test false b is = is

-- it holds the number, and what the list holds
put_to : (n x : ℕ) (list : List Interval) → IsTrue (ascend_from (suc n) list) → IsTrue (ids_hold (put_first n list) x)
    → (x ≡ n) ⊎ IsTrue (ids_hold list x)
put_to n x [] is held = elim (or_cases (is_between (record { first = n; last = n }) x) false held) [
  | inl here ↦ inl (let ends : (n ≤ x) × (x ≤ n) = between_parts (record { first = n; last = n }) x here in omega (arith, ends.0, ends.1))
  | inr wrong ↦ absurd (false≢true wrong)
]
put_to n x (i ∷ list) is held = by (i.first == n + 1) refl held where
  by : (b : Bool) → (i.first == n + 1) ≡ b → IsTrue (ids_hold (joined b n i list) x) → (x ≡ n) ⊎ IsTrue (ids_hold (i ∷ list) x)
  by true next held =
      let first : i.first ≡ n + 1 = eqb-true i.first (n + 1) next in
      elim (or_cases (is_between (record { first = n; last = i.last }) x) (ids_hold list x) held) [
        | inl here ↦ by_place (x == n) refl (between_parts (record { first = n; last = i.last }) x here) first
        | inr later ↦ inr (second_test (is_between i x) (ids_hold list x) later)
      ]
    where
      by_place : (b : Bool) → (x == n) ≡ b → (n ≤ x) × (x ≤ i.last) → i.first ≡ n + 1 → (x ≡ n) ⊎ IsTrue (ids_hold (i ∷ list) x)
      by_place true same ends first = inl (eqb-true x n same)
      by_place false apart ends first =
          let far : x ≢ n = λ same. false≢true (sym apart ∙ eq-eqb x n same) in
          inr (first_test (is_between i x) (ids_hold list x) (between_from i x (omega (arith, far, ends.0, first)) ends.1))
  by false apart held = elim (or_cases (is_between (record { first = n; last = n }) x) (ids_hold (i ∷ list) x) held) [
    | inl here ↦ inl (let ends : (n ≤ x) × (x ≤ n) = between_parts (record { first = n; last = n }) x here in omega (arith, ends.0, ends.1))
    | inr later ↦ inr later
  ]

put_from : (n x : ℕ) (list : List Interval) → IsTrue (ascend_from (suc n) list) → (x ≡ n) ⊎ IsTrue (ids_hold list x)
    → IsTrue (ids_hold (put_first n list) x)
put_from n x [] is (inl same) =
    first_test (is_between (record { first = n; last = n }) x) false (between_from (record { first = n; last = n }) x (omega (arith, same)) (omega (arith, same)))
put_from n x [] is (inr wrong) = absurd (false≢true wrong)
put_from n x (i ∷ list) is held = by (i.first == n + 1) refl held where
  parts : Ascends (suc n) i list
  parts = ascend_parts (suc n) i list is

  by : (b : Bool) → (i.first == n + 1) ≡ b → (x ≡ n) ⊎ IsTrue (ids_hold (i ∷ list) x) → IsTrue (ids_hold (joined b n i list) x)
  by true next (inl same) =
      let first : i.first ≡ n + 1 = eqb-true i.first (n + 1) next in
      first_test (is_between (record { first = n; last = i.last }) x) (ids_hold list x)
      (between_from (record { first = n; last = i.last }) x (omega (arith, same)) (omega (arith, same, first, parts.full)))
  by true next (inr held) =
      let first : i.first ≡ n + 1 = eqb-true i.first (n + 1) next in
      elim (or_cases (is_between i x) (ids_hold list x) held) [
        | inl here ↦
            let ends : (i.first ≤ x) × (x ≤ i.last) = between_parts i x here in
            first_test (is_between (record { first = n; last = i.last }) x) (ids_hold list x)
            (between_from (record { first = n; last = i.last }) x (omega (arith, first, ends.0)) ends.1)
        | inr later ↦ second_test (is_between (record { first = n; last = i.last }) x) (ids_hold list x) later
      ]
  by false apart (inl same) =
      first_test (is_between (record { first = n; last = n }) x) (ids_hold (i ∷ list) x)
      (between_from (record { first = n; last = n }) x (omega (arith, same)) (omega (arith, same)))
  by false apart (inr held) = second_test (is_between (record { first = n; last = n }) x) (ids_hold (i ∷ list) x) held

module _ (f : ℕ → Bool) where
  -- the ids that pass, of so many from a number on
  ids_from : ℕ → ℕ → List Interval
  ids_from zero from = []
  ids_from (suc count) from = cond (f from) (put_first from (ids_from count (suc from))) (ids_from count (suc from))

  -- one number more
  one_ascends : (from : ℕ) (list : List Interval) → from < id_count → IsTrue (ascend_from (suc from) list) → (b : Bool)
      → IsTrue (ascend_from from (cond b (put_first from list) list))
  one_ascends from list low later true = put_ascends from list low later
  one_ascends from list low later false = ascend_lower from (suc from) list (omega arith) later

  from_ascends : (count from : ℕ) → from + count ≤ id_count → IsTrue (ascend_from from (ids_from count from))
  unfolding ids_from
  from_ascends zero from fits = refl
  from_ascends (suc count) from fits =
      one_ascends from (ids_from count (suc from)) (omega (arith, fits)) (from_ascends count (suc from) (omega (arith, fits))) (f from)

  one_to : (count from x : ℕ) (list : List Interval) → IsTrue (ascend_from (suc from) list)
      → (IsTrue (ids_hold list x) → (suc from ≤ x) × (x < suc from + count) × IsTrue (f x))
      → (b : Bool) → f from ≡ b → IsTrue (ids_hold (cond b (put_first from list) list) x)
      → (from ≤ x) × (x < from + suc count) × IsTrue (f x)
  one_to count from x list ascend later true is held = elim (put_to from x list ascend held) [
    | inl same ↦ (omega (arith, same), omega (arith, same), subst (λ (n : ℕ). IsTrue (f n)) (sym same) is)
    | inr there ↦
        let it : (suc from ≤ x) × (x < suc from + count) × IsTrue (f x) = later there in
        (omega (arith, it.0), omega (arith, it.1), it.2)
  ]
  one_to count from x list ascend later false is held =
      let it : (suc from ≤ x) × (x < suc from + count) × IsTrue (f x) = later held in
      (omega (arith, it.0), omega (arith, it.1), it.2)

  from_to : (count from x : ℕ) → from + count ≤ id_count → IsTrue (ids_hold (ids_from count from) x) → (from ≤ x) × (x < from + count) × IsTrue (f x)
  unfolding ids_from
  from_to zero from x fits held = absurd (false≢true held)
  from_to (suc count) from x fits held =
      one_to count from x (ids_from count (suc from)) (from_ascends count (suc from) (omega (arith, fits)))
      (λ there. from_to count (suc from) x (omega (arith, fits)) there) (f from) refl held

  one_from : (from x : ℕ) (list : List Interval) → IsTrue (ascend_from (suc from) list) → (x ≢ from → IsTrue (ids_hold list x)) → IsTrue (f x)
      → (b : Bool) → f from ≡ b → (same : Bool) → (x == from) ≡ same → IsTrue (ids_hold (cond b (put_first from list) list) x)
  one_from from x list ascend later is true passes true same = put_from from x list ascend (inl (eqb-true x from same))
  one_from from x list ascend later is true passes false apart =
      put_from from x list ascend (inr (later (λ same. false≢true (sym apart ∙ eq-eqb x from same))))
  one_from from x list ascend later is false fails same eq = later (λ same. false≢true (sym fails ∙ subst (λ (n : ℕ). IsTrue (f n)) same is))

  from_from : (count from x : ℕ) → from + count ≤ id_count → from ≤ x → x < from + count → IsTrue (f x) → IsTrue (ids_hold (ids_from count from) x)
  unfolding ids_from
  from_from zero from x fits low high is = absurd (omega (arith, low, high))
  from_from (suc count) from x fits low high is =
      one_from from x (ids_from count (suc from)) (from_ascends count (suc from) (omega (arith, fits)))
      (λ far. from_from count (suc from) x (omega (arith, fits)) (omega (arith, low, far)) (omega (arith, high)) is) is (f from) refl (x == from) refl

  -- all ids that pass
  ids_that : List Interval
  ids_that = ids_from id_count 0

  that_canonical : IsCanonical ids_that
  unfolding ids_that
  that_canonical = from_ascends id_count 0 (omega arith)

  that_holds : (x : ℕ) → IsTrue (ids_hold ids_that x) ↔ ((x < id_count) × IsTrue (f x))
  unfolding ids_that
  that_holds x = (
    λ held. let it : (0 ≤ x) × (x < 0 + id_count) × IsTrue (f x) = from_to id_count 0 x (omega arith) held in (omega (arith, it.1), it.2),
    λ both. from_from id_count 0 x (omega arith) (omega arith) (omega (arith, both.0)) both.1,
  )

  -- ---- capabilities
  caps_below : ℕ → ℕ
  caps_below zero = none
  caps_below (suc n) = cond (f n) (with (caps_below n) n) (caps_below n)

  one_below_to : (n c set : ℕ) → (IsTrue (holds set c) → (c < n) × IsTrue (f c)) → (b : Bool) → f n ≡ b
      → IsTrue (holds (cond b (with set n) set) c) → (c < suc n) × IsTrue (f c)
  one_below_to n c set before true is held = elim (or_cases (holds set c) (c == n) (sym (holds_with set n c) ∙ held)) [
    | inl there ↦ (let it : (c < n) × IsTrue (f c) = before there in (omega (arith, it.0), it.1))
    | inr same ↦
        let one : c ≡ n = eqb-true c n same in
        (omega (arith, one), subst (λ (k : ℕ). IsTrue (f k)) (sym one) is)
  ]
  one_below_to n c set before false is held = let it : (c < n) × IsTrue (f c) = before held in (omega (arith, it.0), it.1)

  below_to : (n c : ℕ) → IsTrue (holds (caps_below n) c) → (c < n) × IsTrue (f c)
  unfolding caps_below
  below_to zero c held = absurd (false≢true (sym (holds_none c) ∙ held))
  below_to (suc n) c held = one_below_to n c (caps_below n) (λ there. below_to n c there) (f n) refl held

  one_below_from : (n c set : ℕ) → (c ≢ n → IsTrue (holds set c)) → IsTrue (f c) → (b : Bool) → f n ≡ b
      → (same : Bool) → (c == n) ≡ same → IsTrue (holds (cond b (with set n) set) c)
  one_below_from n c set before is true passes true same = holds_with set n c ∙ second_test (holds set c) (c == n) same
  one_below_from n c set before is true passes false apart =
      holds_with set n c ∙ first_test (holds set c) (c == n) (before (λ same. false≢true (sym apart ∙ eq-eqb c n same)))
  one_below_from n c set before is false fails same eq = before (λ same. false≢true (sym fails ∙ subst (λ (k : ℕ). IsTrue (f k)) same is))

  below_from : (n c : ℕ) → c < n → IsTrue (f c) → IsTrue (holds (caps_below n) c)
  unfolding caps_below
  below_from zero c low is = absurd (omega (arith, low))
  below_from (suc n) c low is =
      one_below_from n c (caps_below n) (λ far. below_from n c (omega (arith, low, far)) is) is (f n) refl (c == n) refl

  caps_that : ℕ
  caps_that = caps_below cap_count

  caps_hold : (c : ℕ) → IsTrue (holds caps_that c) ↔ ((c < cap_count) × IsTrue (f c))
  unfolding caps_that
  caps_hold c = (λ held. below_to cap_count c held, λ both. below_from cap_count c both.0 both.1)

  -- ---- flags
  flag_says : (x : ℕ) → (IsTrue (f x) → x < 1) → IsTrue (x == 0 && f 0) ↔ IsTrue (f x)
  flag_says x low = (
    λ held.
        let parts = and_parts (x == 0) (f 0) held in
        subst (λ (n : ℕ). IsTrue (f n)) (sym (eqb-true x 0 parts.0)) parts.1,
    λ is.
        let zero_is : x ≡ 0 = omega (arith, low is) in
        subst (λ (n : ℕ). IsTrue (n == 0 && f 0)) (sym zero_is) (subst (λ (n : ℕ). IsTrue (f n)) zero_is is),
  )

-- ---- a row
-- the row that says what a test of parts and numbers says
row_of : (Part → ℕ → Bool) → BoxRow
row_of g = record {
  uids = ids_that (g Uids);
  effective_uids = ids_that (g EffectiveUids);
  fs_uids = ids_that (g FsUids);
  gids = ids_that (g Gids);
  effective_gids = ids_that (g EffectiveGids);
  fs_gids = ids_that (g FsGids);
  groups = ids_that (g Groups);
  mapped_uids = ids_that (g MappedUids);
  mapped_gids = ids_that (g MappedGids);
  permitted = caps_that (g PermittedCaps);
  inheritable = caps_that (g InheritableCaps);
  bounding = caps_that (g BoundingCaps);
  no_new_privs = not (g NewPrivs 0);
  root_counts = g RootCounts 0;
  lock_clear = g LockClear 0;
}

row_is : (g : Part → ℕ → Bool) → IsRow (row_of g)
unfolding row_of
row_is g = record {
  uids = that_canonical (g Uids);
  effective_uids = that_canonical (g EffectiveUids);
  fs_uids = that_canonical (g FsUids);
  gids = that_canonical (g Gids);
  effective_gids = that_canonical (g EffectiveGids);
  fs_gids = that_canonical (g FsGids);
  groups = that_canonical (g Groups);
  mapped_uids = that_canonical (g MappedUids);
  mapped_gids = that_canonical (g MappedGids);
}

ids_say : (f : ℕ → Bool) (x : ℕ) → (IsTrue (f x) → x < id_count) → IsTrue (ids_hold (ids_that f) x) ↔ IsTrue (f x)
ids_say f x low = (λ held. ((that_holds f x).0 held).1, λ is. (that_holds f x).1 (low is, is))

caps_say : (f : ℕ → Bool) (x : ℕ) → (IsTrue (f x) → x < cap_count) → IsTrue (holds (caps_that f) x) ↔ IsTrue (f x)
caps_say f x low = (λ held. ((caps_hold f x).0 held).1, λ is. (caps_hold f x).1 (low is, is))

row_says : (g : Part → ℕ → Bool) (part : Part) (x : ℕ) → (IsTrue (g part x) → x < part_limit part)
    → IsTrue (row_has (row_of g) part x) ↔ IsTrue (g part x)
unfolding row_of
row_says g Uids x low = ids_say (g Uids) x low
row_says g EffectiveUids x low = ids_say (g EffectiveUids) x low
row_says g FsUids x low = ids_say (g FsUids) x low
row_says g Gids x low = ids_say (g Gids) x low
row_says g EffectiveGids x low = ids_say (g EffectiveGids) x low
row_says g FsGids x low = ids_say (g FsGids) x low
row_says g Groups x low = ids_say (g Groups) x low
row_says g MappedUids x low = ids_say (g MappedUids) x low
row_says g MappedGids x low = ids_say (g MappedGids) x low
row_says g PermittedCaps x low = caps_say (g PermittedCaps) x low
row_says g InheritableCaps x low = caps_say (g InheritableCaps) x low
row_says g BoundingCaps x low = caps_say (g BoundingCaps) x low
row_says g NewPrivs x low =
    subst (λ (b : Bool). IsTrue (x == 0 && b) ↔ IsTrue (g NewPrivs x)) (sym (not-not (g NewPrivs 0))) (flag_says (g NewPrivs) x low)
row_says g RootCounts x low = flag_says (g RootCounts) x low
row_says g LockClear x low = flag_says (g LockClear) x low

-- the row that has nothing
no_row_has : (part : Part) (x : ℕ) → IsTrue (row_has no_row part x) → ⊥
no_row_has PermittedCaps x held = false≢true (sym (holds_none x) ∙ held)
no_row_has InheritableCaps x held = false≢true (sym (holds_none x) ∙ held)
no_row_has BoundingCaps x held = false≢true (sym (holds_none x) ∙ held)
no_row_has NewPrivs x held = false≢true (and_parts (x == 0) false held).1
no_row_has RootCounts x held = false≢true (and_parts (x == 0) false held).1
no_row_has LockClear x held = false≢true (and_parts (x == 0) false held).1
no_row_has _ x held = false≢true held

-- ---- rows
module _ (test : Test) where
  rows_from : ℕ → ℕ → List BoxRow
  rows_from zero from = []
  rows_from (suc count) from = row_of (test from) ∷ rows_from count (suc from)

  rows_count : (count from : ℕ) → length (rows_from count from) ≡ count
  unfolding rows_from
  rows_count zero from = refl
  rows_count (suc count) from = ap suc (rows_count count (suc from))

  rows_are : (count from : ℕ) → All IsRow (rows_from count from)
  unfolding rows_from
  rows_are zero from = All-nil IsRow
  rows_are (suc count) from = All-cons IsRow (row_of (test from)) (rows_from count (suc from)) (row_is (test from)) (rows_are count (suc from))

  row_there : (count from y : ℕ) → y < count → row_in (rows_from count from) y ≡ row_of (test (from + y))
  unfolding rows_from
  row_there zero from y low = absurd (omega (arith, low))
  row_there (suc count) from zero low = let same : from ≡ from + 0 = omega arith in ap (λ (n : ℕ). row_of (test n)) same
  row_there (suc count) from (suc y) low =
      let same : suc from + y ≡ from + suc y = omega arith in
      row_there count (suc from) y (omega (arith, low)) ∙ ap (λ (n : ℕ). row_of (test n)) same

  row_past : (count from y : ℕ) → count ≤ y → row_in (rows_from count from) y ≡ no_row
  unfolding rows_from
  row_past zero from y past = refl
  row_past (suc count) from zero past = absurd (omega (arith, past))
  row_past (suc count) from (suc y) past = row_past count (suc from) y (omega (arith, past))

pub rows_say_each_test : RowsSayEachTest
unfolding RowsSayEachTest
rows_say_each_test spaces test low = record {
  rows = rows_from test (row_count spaces) 0;
  bounds = record { count = rows_count test (row_count spaces) 0; written = rows_are test (row_count spaces) 0 };
  says = λ row part x. by row part x (cases_lt (row_number row) (row_count spaces));
} where
  by : (row : Row) (part : Part) (x : ℕ) → (row_number row < row_count spaces) ⊎ (row_count spaces ≤ row_number row)
      → IsTrue (bounds_hold (rows_from test (row_count spaces) 0) (row_number row) part x) ↔ IsTrue (test (row_number row) part x)
  by row part x (inl there) =
      let same : 0 + row_number row ≡ row_number row = omega arith in
      let is : row_in (rows_from test (row_count spaces) 0) (row_number row) ≡ row_of (test (row_number row))
      = row_there test (row_count spaces) 0 (row_number row) there ∙ ap (λ (n : ℕ). row_of (test n)) same in
      subst (λ (r : BoxRow). IsTrue (row_has r part x) ↔ IsTrue (test (row_number row) part x)) (sym is)
      (row_says (test (row_number row)) part x (λ held. low.low row part x held))
  by row part x (inr past) =
      let is : row_in (rows_from test (row_count spaces) 0) (row_number row) ≡ no_row = row_past test (row_count spaces) 0 (row_number row) past in (
        λ held. absurd (no_row_has part x (subst (λ (r : BoxRow). IsTrue (row_has r part x)) is held)),
        λ held. absurd (omega (arith, past, standing_low spaces row (low.stand row part x held))),
      )

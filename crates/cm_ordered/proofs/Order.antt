-- Things in an order, found and changed at their places.
use Rattle.std.proofs.Common.{◌≡◌, ℕ, zero, suc, ◌<◌, ◌≤◌, Bool, true, false, not, cond, filter, find, map, length}
use Rattle.std.proofs.Common.{List, [], ◌∷◌, Some, None, refl, sym, ◌∙◌, ap, arith, get_or, slice_get, slice_set}
use Rattle.std.specs.List.{remove}
use Rattle.std.specs.List.Sorted.{IsPartitionPoint}
use Rattle.std.proofs.lemmas.Bool.{cond-true, cond-false, not_from_true, not_from_false}
use Rattle.cm_ordered.specs.Order.{AllSay, Ascends, IsCut, StandsAt, is_at, before_by, below_by, has_number}

-- ---- what all say
-- what is said of all is said of the one at a place
pub all_at : {A : Type 0} (test : A → Bool) (answer : Bool) (xs : List A) (at : ℕ) (d : A) → AllSay test answer xs
    → at < length xs
    → test (get_or xs at d) ≡ answer
all_at test answer [] at d all h = absurd (omega arith)
all_at test answer (x ∷ xs) zero d all h = all.0
all_at test answer (x ∷ xs) (suc at) d all h = all_at test answer xs at d all.1 (omega arith)

-- what is said of all is said of the one that is got at a place
pub all_got : {A : Type 0} (test : A → Bool) (answer : Bool) (xs : List A) (at : ℕ) (x : A) → AllSay test answer xs
    → slice_get xs at ≡ Some x → test x ≡ answer
all_got test answer [] at x all is = absurd (cc)
all_got test answer (y ∷ xs) zero x all is = let one : y ≡ x = cc in ap test (sym one) ∙ all.0
all_got test answer (y ∷ xs) (suc at) x all is = all_got test answer xs at x all.1 is

-- what is said of the one at each place is said of all
pub all_from : {A : Type 0} (test : A → Bool) (answer : Bool) (xs : List A)
    → ((k : ℕ) (d : A) → k < length xs → test (get_or xs k d) ≡ answer) → AllSay test answer xs
all_from test answer [] each = tt
all_from test answer (x ∷ xs) each = (
  each 0 x (omega arith),
  all_from test answer xs (λ k d h. each (suc k) d
      (omega arith)),
)

-- what is said of all, where the one test follows from the other
pub all_along : {A : Type 0} (test other : A → Bool) (answer reply : Bool) (xs : List A)
    → ((x : A) → test x ≡ answer → other x ≡ reply) → AllSay test answer xs → AllSay other reply xs
all_along test other answer reply [] along all = tt
all_along test other answer reply (x ∷ xs) along all = (
  along x all.0,
  all_along test other answer reply xs along
      all.1,
)

-- what is said of all is said of those that a filter leaves
pub all_filter : {A : Type 0} (test : A → Bool) (answer : Bool) (keeps : A → Bool) (xs : List A)
    → AllSay test answer xs → AllSay test answer (filter keeps xs)
all_filter test answer keeps [] all = tt
all_filter test answer keeps (x ∷ xs) all =
    elim (keeps x) as (λ b. AllSay test answer (cond b (x ∷ filter keeps xs) (filter keeps xs))) [
      | true ↦ (all.0, all_filter test answer keeps xs all.1)
      | false ↦ all_filter test answer keeps xs all.1
    ]

-- ---- the order stays
-- those that a filter leaves ascend
pub filter_ascends : {A : Type 0} (before : A → A → Bool) (keeps : A → Bool) (xs : List A) → Ascends before xs
    → Ascends before (filter keeps xs)
filter_ascends before keeps [] up = tt
filter_ascends before keeps (x ∷ xs) up =
    elim (keeps x) as (λ b. Ascends before (cond b (x ∷ filter keeps xs) (filter keeps xs))) [
      | true ↦ (all_filter (before x) true keeps xs up.0, filter_ascends before keeps xs up.1)
      | false ↦ filter_ascends before keeps xs up.1
    ]

all_map : {A B : Type 0} (before : A → A → Bool) (later : B → B → Bool) (change : A → B) (x : A) (xs : List A)
    → ((y z : A) → later (change y) (change z) ≡ before y z) → AllSay (before x) true xs
    → AllSay (later (change x)) true (map change xs)
all_map before later change x [] same all = tt
all_map before later change x (y ∷ xs) same all =
    (same x y ∙ all.0, all_map before later change x xs same all.1)

-- changed things ascend where the change keeps the order
pub map_ascends : {A B : Type 0} (before : A → A → Bool) (later : B → B → Bool) (change : A → B) (xs : List A)
    → ((y z : A) → later (change y) (change z) ≡ before y z) → Ascends before xs → Ascends later (map change xs)
map_ascends before later change [] same up = tt
map_ascends before later change (x ∷ xs) same up =
    (all_map before later change x xs same up.0, map_ascends before later change xs same up.1)

all_removed : {A : Type 0} (test : A → Bool) (answer : Bool) (xs : List A) (at : ℕ) → AllSay test answer xs
    → AllSay test answer (remove xs at)
all_removed test answer [] zero all = tt
all_removed test answer [] (suc at) all = tt
all_removed test answer (x ∷ xs) zero all = all.1
all_removed test answer (x ∷ xs) (suc at) all = (all.0, all_removed test answer xs at all.1)

-- without one of them the others ascend
pub removed_ascends : {A : Type 0} (before : A → A → Bool) (xs : List A) (at : ℕ) → Ascends before xs
    → Ascends before (remove xs at)
removed_ascends before [] zero up = tt
removed_ascends before [] (suc at) up = tt
removed_ascends before (x ∷ xs) zero up = up.1
removed_ascends before (x ∷ xs) (suc at) up =
    (all_removed (before x) true xs at up.0, removed_ascends before xs at up.1)

-- ---- places
-- the point that parts the list is the place
pub cut_at : {A : Type 0} (below : A → Bool) (xs : List A) (at : ℕ) → at ≤ length xs
    → IsPartitionPoint (λ y. below y ≡ true) (λ y. below y ≡ false) xs at → IsCut below xs at
cut_at below [] at within point = omega arith
cut_at below (x ∷ xs) zero within point = (
  point.1 0 x (omega arith) (omega arith),
  all_from below false xs (λ k d h. point.1 (suc k) d (omega arith)
      (omega arith)),
)
cut_at below (x ∷ xs) (suc at) within point = (
  point.0 0 x (omega arith) (omega arith),
  cut_at below xs at (omega arith) (
    λ k d le lt. point.0 (suc k) d (omega arith) (omega arith),
    λ k d le lt. point.1 (suc k) d (omega arith) (omega arith),
  ),
)

-- the place is within the list, or at its end
pub cut_within : {A : Type 0} (below : A → Bool) (xs : List A) (at : ℕ) → IsCut below xs at → at ≤ length xs
cut_within below (x ∷ xs) (suc at) cut = let rest : at ≤ length xs = cut_within below xs at cut.1 in omega arith
cut_within below _ _ cut = omega arith

-- what stands at a place stands within the list
pub at_within : {A : Type 0} (same : A → Bool) (xs : List A) (at : ℕ) → is_at same xs at ≡ true → at < length xs
at_within same [] at is = absurd (cc)
at_within same (x ∷ xs) zero is = omega arith
at_within same (x ∷ xs) (suc at) is = let rest : at < length xs = at_within same xs at is in omega arith

-- what is found at a place stands below the number of all, and a cut lies at most there
pub found_below : {A : Type 0} (same : A → Bool) (xs : List A) (at many : ℕ) (told : Bool) → told ≡ is_at same xs at
    → told ≡ true → length xs ≡ many → at < many
found_below same xs at many told is here all =
    let within : at < length xs = at_within same xs at (sym is ∙ here) in
    omega (arith, within, all)

pub cut_below : {A : Type 0} (below : A → Bool) (xs : List A) (at many : ℕ) → IsCut below xs at → length xs ≡ many
    → at ≤ many
cut_below below xs at many cut all = let within : at ≤ length xs = cut_within below xs at cut in omega (arith, within, all)

-- what stands nowhere doesn't stand at a place
pub not_at : {A : Type 0} (same : A → Bool) (xs : List A) (at : ℕ) → AllSay same false xs → is_at same xs at ≡ false
not_at same [] at none = refl
not_at same (x ∷ xs) zero none = none.0
not_at same (x ∷ xs) (suc at) none = not_at same xs at none.1

-- what has a lower number hasn't this one
lower_isnt : {A : Type 0} (number : A → ℕ) (n : ℕ) (x : A) → below_by number n x ≡ true → has_number number n x ≡ false
lower_isnt number n x lower = grind (arith, lower)

-- nor has what stands after one that hasn't a lower number
pub none_after : {A : Type 0} (number : A → ℕ) (n : ℕ) (x : A) (xs : List A) → below_by number n x ≡ false
    → AllSay (before_by number x) true xs → AllSay (has_number number n) false xs
none_after number n x xs reached after =
    all_along (before_by number x) (has_number number n) true false xs (λ y h. grind (arith, reached, h)) after

-- what stands at its place stands nowhere else
pub stands : {A : Type 0} (number : A → ℕ) (n : ℕ) (xs : List A) (at : ℕ) → Ascends (before_by number) xs
    → IsCut (below_by number n) xs at → is_at (has_number number n) xs at ≡ true
    → StandsAt (has_number number n) xs at
stands number n [] at up cut is = absurd (cc)
stands number n (x ∷ xs) zero up cut is = (is, none_after number n x xs cut.0 up.0)
stands number n (x ∷ xs) (suc at) up cut is = (lower_isnt number n x cut.0, stands number n xs at up.1 cut.1 is)

-- what doesn't stand at its place stands nowhere
pub stands_nowhere : {A : Type 0} (number : A → ℕ) (n : ℕ) (xs : List A) (at : ℕ) → Ascends (before_by number) xs
    → IsCut (below_by number n) xs at → is_at (has_number number n) xs at ≡ false
    → AllSay (has_number number n) false xs
stands_nowhere number n [] at up cut isnt = tt
stands_nowhere number n (x ∷ xs) zero up cut isnt = (isnt, none_after number n x xs cut.0 up.0)
stands_nowhere number n (x ∷ xs) (suc at) up cut isnt =
    (lower_isnt number n x cut.0, stands_nowhere number n xs at up.1 cut.1 isnt)

-- what is got at a place stands there, and nowhere else
pub stands_there : {A : Type 0} (number : A → ℕ) (xs : List A) (at : ℕ) (x : A) → slice_get xs at ≡ Some x
    → Ascends (before_by number) xs → StandsAt (has_number number (number x)) xs at
stands_there number [] at x is up = absurd (cc)
stands_there number (y ∷ xs) zero x is up =
    let one : y ≡ x = cc in
    let same : number y ≡ number x = ap number one in
    let here : has_number number (number x) y ≡ true = grind (arith, same) in
    let reached : below_by number (number x) y ≡ false = grind (arith, same) in
    (here, none_after number (number x) y xs reached up.0)
stands_there number (y ∷ xs) (suc at) x is up =
    let lower : before_by number y x ≡ true = all_got (before_by number y) true xs at x up.0 is in
    (lower_isnt number (number x) y lower, stands_there number xs at x is up.1)

-- ---- what is found
-- what stands at a place is what is found
pub got : {A : Type 0} (same : A → Bool) (xs : List A) (at : ℕ) → StandsAt same xs at
    → slice_get xs at ≡ find same xs
got same [] at here = absurd here
got same (x ∷ xs) zero here = sym (cond-true (same x) (Some x) (find same xs) here.0)
got same (x ∷ xs) (suc at) here = got same xs at here.1 ∙ sym (cond-false (same x) (Some x) (find same xs) here.0)

-- the thing at its place is found
pub found : {A : Type 0} (same : A → Bool) (xs : List A) (at : ℕ) (x : A) → StandsAt same xs at → x
    ≡ get_or xs at x → find same xs ≡ Some x
found same [] at x here is = absurd here
found same (y ∷ xs) zero x here is = cond-true (same y) (Some y) (find same xs) here.0 ∙ ap Some (sym is)
found same (y ∷ xs) (suc at) x here is = cond-false (same y) (Some y)
    (find same xs) here.0 ∙ found same xs at x here.1 is

-- what stands nowhere isn't found
pub not_found : {A : Type 0} (same : A → Bool) (xs : List A) → AllSay same false xs → find same xs ≡ None
not_found same [] none = refl
not_found same (x ∷ xs) none = cond-false (same x) (Some x) (find same xs) none.0 ∙ not_found same xs none.1

-- ---- what is left
-- all but what stands nowhere are all
pub keeps_all : {A : Type 0} (same : A → Bool) (xs : List A) → AllSay same false xs → filter (λ x. not (same x)) xs
    ≡ xs
keeps_all same [] none = refl
keeps_all same (x ∷ xs) none =
    cond-true (not (same x)) (x ∷ filter (λ x. not (same x)) xs) (filter (λ x. not (same x)) xs) (not_from_false
    (same x) none.0)
    ∙ ap (λ l. x ∷ l) (keeps_all same xs none.1)

-- all but the one at its place
pub keeps_others : {A : Type 0} (same : A → Bool) (xs : List A) (at : ℕ) → StandsAt same xs at → remove xs at
    ≡ filter (λ x. not (same x)) xs
keeps_others same [] at here = absurd here
keeps_others same (x ∷ xs) zero here =
    sym (cond-false (not (same x)) (x ∷ filter (λ x. not (same x)) xs) (filter (λ x. not (same x)) xs)
    (not_from_true (same x) here.0)
    ∙ keeps_all same xs here.1)
keeps_others same (x ∷ xs) (suc at) here =
    ap (λ l. x ∷ l) (keeps_others same xs at here.1)
    ∙ sym (cond-true (not (same x)) (x ∷ filter (λ x. not (same x)) xs) (filter (λ x. not (same x)) xs)
    (not_from_false (same x) here.0))

-- ---- what is changed
-- a change of what stands nowhere changes nothing
pub changes_none : {A : Type 0} (same : A → Bool) (change : A → A) (xs : List A) → AllSay same false xs
    → map (λ x. cond (same x) (change x) x) xs ≡ xs
changes_none same change [] none = refl
changes_none same change (x ∷ xs) none =
    ap (λ y. y ∷ map (λ x. cond (same x) (change x) x) xs) (cond-false (same x) (change x) x none.0) ∙ ap
    (λ l. x ∷ l) (changes_none same change xs none.1)

-- a change of the one at its place
pub changes_one : {A : Type 0} (same : A → Bool) (change : A → A) (xs : List A) (at : ℕ) (v x : A)
    → StandsAt same xs at → v ≡ x → x ≡ get_or xs at x
    → slice_set xs at (change v) ≡ map (λ x. cond (same x) (change x) x) xs
changes_one same change [] at v x here view is = absurd here
changes_one same change (y ∷ xs) zero v x here view is =
    ap (λ z. change z ∷ xs) (view ∙ is) ∙ sym (ap (λ z. z ∷ map (λ x. cond (same x) (change x) x) xs) (cond-true
    (same y) (change y) y here.0)
    ∙ ap (λ l. change y ∷ l) (changes_none same change xs here.1))
changes_one same change (y ∷ xs) (suc at) v x here view is =
    ap (λ l. y ∷ l) (changes_one same change xs at v x here.1 view is)
    ∙ sym (ap (λ z. z ∷ map (λ x. cond (same x) (change x) x) xs) (cond-false (same y) (change y) y here.0))

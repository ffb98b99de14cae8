-- What is found and left among things between others.
use Rattle.std.proofs.Common.{◌≡◌, ◌||◌, Bool, true, false, not, cond, filter, find, map, List, [], ◌∷◌, ◌++◌, Some, None}
use Rattle.std.proofs.Common.{refl, sym, ◌∙◌, ap}
use Rattle.std.specs.Prelude.{option_map, is_some, Option}
use Rattle.std.specs.List.{list_any}
use Rattle.std.proofs.lemmas.Bool.{cond-true, cond-false}
use Rattle.cm_ordered.specs.Order.{AllSay}
use Rattle.cm_ordered.proofs.Order.{not_found}

-- ---- what all say
-- what is said of all of the one list and of the other
pub all_append : {A : Type 0} (test : A → Bool) (answer : Bool) (xs ys : List A) → AllSay test answer xs
    → AllSay test answer ys → AllSay test answer (xs ++ ys)
all_append test answer [] ys all more = more
all_append test answer (x ∷ xs) ys all more = (all.0, all_append test answer xs ys all.1 more)

-- what is said of each changed thing is said of all of them
pub all_changed : {A B : Type 0} (test : B → Bool) (answer : Bool) (change : A → B) (xs : List A)
    → ((x : A) → test (change x) ≡ answer) → AllSay test answer (map change xs)
all_changed test answer change [] each = tt
all_changed test answer change (x ∷ xs) each = (each x, all_changed test answer change xs each)

-- ---- what is left
-- all are left where all are kept
pub filter_whole : {A : Type 0} (keeps : A → Bool) (xs : List A) → AllSay keeps true xs → filter keeps xs ≡ xs
filter_whole keeps [] all = refl
filter_whole keeps (x ∷ xs) all = cond-true (keeps x) (x ∷ filter keeps xs) (filter keeps xs) all.0
    ∙ ap (λ l. x ∷ l) (filter_whole keeps xs all.1)

-- none are left where none are kept
pub filter_none : {A : Type 0} (keeps : A → Bool) (xs : List A) → AllSay keeps false xs → filter keeps xs ≡ []
filter_none keeps [] all = refl
filter_none keeps (x ∷ xs) all = cond-false (keeps x) (x ∷ filter keeps xs) (filter keeps xs) all.0
    ∙ filter_none keeps xs all.1

-- what is left after those that are kept
pub filter_after : {A : Type 0} (keeps : A → Bool) (front xs : List A) → AllSay keeps true front
    → filter keeps (front ++ xs) ≡ front ++ filter keeps xs
filter_after keeps [] xs all = refl
filter_after keeps (x ∷ front) xs all =
    cond-true (keeps x) (x ∷ filter keeps (front ++ xs)) (filter keeps (front ++ xs)) all.0
    ∙ ap (λ l. x ∷ l) (filter_after keeps front xs all.1)

-- what is left after those that aren't
pub filter_past : {A : Type 0} (keeps : A → Bool) (front xs : List A) → AllSay keeps false front
    → filter keeps (front ++ xs) ≡ filter keeps xs
filter_past keeps [] xs none = refl
filter_past keeps (x ∷ front) xs none =
    cond-false (keeps x) (x ∷ filter keeps (front ++ xs)) (filter keeps (front ++ xs)) none.0
    ∙ filter_past keeps front xs none.1

-- what is left before those that are kept
pub filter_before : {A : Type 0} (keeps : A → Bool) (xs back : List A) → AllSay keeps true back
    → filter keeps (xs ++ back) ≡ filter keeps xs ++ back
filter_before keeps [] back all = filter_whole keeps back all
filter_before keeps (x ∷ xs) back all =
    elim (keeps x) as (λ b. cond b (x ∷ filter keeps (xs ++ back)) (filter keeps (xs ++ back))
    ≡ cond b (x ∷ filter keeps xs) (filter keeps xs) ++ back) [
      | true ↦ ap (λ l. x ∷ l) (filter_before keeps xs back all)
      | false ↦ filter_before keeps xs back all
    ]

-- a filter that keeps those around leaves of the others what it leaves of them alone
pub filter_among : {A : Type 0} (keeps : A → Bool) (front xs back : List A) → AllSay keeps true front
    → AllSay keeps true back → filter keeps (front ++ (xs ++ back)) ≡ front ++ (filter keeps xs ++ back)
filter_among keeps front xs back all every =
    filter_after keeps front (xs ++ back) all ∙ ap (λ l. front ++ l) (filter_before keeps xs back every)

-- a filter that keeps none of those around, and all others, leaves these
pub filter_only : {A : Type 0} (keeps : A → Bool) (front xs back : List A) → AllSay keeps false front
    → AllSay keeps true xs → AllSay keeps false back → filter keeps (front ++ (xs ++ back)) ≡ xs
filter_only keeps front [] back none all last =
    filter_past keeps front back none ∙ filter_none keeps back last
filter_only keeps front (x ∷ xs) back none all last =
    filter_past keeps front (x ∷ xs ++ back) none
    ∙ cond-true (keeps x) (x ∷ filter keeps (xs ++ back)) (filter keeps (xs ++ back)) all.0
    ∙ ap (λ l. x ∷ l) (filter_only keeps [] xs back tt all.1 last)

-- all are left where none is so
pub none_goes : {A : Type 0} (test : A → Bool) (xs : List A) → list_any test xs ≡ false
    → xs ≡ filter (λ x. not (test x)) xs
none_goes test [] none = refl
none_goes test (x ∷ xs) none =
    (elim (test x) as (λ b. (b || list_any test xs) ≡ false → x ∷ xs
    ≡ cond (not b) (x ∷ filter (λ x. not (test x)) xs) (filter (λ x. not (test x)) xs)) [
      | true ↦ λ h. absurd (cc)
      | false ↦ λ h. ap (λ l. x ∷ l) (none_goes test xs h)
    ]) none

-- all are left where none is found
pub none_found_goes : {A : Type 0} (same : A → Bool) (xs : List A) → find same xs ≡ None
    → xs ≡ filter (λ x. not (same x)) xs
none_found_goes same [] none = refl
none_found_goes same (x ∷ xs) none =
    (elim (same x) as (λ b. cond b (Some x) (find same xs) ≡ None → x ∷ xs
    ≡ cond (not b) (x ∷ filter (λ x. not (same x)) xs) (filter (λ x. not (same x)) xs)) [
      | true ↦ λ h. absurd (cc)
      | false ↦ λ h. ap (λ l. x ∷ l) (none_found_goes same xs h)
    ]) none

-- a filter of changed things
pub filter_changed : {A B : Type 0} (keeps : A → Bool) (left : B → Bool) (change : A → B) (xs : List A)
    → ((x : A) → left (change x) ≡ keeps x) → map change (filter keeps xs) ≡ filter left (map change xs)
filter_changed keeps left change [] same = refl
filter_changed keeps left change (x ∷ xs) same =
    (elim (keeps x) as (λ b. left (change x) ≡ b → map change (cond b (x ∷ filter keeps xs) (filter keeps xs))
    ≡ cond (left (change x)) (change x ∷ filter left (map change xs)) (filter left (map change xs))) [
      | true ↦ λ h. ap (λ l. change x ∷ l) (filter_changed keeps left change xs same)
          ∙ sym (cond-true (left (change x)) (change x ∷ filter left (map change xs)) (filter left (map change xs)) h)
      | false ↦ λ h. filter_changed keeps left change xs same
          ∙ sym (cond-false (left (change x)) (change x ∷ filter left (map change xs)) (filter left (map change xs)) h)
    ]) (same x)

-- ---- what is found
-- the same is found after things that aren't it
pub find_past : {A : Type 0} (same : A → Bool) (front xs : List A) → AllSay same false front
    → find same (front ++ xs) ≡ find same xs
find_past same [] xs none = refl
find_past same (x ∷ front) xs none = cond-false (same x) _ _ none.0 ∙ find_past same front xs none.1

-- the same is found before things that aren't it
pub find_before : {A : Type 0} (same : A → Bool) (xs back : List A) → AllSay same false back
    → find same (xs ++ back) ≡ find same xs
find_before same [] back none = not_found same back none
find_before same (x ∷ xs) back none = ap (λ r. cond (same x) (Some x) r) (find_before same xs back none)

-- a changed thing is found where the thing is
pub find_changed : {A B : Type 0} (same : A → Bool) (alike : B → Bool) (change : A → B) (xs : List A)
    → ((x : A) → alike (change x) ≡ same x) → find alike (map change xs) ≡ option_map change (find same xs)
find_changed same alike change [] is = refl
find_changed same alike change (x ∷ xs) is =
    (elim (same x) as (λ b. alike (change x) ≡ b → find alike (map change (x ∷ xs))
    ≡ option_map change (cond b (Some x) (find same xs))) [
      | true ↦ λ h. cond-true (alike (change x)) _ _ h
      | false ↦ λ h. cond-false (alike (change x)) _ _ h ∙ find_changed same alike change xs is
    ]) (is x)

-- ---- whether one is so
pub any_past : {A : Type 0} (test : A → Bool) (front xs : List A) → AllSay test false front
    → list_any test (front ++ xs) ≡ list_any test xs
any_past test [] xs none = refl
any_past test (x ∷ front) xs none = ap (λ b. b || list_any test (front ++ xs)) none.0 ∙ any_past test front xs none.1

pub any_none : {A : Type 0} (test : A → Bool) (xs : List A) → AllSay test false xs → list_any test xs ≡ false
any_none test [] none = refl
any_none test (x ∷ xs) none = ap (λ b. b || list_any test xs) none.0 ∙ any_none test xs none.1

-- ---- what is found, seen otherwise
-- where nothing is left of a change, nothing was there
pub not_mapped : {A B : Type 0} (change : A → B) (x : Option A) (y : Option B) → option_map change x ≡ y
    → is_some x ≡ false → y ≡ None
not_mapped change (Some x) y is none = absurd (cc)
not_mapped change None y is none = sym is

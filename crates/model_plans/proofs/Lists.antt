-- The first answer over a list: over joined, nested and mapped lists, and without an item that adds nothing.
use Rattle.std.proofs.Common.{◌≡◌, ℕ, zero, suc, ◌+◌, ◌<◌, ◌≤◌, arith, Bool, true, false, List, [], ◌∷◌, ◌++◌, map, Option, None, Some, option_map}
use Rattle.std.proofs.Common.{if◌then◌else◌, refl, sym, ap, ◌∙◌, subst}
use Rattle.std.specs.Prelude.{find, All, Any}
use Rattle.std.specs.List.{flat_map, range_with_len}
use Rattle.std.specs.Option.{option_or}
use Rattle.std.proofs.lemmas.List.Elements.{All-head, All-tail, All-cons, All-nil, All-append}
use Rattle.model_rules.proofs.Options.{both_none, or_assoc}
use Rattle.model_plans.specs.PlanRun.{first_some}

pub first_append : {A B : Type 0} (f : A → Option B) (xs ys : List A) → first_some f (xs ++ ys) ≡ option_or (first_some f xs) (first_some f ys)
first_append f [] ys = refl
first_append f (x ∷ xs) ys = ap (option_or (f x)) (first_append f xs ys) ∙ sym (or_assoc (f x) (first_some f xs) (first_some f ys))

pub first_flat_map : {A B C : Type 0} (f : B → Option C) (g : A → List B) (xs : List A)
    → first_some f (flat_map g xs) ≡ first_some (λ x. first_some f (g x)) xs
first_flat_map f g [] = refl
first_flat_map f g (x ∷ xs) = first_append f (g x) (flat_map g xs) ∙ ap (option_or (first_some f (g x))) (first_flat_map f g xs)

pub first_map : {A B C : Type 0} (f : B → Option C) (g : A → B) (xs : List A) → first_some f (map g xs) ≡ first_some (λ x. f (g x)) xs
first_map f g [] = refl
first_map f g (x ∷ xs) = ap (option_or (f (g x))) (first_map f g xs)

-- two functions with the same answers for the items have the same first one
pub first_same : {A B : Type 0} (f g : A → Option B) (xs : List A) → All (λ x. f x ≡ g x) xs → first_some f xs ≡ first_some g xs
first_same f g [] all = refl
first_same f g (x ∷ xs) all =
    ap (λ o. option_or o (first_some f xs)) (All-head (λ x. f x ≡ g x) x xs all)
    ∙ ap (option_or (g x)) (first_same f g xs (All-tail (λ x. f x ≡ g x) x xs all))

-- the same for all items whatever
pub first_everywhere : {A B : Type 0} (f g : A → Option B) (xs : List A) → ((x : A) → f x ≡ g x) → first_some f xs ≡ first_some g xs
first_everywhere f g [] same = refl
first_everywhere f g (x ∷ xs) same =
    ap (λ o. option_or o (first_some f xs)) (same x) ∙ ap (option_or (g x)) (first_everywhere f g xs same)

map_or : {B C : Type 0} (h : B → C) (a b : Option B) → option_map h (option_or a b) ≡ option_or (option_map h a) (option_map h b)
map_or h None b = refl
map_or h (Some x) b = refl

pub map_first : {A B C : Type 0} (h : B → C) (f : A → Option B) (xs : List A)
    → option_map h (first_some f xs) ≡ first_some (λ x. option_map h (f x)) xs
map_first h f [] = refl
map_first h f (x ∷ xs) = map_or h (f x) (first_some f xs) ∙ ap (option_or (option_map h (f x))) (map_first h f xs)

pub map_twice : {A B C : Type 0} (h : B → C) (g : A → B) (o : Option A) → option_map h (option_map g o) ≡ option_map (λ x. h (g x)) o
map_twice h g None = refl
map_twice h g (Some x) = refl

pub unmap_none : {A B : Type 0} (h : A → B) (o : Option A) → option_map h o ≡ None → o ≡ None
unmap_none h None is = refl
unmap_none h (Some x) is = absurd (cc)

pub unmap_some : {A B : Type 0} (h : A → B) (o : Option A) (y : B) → option_map h o ≡ Some y → (x : A) × (o ≡ Some x) × (h x ≡ y)
unmap_some h None y is = absurd (cc)
unmap_some h (Some x) y is = (x, refl, let same : h x ≡ y = cc in same)

-- a value where a test says so
abbrev pub value_if : {B : Type 0} → Bool → B → Option B
value_if b y = if b then Some y else None

pub map_find : {A B : Type 0} (h : A → B) (test : A → Bool) (xs : List A)
    → option_map h (find test xs) ≡ first_some (λ x. value_if (test x) (h x)) xs
map_find h test [] = refl
map_find h test (x ∷ xs) =
    elim (test x)
    as (λ (b : Bool). option_map h (if b then Some x else find test xs)
    ≡ option_or (value_if b (h x)) (first_some (λ y. value_if (test y) (h y)) xs)) [
      | true ↦ refl
      | false ↦ map_find h test xs
    ]

-- ---- no answer
pub all_none : {A B : Type 0} (f : A → Option B) (xs : List A) → first_some f xs ≡ None → All (λ x. f x ≡ None) xs
all_none f [] is = All-nil (λ x. f x ≡ None)
all_none f (x ∷ xs) is =
    let (here, later) = both_none (f x) (first_some f xs) is in
    All-cons (λ x. f x ≡ None) x xs here (all_none f xs later)

pub none_of : {A B : Type 0} (f : A → Option B) (xs : List A) → All (λ x. f x ≡ None) xs → first_some f xs ≡ None
none_of f [] all = refl
none_of f (x ∷ xs) all =
    ap (λ o. option_or o (first_some f xs)) (All-head (λ x. f x ≡ None) x xs all) ∙ none_of f xs (All-tail (λ x. f x ≡ None) x xs all)

-- ---- without an item that adds nothing
-- an item that has no answer where those before it have none
pub first_skip : {A B : Type 0} (f : A → Option B) (earlier later : List A) (x : A) → (first_some f earlier ≡ None → f x ≡ None)
    → first_some f (earlier ++ x ∷ later) ≡ first_some f (earlier ++ later)
first_skip f earlier later x nothing =
    first_append f earlier (x ∷ later)
    ∙ by (first_some f earlier) refl
    ∙ sym (first_append f earlier later)
  where
    by : (o : Option _) → first_some f earlier ≡ o → option_or o (option_or (f x) (first_some f later)) ≡ option_or o (first_some f later)
    by None none = ap (λ a. option_or a (first_some f later)) (nothing none)
    by (Some y) some = refl

-- ---- what holds of each item
pub all_flat_map : {A B : Type 0} (P : B → Type 0) (f : A → List B) (xs : List A) → All (λ x. All P (f x)) xs → All P (flat_map f xs)
all_flat_map P f [] all = All-nil P
all_flat_map P f (x ∷ xs) all =
    All-append P (f x) (flat_map f xs) (All-head (λ y. All P (f y)) x xs all)
    (all_flat_map P f xs (All-tail (λ y. All P (f y)) x xs all))

-- the numbers of a range
pub all_range : (P : ℕ → Type 0) (from count : ℕ) → ((n : ℕ) → from ≤ n → n < from + count → P n) → All P (range_with_len from count)
all_range P from zero each = All-nil P
all_range P from (suc count) each =
    All-cons P from (range_with_len (from + 1) count) (each from (omega arith) (omega arith))
    (all_range P (from + 1) count (λ n low high. each n (omega arith) (omega arith)))

pub all_at : {A : Type 0} (P : A → Type 0) (before after : List A) (x : A) → All P (before ++ x ∷ after) → P x
all_at P [] after x all = All-head P x after all
all_at P (y ∷ before) after x all = all_at P before after x (All-tail P y (before ++ x ∷ after) all)

-- ---- the first item that has an answer
pub record FirstAt (A B : Type 0) (f : A → Option B) (xs : List A) (y : B) : Type 0 where
  pub before : List A
  pub item : A
  pub after : List A
  pub listed : xs ≡ before ++ item ∷ after
  pub earlier : All (λ x. f x ≡ None) before
  pub answer : f item ≡ Some y

pub first_at : {A B : Type 0} (f : A → Option B) (xs : List A) (y : B) → first_some f xs ≡ Some y → FirstAt A B f xs y
first_at f [] y is = absurd (cc)
first_at f (x ∷ xs) y is = by (f x) refl is (first_at f xs y)
  where
    by : (o : Option _) → f x ≡ o → option_or o (first_some f xs) ≡ Some y → (first_some f xs ≡ Some y → FirstAt _ _ f xs y) → FirstAt _ _ f (x ∷ xs) y
    by (Some z) here it rest =
        record { before = []; item = x; after = xs; listed = refl; earlier = All-nil (λ a. f a ≡ None); answer = here ∙ it }
    by None here it rest =
        let later : FirstAt _ _ f xs y = rest it in
        record {
          before = x ∷ later.before;
          item = later.item;
          after = later.after;
          listed = ap (λ zs. x ∷ zs) later.listed;
          earlier = All-cons (λ a. f a ≡ None) x later.before here later.earlier;
          answer = later.answer;
        }

pub at_first : {A B : Type 0} (f : A → Option B) (xs : List A) (y : B) → FirstAt A B f xs y → first_some f xs ≡ Some y
at_first f xs y at =
    ap (first_some f) at.listed
    ∙ first_append f at.before (at.item ∷ at.after)
    ∙ ap (λ o. option_or o (first_some f (at.item ∷ at.after))) (none_of f at.before at.earlier)
    ∙ ap (λ o. option_or o (first_some f at.after)) at.answer

-- ---- without an item like an earlier one
pub any_of_all : {A : Type 0} (P Q : A → Type 0) (xs : List A) → All Q xs → Any P xs → (x : A) × P x × Q x
any_of_all P Q xs all any = (any.1, any.4, subst Q any.3 (all any.0 any.1 any.2))

-- an item may be left out where one before it is like it, and so has no answer where this one has one
pub skip_like : {A B : Type 0} (f : A → Option B) (Like : A → Type 0) (earlier later : List A) (x : A)
    → ((y : A) → Like y → f y ≡ None → f x ≡ None) → Any Like earlier
    → first_some f (earlier ++ x ∷ later) ≡ first_some f (earlier ++ later)
skip_like f Like earlier later x alike any =
    first_skip f earlier later x (λ none.
    let before : (y : _) × Like y × (f y ≡ None) = any_of_all Like (λ y. f y ≡ None) earlier (all_none f earlier none) any in
    alike before.0 before.1 before.2)

-- What stands first in a table of texts, and what stands nowhere in it.
use Rattle.std.proofs.Common.{◌≡◌, ◌≢◌, ℕ, zero, suc, ◌+◌, ◌<◌, Bool, true, false, not, List, [], ◌∷◌, ◌++◌, length, refl, sym, ap, ◌∙◌, arith}
use Rattle.std.proofs.Common.{Some, None, All, IsTrue}
use Rattle.std.proofs.lemmas.Bool.{and_parts, and_from, not-true}
use Rattle.std.proofs.lemmas.Iterator.Adapters.{position_from-zero}
use Rattle.std.proofs.lemmas.List.Elements.{All-head, All-tail}
use Rattle.std.proofs.lemmas.Option.{get_or_from_slice_get, slice_get_within, same_Some}
use Rattle.std.proofs.lemmas.Slice.Eq.{bytes_eq-Decides}
use Rattle.std.specs.Prelude.{bytes_eq, position, slice_get, AllPairs}
use Rattle.std.specs.List.{list_all, position_from}
use Rattle.cm_base.proofs.Texts.{text_other}

-- ---- texts
-- a text is itself
pub text_same : (text : List ℕ) → bytes_eq text text ≡ true
text_same text = (bytes_eq-Decides text text).1 refl

-- so are those of two lengths
pub length_other : (text other : List ℕ) → length text ≢ length other → bytes_eq text other ≡ false
length_other text other differ = text_other text other (λ same. differ (ap length same))

-- ---- tests of all
-- what holds of all holds of the one at a place
pub all_at : {A : Type 0} (p : A → Bool) (xs : List A) (i : ℕ) (x : A) → list_all p xs ≡ true → slice_get xs i ≡ Some x → p x ≡ true
all_at p [] i x all is = absurd (cc)
all_at {A} p (y ∷ ys) zero x all is =
    let same : y ≡ x = same_Some y x is in
    ap p (sym same) ∙ (and_parts (p y) (list_all p ys) all).0
all_at p (y ∷ ys) (suc i) x all is = all_at p ys i x (and_parts (p y) (list_all p ys) all).1 is

-- what passes each by itself passes together
pub all_passes : {A : Type 0} (p : A → Bool) (xs : List A) → All (λ x. IsTrue (p x)) xs → list_all p xs ≡ true
all_passes p [] all = refl
all_passes p (x ∷ xs) all =
    and_from (p x) (list_all p xs) (All-head (λ x. IsTrue (p x)) x xs all) (all_passes p xs (All-tail (λ x. IsTrue (p x)) x xs all))

-- what follows of each follows of all
pub all_weaker : {A : Type 0} (p q : A → Bool) → ((x : A) → p x ≡ true → q x ≡ true) → (xs : List A) → list_all p xs ≡ true → list_all q xs ≡ true
all_weaker p q weaker [] all = refl
all_weaker p q weaker (x ∷ xs) all =
    let parts : (p x ≡ true) × (list_all p xs ≡ true) = and_parts (p x) (list_all p xs) all in
    and_from (q x) (list_all q xs) (weaker x parts.0) (all_weaker p q weaker xs parts.1)

-- what holds of two lists holds of the one after the other
pub all_append : {A : Type 0} (p : A → Bool) (xs ys : List A) → list_all p xs ≡ true → list_all p ys ≡ true → list_all p (xs ++ ys) ≡ true
all_append p [] ys left right = right
all_append p (x ∷ xs) ys left right =
    let parts : (p x ≡ true) × (list_all p xs ≡ true) = and_parts (p x) (list_all p xs) left in
    and_from (p x) (list_all p (xs ++ ys)) parts.0 (all_append p xs ys parts.1 right)

-- ---- places
-- the first at which the test passes
pub found_at : {A : Type 0} (p : A → Bool) (n : ℕ) (xs : List A) (i : ℕ) (x : A) → slice_get xs i ≡ Some x → p x ≡ true
    → ((k : ℕ) (y : A) → k < i → slice_get xs k ≡ Some y → p y ≡ false) → position_from p n xs ≡ Some (n + i)
found_at p n [] i x is passes others = absurd (cc)
found_at p n (y ∷ ys) zero x is passes others =
    let same : y ≡ x = same_Some y x is in
    let here : p y ≡ true = ap p same ∙ passes in
    let place : n ≡ n + 0 = omega arith in
    rw here (ap Some place)
found_at p n (y ∷ ys) (suc i) x is passes others =
    let there : p y ≡ false = others 0 y (omega arith) refl in
    let place : n + 1 + i ≡ n + suc i = omega arith in
    rw there (found_at p (n + 1) ys i x is passes (λ k z below at. others (suc k) z (omega arith) at) ∙ ap Some place)

-- nowhere does it
pub found_nowhere : {A : Type 0} (p : A → Bool) (n : ℕ) (xs : List A) → list_all (λ x. not (p x)) xs ≡ true → position_from p n xs ≡ None
found_nowhere p n [] none = refl
found_nowhere p n (x ∷ xs) none =
    let parts : (not (p x) ≡ true) × (list_all (λ x. not (p x)) xs ≡ true) = and_parts (not (p x)) (list_all (λ x. not (p x)) xs) none in
    rw (not-true (p x) parts.0) (found_nowhere p (n + 1) xs parts.1)

pub position_at : {A : Type 0} (p : A → Bool) (xs : List A) (i : ℕ) (x : A) → slice_get xs i ≡ Some x → p x ≡ true
    → ((k : ℕ) (y : A) → k < i → slice_get xs k ≡ Some y → p y ≡ false) → position p xs ≡ Some i
position_at p xs i x is passes others =
    let place : 0 + i ≡ i = omega arith in position_from-zero p xs ∙ found_at p 0 xs i x is passes others ∙ ap Some place

pub position_nowhere : {A : Type 0} (p : A → Bool) (xs : List A) → list_all (λ x. not (p x)) xs ≡ true → position p xs ≡ None
position_nowhere p xs none = position_from-zero p xs ∙ found_nowhere p 0 xs none

-- ---- texts of which no two are equal
-- two places of different texts have two texts
pub distinct_at : (texts : List (List ℕ)) → AllPairs (λ text other. text ≢ other) texts → (k i : ℕ) (other text : List ℕ) → k < i
    → slice_get texts k ≡ Some other → slice_get texts i ≡ Some text → other ≢ text
distinct_at texts distinct k i other text below there here same =
    distinct k i [] below (slice_get_within texts i text here)
    (get_or_from_slice_get texts k other [] there ∙ same ∙ sym (get_or_from_slice_get texts i text [] here))

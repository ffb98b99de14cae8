-- A name is found among those of its length alone.
use Rattle.std.proofs.Common.{◌≡◌, ◌==◌, ℕ, zero, suc, ◌+◌, Bool, true, cond, List, [], ◌∷◌, Option, Some, length, map, refl, ap, ◌∙◌, eq-eqb, arith}
use Rattle.std.specs.List.{position_from, range_with_len}
use Rattle.std.specs.Prelude.{bytes_eq, filter, find}
use Rattle.std.proofs.lemmas.Iterator.Adapters.{position_from-zero}
use Rattle.std.proofs.lemmas.Slice.Eq.{bytes_eq-Decides}
use Rattle.cm_base.specs.CapSet.{cap_count}
use Rattle.cm_base.specs.Names.{cap_name_or, cap_names, cap_of}

-- what passes the one test is found among what passes another, where that is no more than the other
find_among : {A : Type 0} (p q : A → Bool) → ((x : A) → p x ≡ true → q x ≡ true) → (xs : List A) → find p (filter q xs) ≡ find p xs
find_among p q more [] = refl
find_among p q more (x ∷ xs) =
    let rest = find_among p q more xs in
    let here = more x in
    grind (arith, rest, here)

-- the first thing of that name, among those whose names have its length
pub find_of_length : {A : Type 0} (name_of : A → List ℕ) (name : List ℕ) (xs : List A)
    → find (λ x. bytes_eq (name_of x) name) (filter (λ x. length (name_of x) == length name) xs) ≡ find (λ x. bytes_eq (name_of x) name) xs
find_of_length name_of name xs =
    find_among (λ x. bytes_eq (name_of x) name) (λ x. length (name_of x) == length name)
    (λ x same. eq-eqb (length (name_of x)) (length name) (ap length ((bytes_eq-Decides (name_of x) name).0 same))) xs

-- the first place of a list of things is the first number whose thing passes
place_found : {A : Type 0} (test : A → Bool) (at : ℕ → A) (first count : ℕ)
    → position_from test first (map at (range_with_len first count)) ≡ find (λ n. test (at n)) (range_with_len first count)
place_found test at first zero = refl
place_found test at first (suc count) = ap (λ (rest : Option ℕ). cond (test (at first)) (Some first) rest) (place_found test at (first + 1) count)

-- the capability of a name is the first number with it
pub cap_found : (name : List ℕ) → cap_of name ≡ find (λ cap. bytes_eq (cap_name_or cap) name) (range_with_len 0 cap_count)
cap_found name =
    position_from-zero (λ n. bytes_eq n name) cap_names
    ∙ place_found (λ n. bytes_eq n name) cap_name_or 0 cap_count

-- Names by their places, and the names that are among them.
use Rattle.std.proofs.Common.{◌≡◌, ◌≢◌, ◌<◌, ◌≤◌, ℕ, List, [], ◌∷◌, length, Bool, true, false, not, IsTrue}
use Rattle.std.proofs.Common.{refl, inl, inr, arith}
use Rattle.std.specs.Str.{bytes_eq}
use Rattle.std.proofs.lemmas.Bool.{cases_Bool}
use Rattle.std.proofs.lemmas.Slice.Eq.{bytes_eq-Decides}
use Rattle.std.proofs.lemmas.List.Folds.{list_any-append}
use Rattle.cm_io.specs.Names.{place_of, is_among}
use Rattle.cm_io.specs.Counts.{noted}

-- a test and its contrary
pub never_not : (t : Bool) → t ≡ true → ¬ (IsTrue (not t))
never_not true is isnt = let no : false ≡ true = isnt in cc
never_not false is isnt = let no : false ≡ true = is in cc

-- a name is equal to itself
pub same_name : (a b : List ℕ) → a ≡ b → bytes_eq a b ≡ true
same_name a b same = (bytes_eq-Decides a b).1 same

-- and to no other name
pub other_name : (a b : List ℕ) → b ≢ a → bytes_eq a b ≡ false
other_name a b other = elim (cases_Bool (bytes_eq a b)) [
  | inl is ↦ absurd (let same = (bytes_eq-Decides a b).0 is in other (cc))
  | inr isnt ↦ isnt
]

-- a name with a place among the names is one of them
pub among_below : (names : List (List ℕ)) (name : List ℕ) → place_of names name < length names → is_among names name ≡ true
among_below [] name below = absurd (omega arith)
among_below (first ∷ names) name below = elim (cases_Bool (bytes_eq first name)) [
  | inl is ↦ rw is
  | inr isnt ↦
      let below_rest = rw isnt at below in
      rw (isnt, among_below names name (omega arith))
]

-- a name with no place among the names is none of them
pub among_past : (names : List (List ℕ)) (name : List ℕ) → length names ≤ place_of names name → is_among names name ≡ false
among_past [] name past = refl
among_past (first ∷ names) name past = elim (cases_Bool (bytes_eq first name)) [
  | inl is ↦ absurd (let none = rw is at past in omega arith)
  | inr isnt ↦
      let past_rest = rw isnt at past in
      rw (isnt, among_past names name (omega arith))
]

-- a name that is noted is among the names
pub among_noted : (names : List (List ℕ)) (name : List ℕ) → is_among (noted names name) name ≡ true
among_noted names name = elim (cases_Bool (is_among names name)) [
  | inl is ↦ rw (is, is)
  | inr isnt ↦ rw (isnt, list_any-append, isnt, same_name name name refl)
]

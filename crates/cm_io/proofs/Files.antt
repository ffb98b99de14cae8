-- Files in memory, by the places of their names.
use Rattle.std.proofs.Common.{◌≡◌, ◌<◌, ◌≤◌, ℕ, List, [], ◌∷◌, ◌++◌, length, get_or, Vec}
use Rattle.std.proofs.Common.{refl, ap, inl, inr, arith, add-one, Bool, false, true, if◌then◌else◌}
use Rattle.std.specs.Str.{bytes_eq}
use Rattle.std.proofs.lemmas.Bool.{cases_Bool}
use Rattle.std.specs.declared.alloc.Global.{Global}
use Rattle.cm_io.specs.Shelf.{bytes_at}
use Rattle.cm_io.specs.Names.{place_of, is_among}
use Rattle.cm_io.specs.Counts.{noted}
use Rattle.cm_io.specs.Held.{files_of, is_held}

-- a name at whose place a text stands is that of a file
pub held_below : (names : List (List ℕ)) (texts : List (Vec ℕ Global)) (name : List ℕ) → length texts ≤ length names
    → place_of names name < length texts → true ≡ is_held (files_of names texts) name
held_below (first ∷ names) (text ∷ texts) name fits below = elim (cases_Bool (bytes_eq first name)) [
  | inl is ↦ rw is
  | inr isnt ↦ let rest = rw isnt at below in rw isnt (held_below names texts name (omega arith) (omega arith))
]
held_below _ _ name fits below = absurd (omega arith)

-- a name at whose place none stands is that of no file
pub held_past : (names : List (List ℕ)) (texts : List (Vec ℕ Global)) (name : List ℕ) → length texts ≤ place_of names name
    → false ≡ is_held (files_of names texts) name
held_past (first ∷ names) (text ∷ texts) name past = elim (cases_Bool (bytes_eq first name)) [
  | inl is ↦ absurd (let none = rw is at past in omega arith)
  | inr isnt ↦ let rest = rw isnt at past in rw isnt (held_past names texts name (omega arith))
]
held_past _ _ name past = refl

-- the text at the place of a name is what the files have under it
pub text_at : (names : List (List ℕ)) (texts : List (Vec ℕ Global)) (name : List ℕ) (d : Vec ℕ Global) → length texts ≤ length names
    → place_of names name < length texts → (get_or texts (place_of names name) d).items ≡ bytes_at (files_of names texts) name
text_at (first ∷ names) (text ∷ texts) name d fits below = elim (cases_Bool (bytes_eq first name)) [
  | inl is ↦ rw is
  | inr isnt ↦ let rest = rw isnt at below in rw (isnt, add-one) (text_at names texts name d (omega arith) (omega arith))
]
text_at _ _ name d fits below = absurd (omega arith)

-- a name at whose place no text stands has no bytes
pub text_past : (names : List (List ℕ)) (texts : List (Vec ℕ Global)) (name : List ℕ) → length texts ≤ place_of names name
    → bytes_at (files_of names texts) name ≡ []
text_past (first ∷ names) (text ∷ texts) name past = elim (cases_Bool (bytes_eq first name)) [
  | inl is ↦ absurd (let none = rw is at past in omega arith)
  | inr isnt ↦ let rest = rw isnt at past in rw isnt (text_past names texts name (omega arith))
]
text_past _ _ name past = refl

-- names after those of the texts change no file
pub files-append : (names more : List (List ℕ)) (texts : List (Vec ℕ Global)) → length texts ≤ length names
    → files_of (names ++ more) texts ≡ files_of names texts
files-append [] [] [] fits = refl
files-append [] more (text ∷ texts) fits = absurd (omega arith)
files-append (first ∷ names) more (text ∷ texts) fits = ap (λ files. (first, text.items) ∷ files) (files-append names more texts (omega arith))
files-append _ _ [] fits = refl

-- nor does a name that is noted, or isn't where memory runs out
pub files-if_noted : (names now : List (List ℕ)) (name : List ℕ) (texts : List (Vec ℕ Global)) (done : Bool) → length texts ≤ length names
    → now ≡ (if done then noted names name else names) → files_of now texts ≡ files_of names texts
files-if_noted names now name texts false fits is = rw is
files-if_noted names now name texts true fits is = elim (cases_Bool (is_among names name)) [
  | inl known ↦ rw (is, known)
  | inr new ↦ rw (is, new) (files-append names (name ∷ []) texts fits)
]

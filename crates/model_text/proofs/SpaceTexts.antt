-- Spaces as they are written: a token, no `=`, which is read as the space, where the names of spaces keep their rules.
use Rattle.std.proofs.Common.{◌≡◌, ℕ, zero, suc, ◌+◌, ◌-◌, ◌<◌, ◌≤◌, true, false, not, List, [], ◌∷◌, ◌++◌, length}
use Rattle.std.proofs.Common.{refl, sym, ap, ◌∙◌, arith, inl, inr, Option, Some, None, cond, lit<, eqb}
use Rattle.std.proofs.lemmas.Bool.{and_parts, ne_eqb, cases_lt, agree_below_at, both_ways}
use Rattle.std.specs.Prelude.{codes, decimal, bytes_eq, slice_get, unwrap_or}
use Rattle.std.specs.List.{list_all, position_from}
use Rattle.std.specs.Result.{result_ok}
use Rattle.cm_base.proofs.Texts.{text_other}
use Rattle.cm_base.specs.Limits.{greatest_number}
use Rattle.model_text.proofs.DecimalTexts.{decimal_short, decimal_token, decimal_read}
use Rattle.model_text.proofs.Found.{text_same, all_at, all_weaker, found_at, found_nowhere, distinct_at, all_passes}
use Rattle.model_text.proofs.Tokens.{IsToken, is_plain, plain_above}
use Rattle.model_text.specs.NameText.{is_name_byte, is_name}
use Rattle.model_text.specs.Written.{AreNames}
use Rattle.model_text.specs.SpaceToken.{number_named, space_of_token, space_token}
use Rattle.model_text.specs.Token.{is_equals}

-- What is written of a space.
pub record SpaceWritten (names : List (List ℕ)) (space : ℕ) (text : List ℕ) : Type 0 where
  pub token : IsToken text
  pub plain : is_equals text ≡ false
  pub back : space_of_token names text ≡ Some space

-- ---- names
-- What a name is.
record IsName (name : List ℕ) : Type 0 where
  some : 0 < length name
  short : length name ≤ 32
  bytes : list_all is_name_byte name ≡ true
  other : bytes_eq name (codes "init") ≡ false

name_is : (name : List ℕ) → is_name name ≡ true → IsName name
unfolding is_name
name_is name is = grind arith

-- a byte of a name is above the space
name_byte_above : (byte : ℕ) → is_name_byte byte ≡ true → 32 < byte
name_byte_above byte is =
    elim (cases_lt 32 byte) [
      | inl above ↦ above
      | inr low ↦ let none : is_name_byte byte ≡ false = agree_below_at is_name_byte (λ _. false) 33 byte refl (omega arith) in
          absurd (both_ways (is_name_byte byte) none is)
    ]

-- a name begins with no byte that no name has
name_begins : (name rest : List ℕ) (other : ℕ) → list_all is_name_byte name ≡ true → is_name_byte other ≡ false → bytes_eq name (other ∷ rest) ≡ false
name_begins [] rest other all none = refl
name_begins (b ∷ name) rest other all none =
    let here : is_name_byte b ≡ true = (and_parts (is_name_byte b) (list_all is_name_byte name) all).0 in
    rw (ne_eqb b other (λ same. both_ways (is_name_byte other) none (ap is_name_byte (sym same) ∙ here))) refl

plain_name : (name : List ℕ) → IsName name → IsToken name
plain_name name is = record {
  some = is.some;
  short = omega (arith, is.short);
  plain = all_weaker is_name_byte is_plain (λ byte kept. plain_above byte (name_byte_above byte kept)) name is.bytes;
}

-- ---- the initial space, a declared one, and any other
initial_written : (names : List (List ℕ)) → SpaceWritten names 0 (codes "init")
initial_written names = record { token = record { some = lit< tt; short = lit< tt; plain = refl }; plain = refl; back = refl }

-- the number of a name is its place, counted on from the number of the first
number_is_place : (n : ℕ) (names : List (List ℕ)) (token : List ℕ) → number_named n names token ≡ position_from (λ name. bytes_eq name token) n names
number_is_place n [] token = refl
number_is_place n (name ∷ names) token =
    ap (λ (later : Option ℕ). cond (bytes_eq name token) (Some n) later) (number_is_place (n + 1) names token)

declared_written : (names : List (List ℕ)) (i : ℕ) (name : List ℕ) → AreNames names → slice_get names i ≡ Some name → SpaceWritten names (1 + i) name
declared_written names i name are is =
    let kept : IsName name = name_is name (all_at is_name names i name (all_passes is_name names are.each) is) in
    let place : number_named 1 names name ≡ Some (1 + i) =
    number_is_place 1 names name
    ∙ found_at (λ other. bytes_eq other name) 1 names i name is (text_same name)
    (λ k other below at. text_other other name (distinct_at names are.distinct k i other name below at is)) in
    record {
      token = plain_name name kept;
      plain = name_begins name [] 61 kept.bytes refl;
      back = rw (kept.other, place) refl;
    }

numbered_written : (names : List (List ℕ)) (n : ℕ) → AreNames names → n ≤ greatest_number → SpaceWritten names n (35 ∷ decimal n)
numbered_written names n are fits =
    let digits : IsToken (decimal n) = decimal_token n fits in
    let size : length (decimal n) ≤ 10 = decimal_short n fits in
    let none : number_named 1 names (35 ∷ decimal n) ≡ None =
    number_is_place 1 names (35 ∷ decimal n)
    ∙ found_nowhere (λ name. bytes_eq name (35 ∷ decimal n)) 1 names
    (all_weaker is_name (λ name. not (bytes_eq name (35 ∷ decimal n)))
    (λ name is. ap not (name_begins name (decimal n) 35 (name_is name is).bytes refl)) names (all_passes is_name names are.each)) in
    record {
      token = record { some = omega arith; short = omega (arith, size); plain = digits.plain };
      plain = refl;
      back = rw none (ap result_ok (decimal_read n fits));
    }

-- a later space, by its name where it has one
later_written : (names : List (List ℕ)) (i : ℕ) (name : Option (List ℕ)) → AreNames names → 1 + i ≤ greatest_number → slice_get names i ≡ name
    → SpaceWritten names (1 + i) (unwrap_or name (codes "#" ++ decimal (1 + i)))
later_written names i None are fits is = numbered_written names (1 + i) are fits
later_written names i (Some name) are fits is = declared_written names i name are is

pub space_written : (names : List (List ℕ)) (n : ℕ) → AreNames names → n ≤ greatest_number → SpaceWritten names n (space_token names n)
space_written names zero are fits = initial_written names
space_written names (suc i) are fits =
    let number : 1 + i ≡ suc i = omega arith in
    let back : suc i - 1 ≡ i = omega arith in
    let later : eqb (suc i) 0 ≡ false = ne_eqb (suc i) 0 (λ same. omega arith) in
    rw (back, later) (rw number at (later_written names i (slice_get names i) are (omega arith) refl))

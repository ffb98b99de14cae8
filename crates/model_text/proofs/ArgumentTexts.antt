-- Arguments as they are written: each is a token, none is `=`, and each is read as what was written.
use Rattle.std.proofs.Common.{◌≡◌, ℕ, ◌<◌, ◌≤◌, Bool, true, false, not, ◌&&◌, List, [], ◌∷◌, length, refl, ap, ◌∙◌, arith, inl, inr}
use Rattle.std.proofs.Common.{Option, Some, None, lit<, nat_le, nat_lt, eqb}
use Rattle.std.proofs.lemmas.Bool.{and_parts, not-true, ne_eqb, cases_lt, cases_eq, ltb-true, eqb-true}
use Rattle.std.proofs.lemmas.Option.{slice_get_past, option_and_then_some}
use Rattle.std.specs.Prelude.{decimal, bytes_eq}
use Rattle.std.specs.List.{list_all}
use Rattle.std.specs.Option.{option_or}
use Rattle.cm_base.proofs.Tables.{names_read_back}
use Rattle.cm_base.specs.Limits.{greatest_number, minus_one}
use Rattle.cm_base.specs.Names.{cap_name, cap_names, cap_of}
use Rattle.cm_base.specs.Number.{is_digit}
use Rattle.model_text.proofs.DecimalTexts.{digits_of_decimal, decimal_token, decimal_is_not, number_back}
use Rattle.model_text.proofs.Found.{all_at, all_weaker, position_nowhere}
use Rattle.model_text.proofs.Tokens.{IsToken, is_plain}
use Rattle.model_text.specs.Token.{number_token, id_text, cap_token, cap_name_or_number, word_token, word_text, is_equals}

-- ---- numbers are no `=`
pub decimal_is_no_equals : (n : ℕ) → n ≤ greatest_number → is_equals (decimal n) ≡ false
decimal_is_no_equals n fits = decimal_is_not n 61 [] fits refl

pub id_is_no_equals : (n : ℕ) → n ≤ greatest_number → is_equals (id_text n) ≡ false
id_is_no_equals n fits =
    elim (cases_eq n minus_one) [ inl same ↦ rw same refl | inr other ↦ rw (ne_eqb n minus_one other) (decimal_is_no_equals n fits) ]

-- ---- capabilities
abbrev begins_with_c : List ℕ → Bool
begins_with_c [] = false
begins_with_c (byte ∷ text) = eqb byte 67

-- a name of a capability is a token, no `=`, and begins as they all do
abbrev is_cap_name : List ℕ → Bool
is_cap_name name =
    ((nat_lt 0 (length name) && nat_lt (length name) 4096) && list_all is_plain name) && (not (is_equals name) && begins_with_c name)

-- What the name of a capability is.
record IsCapName (name : List ℕ) : Type 0 where
  token : IsToken name
  plain : is_equals name ≡ false
  begins : begins_with_c name ≡ true

cap_name_is : (name : List ℕ) → is_cap_name name ≡ true → IsCapName name
cap_name_is name is =
    let size : Bool = nat_lt 0 (length name) && nat_lt (length name) 4096 in
    let bytes : Bool = size && list_all is_plain name in
    let rest : Bool = not (is_equals name) && begins_with_c name in
    let halves : (bytes ≡ true) × (rest ≡ true) = and_parts bytes rest is in
    let first : (size ≡ true) × (list_all is_plain name ≡ true) = and_parts size (list_all is_plain name) halves.0 in
    let sizes : (nat_lt 0 (length name) ≡ true) × (nat_lt (length name) 4096 ≡ true)
    = and_parts (nat_lt 0 (length name)) (nat_lt (length name) 4096) first.0 in
    let second : (not (is_equals name) ≡ true) × (begins_with_c name ≡ true) = and_parts (not (is_equals name)) (begins_with_c name) halves.1 in
    record {
      token = record { some = ltb-true 0 (length name) sizes.0; short = ltb-true (length name) 4096 sizes.1; plain = first.1 };
      plain = not-true (is_equals name) second.0;
      begins = second.1;
    }

cap_names_are : list_all is_cap_name cap_names ≡ true
cap_names_are = refl

-- no such name is a number
not_digits : (name digits : List ℕ) → begins_with_c name ≡ true → list_all (is_digit 10) digits ≡ true → bytes_eq name digits ≡ false
not_digits [] digits begins all = absurd (cc)
not_digits (b ∷ name) [] begins all = refl
not_digits (b ∷ name) (d ∷ digits) begins all =
    let here : is_digit 10 d ≡ true = (and_parts (is_digit 10 d) (list_all (is_digit 10) digits) all).0 in
    let first : b ≡ 67 = eqb-true b 67 begins in
    let low : d < 58 = ltb-true d 58 (and_parts (nat_le 48 d) (nat_lt d 58) here).1 in
    rw (ne_eqb b d (λ same. omega arith)) refl

no_cap_of_digits : (digits : List ℕ) → list_all (is_digit 10) digits ≡ true → cap_of digits ≡ None
no_cap_of_digits digits all =
    position_nowhere (λ name. bytes_eq name digits) cap_names
    (all_weaker is_cap_name (λ name. not (bytes_eq name digits))
    (λ name is. ap not (not_digits name digits (cap_name_is name is).begins all)) cap_names cap_names_are)

-- What is written of a capability.
pub record CapWritten (cap : ℕ) (text : List ℕ) : Type 0 where
  pub token : IsToken text
  pub plain : is_equals text ≡ false
  pub back : cap_token text ≡ Some cap

named_cap : (cap : ℕ) (name : List ℕ) → cap_name cap ≡ Some name → cap_of name ≡ Some cap → CapWritten cap name
named_cap cap name is back =
    let kept : IsCapName name = cap_name_is name (all_at is_cap_name cap_names cap name cap_names_are is) in
    record { token = kept.token; plain = kept.plain; back = ap (λ (found : Option ℕ). option_or found (number_token name)) back }

numbered_cap : (cap : ℕ) → cap ≤ greatest_number → CapWritten cap (decimal cap)
numbered_cap cap fits = record {
  token = decimal_token cap fits;
  plain = decimal_is_no_equals cap fits;
  back =
      ap (λ (found : Option ℕ). option_or found (number_token (decimal cap))) (no_cap_of_digits (decimal cap) (digits_of_decimal cap fits).each)
      ∙ number_back cap fits;
}

pub cap_written : (cap : ℕ) → cap ≤ greatest_number → CapWritten cap (cap_name_or_number cap)
cap_written cap fits =
    elim (cases_lt cap 41) [
      | inl named ↦ option_and_then_some {P = CapWritten cap (cap_name_or_number cap)} cap_of (cap_name cap) cap (names_read_back.capability cap named)
          (λ name is back. rw is (named_cap cap name is back))
      | inr past ↦ rw (slice_get_past cap_names cap past) (numbered_cap cap fits)
    ]

-- ---- words
pub word_is_token : (deny : Bool) → IsToken (word_text deny)
word_is_token true = record { some = lit< tt; short = lit< tt; plain = refl }
word_is_token false = record { some = lit< tt; short = lit< tt; plain = refl }

pub word_is_no_equals : (deny : Bool) → is_equals (word_text deny) ≡ false
word_is_no_equals true = refl
word_is_no_equals false = refl

pub word_back : (deny : Bool) → word_token (word_text deny) ≡ Some deny
word_back true = refl
word_back false = refl

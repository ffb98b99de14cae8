-- The values that the text of a line stands for are in their ranges: numbers, capabilities, sets, lists of ids,
-- extents, results.
use Rattle.std.proofs.Common.{◌≡◌, ℕ, ◌<◌, ◌≤◌, ◌==◌, ◌^◌, Bool, true, List, [], ◌∷◌, map, Option, Some, None, Result}
use Rattle.std.proofs.Common.{Ok, Err, IfSome, All, IsTrue, refl, arith, if◌then◌else◌, nat_le, nat_lt}
use Rattle.std.proofs.lemmas.Bool.{and_parts, cond_both, leb-true, ltb-true}
use Rattle.std.proofs.lemmas.List.Elements.{All-nil, All-cons}
use Rattle.std.proofs.lemmas.Nat.{or_lt, pow_below}
use Rattle.std.proofs.lemmas.Option.{IfSome_then}
use Rattle.std.specs.Prelude.{IfOk, bytes_eq, codes, find, is_some, ok_or, option_and_then, option_map}
use Rattle.std.specs.List.{list_all}
use Rattle.cm_base.specs.CapSet.{IsCapSet, cap_count, none, single, union}
use Rattle.cm_base.specs.Limits.{greatest_number}
use Rattle.cm_base.specs.Names.{cap_of, errno_of}
use Rattle.cm_base.specs.Number.{is_number, read_decimal, value_of}
use Rattle.cm_base.specs.declared.errno.Errno.{Errno}
use Rattle.cm_base.specs.declared.faults.LineFault.{LineFault}
use Rattle.cm_base.specs.declared.number.BadNumber.{BadNumber}
use Rattle.cm_base.specs.declared.number.BadNumber.TheVariants.{NotNumber, TooLarge}
use Rattle.cm_base.specs.declared.res.Res.TheVariants as res
use Rattle.model_cred.specs.IdMap.{Extent}
use Rattle.model_cred.specs.Process.{as_pid, is_pid}
use Rattle.model_strace.specs.Files.{extent_of, extent_before, extents_of}
use Rattle.model_strace.specs.Marks.{after_mark, barred, cut_at, name_at, trimmed, without_front}
use Rattle.model_strace.specs.Numbers.{Sets, bare_capability, capability, capability_cut, ends_with_comment, hex_digits}
use Rattle.model_strace.specs.Numbers.{hex_number, id_before, id_list, ids_of, mask, mask_term, member_set, members_of}
use Rattle.model_strace.specs.Numbers.{securebit, securebit_names, securebits, sets_in, sets_of, three_sets, union_of}
use Rattle.model_strace.specs.Numbers.{union_with}
use Rattle.model_strace.specs.Outcome.{Outcome, NoReturn, Number, Other, birth_result, id_result, minus_outcome}
use Rattle.model_strace.specs.Outcome.{error_after, error_named, known_error}
use Rattle.model_strace.specs.Outcome.{number_outcome, outcome_of, past_greatest, plain_result}
use Rattle.model_strace.specs.Written.{arguments_of as parts_of, bracketed_whole, value_of as member_value}
use Rattle.model_text.proofs.CapTexts.{if_then, if_mapped, if_either, named_is, none_is}
use Rattle.model_text.proofs.ToldEvents.{Fits, cap_fits, id_fits, number_fits}
use Rattle.model_text.specs.CapText.{hex_after}
use Rattle.model_text.specs.Cut.{is_blank, tokens_of}
use Rattle.model_text.specs.Token.{cap_token, id_token, number_token}
use Rattle.model_text.specs.Written.{IsBirth, IsOldId, IsOutcome}

-- ---- values
-- it holds of each value of which there is one
pub any_some : {A : Type 0} (o : Option A) → IfSome o (λ x. Unit {0})
any_some None = tt
any_some (Some x) = tt

pub any_ok : {A : Type 0} (r : Result A LineFault) → IfOk r (λ x. Unit {0})
any_ok (Ok x) = tt
any_ok (Err why) = tt

pub ok_from : {A : Type 0} (P : A → Type 0) (o : Option A) (why : LineFault) → IfSome o P → IfOk (ok_or o why) P
ok_from P None why is = tt
ok_from P (Some x) why is = is

pub found_good : {A : Type 0} (good test : A → Bool) (xs : List A) → list_all good xs ≡ true
    → IfSome (find test xs) (λ x. good x ≡ true)
found_good good test [] all = tt
found_good good test (x ∷ xs) all =
    let parts : (good x ≡ true) × (list_all good xs ≡ true) = and_parts (good x) (list_all good xs) all in
    cond_both (test x) (Some x) (find test xs) (λ o. IfSome o (λ x. good x ≡ true)) (λ _. parts.0)
    (λ _. found_good good test xs parts.1)

-- ---- numbers, capabilities and sets
hex_fits : (text : List ℕ) → IfSome (hex_number text) Fits
hex_fits text =
    if_then (λ rest. Unit {0}) Fits hex_digits (after_mark (codes "0x") text) (any_some (after_mark (codes "0x") text))
    (λ rest _. digits_fit rest)
  where
    digits_fit : (rest : List ℕ) → IfSome (hex_digits rest) Fits
    digits_fit [] = tt
    digits_fit (byte ∷ rest) =
        if_then (λ n. Unit {0}) Fits (λ n. if nat_le n greatest_number then Some n else None)
        (hex_after 0 (byte ∷ rest))
        (any_some (hex_after 0 (byte ∷ rest)))
        (λ n _. cond_both (nat_le n greatest_number) (Some n) None (λ o. IfSome o Fits)
        (λ low. leb-true n greatest_number low) (λ _. tt))

bare_fits : (text : List ℕ) → IfSome (bare_capability text) Fits
bare_fits text = if_either Fits (cap_token text) (hex_number text) (cap_fits text) (hex_fits text)

pub capability_fits : (texts : List (List ℕ)) → IfSome (capability texts) Fits
capability_fits [] = tt
capability_fits (text ∷ texts) = by_cut (cut_at (codes "/*") text)
  where
    by_cut : (cut : Option (List ℕ × List ℕ)) → IfSome (capability_cut text cut texts) Fits
    by_cut None = bare_fits text
    by_cut (Some sides) =
        cond_both (ends_with_comment (sides.1 ∷ texts)) (bare_capability (trimmed sides.0)) None (λ o. IfSome o Fits)
        (λ _. bare_fits (trimmed sides.0)) (λ _. tt)

-- a union of sets below a power of two
union_below : (k : ℕ) (term : List ℕ → Option ℕ) (set : ℕ) (texts : List (List ℕ)) → set < 2 ^ k
    → ((text : List ℕ) → IfSome (term text) (λ n. n < 2 ^ k)) → IfSome (union_with term set texts) (λ n. n < 2 ^ k)
union_below k term set [] low each = low
union_below k term set (text ∷ texts) low each =
    if_then (λ n. n < 2 ^ k) (λ n. n < 2 ^ k) (λ more. union_with term (union set more) texts) (term text) (each text)
    (λ more small. union_below k term (union set more) texts (or_lt k set more low small) each)

mask_is : (text : List ℕ) → IfSome (mask text) IsCapSet
mask_is text = union_below cap_count mask_term none (map trimmed (barred text)) none_is term_is
  where
    term_is : (text : List ℕ) → IfSome (mask_term text) IsCapSet
    term_is text =
        let named : Option ℕ = option_and_then cap_of (after_mark (codes "1<<") text) in
        cond_both (bytes_eq text (codes "0")) (Some none) (option_map single named) (λ o. IfSome o IsCapSet)
        (λ _. none_is)
        (λ _. if_mapped (λ cap. cap < cap_count) IsCapSet single named
        (if_then (λ rest. Unit {0}) (λ cap. cap < cap_count) cap_of (after_mark (codes "1<<") text)
        (any_some (after_mark (codes "1<<") text)) (λ rest _. named_is rest))
        (λ cap low. pow_below cap cap_count low))

pub bits_fit : (text : List ℕ) → IfSome (securebits text) Fits
bits_fit text =
    let IsGood : Option ℕ → Type 0 = λ o. IfSome o Fits in
    cond_both (bytes_eq text (codes "0")) (Some none) _ IsGood
    (λ _. omega arith)
    (λ _. if_either Fits (hex_number text) (union_of securebit text) (hex_fits text)
    (IfSome_then (union_of securebit text)
    (union_below 8 securebit none (map trimmed (barred text)) (omega arith) bit_is) (λ n low. omega arith)))
  where
    bit_is : (name : List ℕ) → IfSome (securebit name) (λ n. n < 2 ^ 8)
    bit_is name =
        if_mapped (λ bit. nat_lt bit.1 256 ≡ true) (λ n. n < 2 ^ 8) (λ bit. bit.1)
        (find (λ bit. bytes_eq bit.0 name) securebit_names)
        (found_good (λ bit. nat_lt bit.1 256) (λ bit. bytes_eq bit.0 name) securebit_names refl)
        (λ bit low. ltb-true bit.1 256 low)

-- The three are sets of capabilities.
pub record AreSets (sets : Sets) : Type 0 where
  pub effective : IsCapSet sets.effective
  pub permitted : IsCapSet sets.permitted
  pub inheritable : IsCapSet sets.inheritable

pub sets_are : (text : List ℕ) → IfSome (sets_of text) AreSets
sets_are text =
    if_then (λ members. Unit {0}) AreSets sets_in (members_of text) (any_some (members_of text))
    (λ members _. in_members members)
  where
    three_are : (e p i : Option ℕ) → IfSome e IsCapSet → IfSome p IsCapSet → IfSome i IsCapSet
        → IfSome (three_sets e p i) AreSets
    three_are (Some e) (Some p) (Some i) first second third =
        record { effective = first; permitted = second; inheritable = third }
    three_are _ _ _ first second third = tt

    member_is : (name text : List ℕ) → IfSome (member_set name text) IsCapSet
    member_is name text =
        if_then (λ value. Unit {0}) IsCapSet mask (member_value name text) (any_some (member_value name text))
        (λ value _. mask_is value)

    in_members : (members : List (List ℕ)) → IfSome (sets_in members) AreSets
    in_members (e ∷ p ∷ i ∷ []) =
        three_are (member_set (codes "effective") e) (member_set (codes "permitted") p)
        (member_set (codes "inheritable") i)
        (member_is (codes "effective") e) (member_is (codes "permitted") p) (member_is (codes "inheritable") i)
    in_members _ = tt

-- ---- lists of ids, and extents
ids_fit : (texts : List (List ℕ)) → IfSome (ids_of texts) (All Fits)
ids_fit [] = All-nil Fits
ids_fit (text ∷ texts) = before (id_token text) (ids_of texts) (id_fits text) (ids_fit texts)
  where
    before : (id : Option ℕ) (ids : Option (List ℕ)) → IfSome id Fits → IfSome ids (All Fits)
        → IfSome (id_before id ids) (All Fits)
    before id ids fits all = grind (arith, All-cons)

pub list_fits : (text : List ℕ) → IfSome (id_list text) (All Fits)
list_fits text =
    let inside : Option (List ℕ) = bracketed_whole (codes "[") (codes "]") text in
    cond_both (bytes_eq text (codes "NULL")) (Some []) (option_and_then (λ inside. ids_of (parts_of inside)) inside)
    (λ o. IfSome o (All Fits))
    (λ _. All-nil Fits)
    (λ _. if_then (λ inside. Unit {0}) (All Fits) (λ inside. ids_of (parts_of inside)) inside (any_some inside)
    (λ inside _. ids_fit (parts_of inside)))

-- the numbers of an extent
abbrev pub ExtentFits : Extent → Type 0
ExtentFits e = Fits e.inside × Fits e.outside × Fits e.length

abbrev OptionsFit : List (Option ℕ) → Type 0
OptionsFit [] = Unit {0}
OptionsFit (o ∷ options) = IfSome o Fits × OptionsFit options

tokens_fit : (tokens : List (List ℕ)) → OptionsFit (map number_token tokens)
tokens_fit [] = tt
tokens_fit (token ∷ tokens) = (number_fits token, tokens_fit tokens)

extent_fits : (options : List (Option ℕ)) → OptionsFit options → IfSome (extent_of options) ExtentFits
extent_fits (Some i ∷ Some o ∷ Some n ∷ []) fit = (fit.0, fit.1.0, fit.1.1.0)
extent_fits _ fit = tt

pub extents_fit : (lines : List (List ℕ)) → IfSome (extents_of lines) (All ExtentFits)
extents_fit [] = All-nil ExtentFits
extents_fit (line ∷ lines) =
    before (extent_of (map number_token (tokens_of line))) (extents_of lines)
    (extent_fits (map number_token (tokens_of line)) (tokens_fit (tokens_of line))) (extents_fit lines)
  where
    before : (e : Option Extent) (list : Option (List Extent)) → IfSome e ExtentFits → IfSome list (All ExtentFits)
        → IfSome (extent_before e list) (All ExtentFits)
    before e list fits all = grind (arith, All-cons)

-- ---- results
-- a number that is told is one of 32 bits, or the one past them
abbrev pub OutcomeFits : Outcome → Type 0
OutcomeFits (Number n) = n ≤ past_greatest
OutcomeFits _ = Unit {0}

pub outcome_fits : (text : List ℕ) → OutcomeFits (outcome_of text)
outcome_fits text =
    cond_both (is_some (after_mark (codes "?") text)) NoReturn (number_outcome text (read_decimal text)) OutcomeFits
    (λ _. tt)
    (λ _. by_number (read_decimal text) read_fits)
  where
    error_fits : (e : Option Errno) → OutcomeFits (known_error e)
    error_fits None = tt
    error_fits (Some e) = tt

    named_fits : (name : List ℕ) → OutcomeFits (error_named name)
    named_fits name =
        cond_both (bytes_eq name (codes "ENOSYS")) NoReturn (known_error (errno_of name)) OutcomeFits (λ _. tt)
        (λ _. error_fits (errno_of name))

    after_fits : (rest : List ℕ) → OutcomeFits (error_after rest)
    after_fits [] = tt
    after_fits (byte ∷ rest) =
        let name : List ℕ = name_at (without_front rest) in
        cond_both (is_blank byte) (error_named name) Other OutcomeFits (λ _. named_fits name) (λ _. tt)

    minus_fits : (rest : Option (List ℕ)) → OutcomeFits (minus_outcome rest)
    minus_fits None = tt
    minus_fits (Some rest) = after_fits rest

    by_number : (read : Result ℕ BadNumber) → IfOk read Fits → OutcomeFits (number_outcome text read)
    by_number (Err NotNumber) fits = minus_fits (after_mark (codes "-1") text)
    by_number _ fits = omega arith

    read_fits : IfOk (read_decimal text) Fits
    read_fits =
        let value : ℕ = value_of 10 text in
        let spelled : Result ℕ BadNumber = if nat_le value greatest_number then Ok value else Err TooLarge in
        let IsGood : Result ℕ BadNumber → Type 0 = λ r. IfOk r Fits in
        cond_both (is_number 10 text) spelled (Err NotNumber) IsGood
        (λ _. cond_both (nat_le value greatest_number) (Ok value) (Err TooLarge) IsGood
        (λ low. leb-true value greatest_number low) (λ _. tt))
        (λ _. tt)

pub plain_may : (outcome : Outcome) → IfSome (plain_result outcome) IsOutcome
plain_may (Number n) = cond_both (n == 0) (Some res.Done) None (λ o. IfSome o IsOutcome) (λ _. tt) (λ _. tt)
plain_may _ = tt

pub id_may : (outcome : Outcome) → OutcomeFits outcome → IfSome (id_result outcome) IsOldId
id_may (Number n) fits =
    cond_both (n == past_greatest) None (Some (res.Id n)) (λ o. IfSome o IsOldId)
    (λ _. tt)
    (λ other. grind (arith, other, fits))
id_may _ fits = tt

pub birth_may : (outcome : Outcome) → IfSome (birth_result outcome) IsBirth
birth_may (Number n) =
    if_mapped (λ pid. IsTrue (is_pid pid)) IsBirth res.Child (as_pid n)
    (cond_both (is_pid n) (Some n) None (λ o. IfSome o (λ pid. IsTrue (is_pid pid))) (λ is. is) (λ _. tt))
    (λ pid is. is)
birth_may _ = tt

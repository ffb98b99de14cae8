-- The texts of sets of capabilities: what a text stands for is a set of capabilities, of those that there are.
use Rattle.std.proofs.Common.{◌≡◌, ℕ, ◌<◌, ◌==◌, List, [], ◌∷◌, length, Option, Some, None, if◌then◌else◌, IfSome, option_map, option_and_then}
use Rattle.std.proofs.Common.{bytes_eq, codes, refl, lit<, arith}
use Rattle.std.proofs.lemmas.Bool.{cond_both}
use Rattle.std.proofs.lemmas.List.Quantifiers.{position-Some}
use Rattle.std.proofs.lemmas.Nat.{and_le_r}
use Rattle.std.specs.List.{slice_split}
use Rattle.std.specs.Option.{option_or}
use Rattle.cm_base.proofs.CapSets.{with_is_cap_set}
use Rattle.cm_base.specs.CapSet.{cap_count, full, none, meet, with, IsCapSet}
use Rattle.cm_base.specs.Names.{cap_names, cap_of}
use Rattle.model_text.specs.CapText.{hex_after, digits_set, names_with, names_set, set_of_text}

pub none_is : IsCapSet none
none_is = lit< tt

pub full_is : IsCapSet full
full_is = lit< tt

-- ---- optional values
-- what holds of a value, if there is one, by the equation that it is there
pub if_there : {A : Type 0} (P : A → Type 0) (o : Option A) → ((x : A) → o ≡ Some x → P x) → IfSome o P
if_there P None holds = tt
if_there P (Some x) holds = holds x refl

-- what the next step gives, where there is a value
pub if_then : {A B : Type 0} (P : A → Type 0) (Q : B → Type 0) (f : A → Option B) (o : Option A)
    → IfSome o P → ((x : A) → P x → IfSome (f x) Q) → IfSome (option_and_then f o) Q
if_then P Q f None is step = tt
if_then P Q f (Some x) is step = step x is

-- what a function makes of the value
pub if_mapped : {A B : Type 0} (P : A → Type 0) (Q : B → Type 0) (f : A → B) (o : Option A)
    → IfSome o P → ((x : A) → P x → Q (f x)) → IfSome (option_map f o) Q
if_mapped P Q f None is step = tt
if_mapped P Q f (Some x) is step = step x is

pub if_either : {A : Type 0} (P : A → Type 0) (o other : Option A) → IfSome o P → IfSome other P → IfSome (option_or o other) P
if_either P None other is others = others
if_either P (Some x) other is others = is

-- ---- digits
pub meet_full_is : (bits : ℕ) → IsCapSet (meet bits full)
meet_full_is bits = omega (arith, and_le_r bits full)

digits_are : (text : List ℕ) → IfSome (digits_set text) IsCapSet
digits_are text =
    cond_both (length text == 16) (option_map (λ bits. meet bits full) (hex_after 0 text)) None (λ o. IfSome o IsCapSet)
    (λ _. met (hex_after 0 text))
    (λ _. tt)
  where
    met : (bits : Option ℕ) → IfSome (option_map (λ bits. meet bits full) bits) IsCapSet
    met None = tt
    met (Some bits) = meet_full_is bits

-- ---- names
-- a name is that of one of the capabilities
pub named_is : (name : List ℕ) → IfSome (cap_of name) (λ cap. cap < cap_count)
named_is name = if_there (λ cap. cap < cap_count) (cap_of name) (λ cap is. (position-Some (λ n. bytes_eq n name) cap_names cap [] is).0)

names_are_with : (set : ℕ) (names : List (List ℕ)) → IsCapSet set → IfSome (names_with set names) IsCapSet
names_are_with set [] is = is
names_are_with set (name ∷ names) is =
    if_then (λ cap. cap < cap_count) IsCapSet (λ cap. names_with (with set cap) names) (cap_of name) (named_is name)
    (λ cap low. names_are_with (with set cap) names (with_is_cap_set set cap is low))

names_are : (text : List ℕ) → IfSome (names_set text) IsCapSet
names_are text = names_are_with none (slice_split (λ byte. byte == 44) text) none_is

-- ---- texts
pub text_is : (text : List ℕ) → IfSome (set_of_text text) IsCapSet
text_is text =
    let spelled : Option ℕ = option_or (digits_set text) (names_set text) in
    cond_both (bytes_eq text (codes "all")) (Some full) (if bytes_eq text (codes "none") then Some none else spelled) (λ o. IfSome o IsCapSet)
    (λ _. full_is)
    (λ _. cond_both (bytes_eq text (codes "none")) (Some none) spelled (λ o. IfSome o IsCapSet)
    (λ _. none_is)
    (λ _. if_either IsCapSet (digits_set text) (names_set text) (digits_are text) (names_are text)))

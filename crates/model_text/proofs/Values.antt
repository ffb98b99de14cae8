-- Numbers of a world's text are in their range, also where a default stands for one; the space that a row names stands.
use Rattle.std.proofs.Common.{ℕ, suc, ◌+◌, ◌<◌, ◌≤◌, ◌&&◌, List, [], ◌∷◌, length, Option, Some, None, IfSome, codes, pos, arith}
use Rattle.std.proofs.lemmas.Bool.{and_parts, cond_both, leb-true}
use Rattle.std.proofs.lemmas.Option.{IfSome_then}
use Rattle.std.specs.Prelude.{nat_le, bytes_eq, unwrap_or}
use Rattle.model_text.specs.MountText.{space_of_row}
use Rattle.model_text.specs.SpaceText.{space_named}
use Rattle.model_text.specs.SpaceToken.{number_named}
use Rattle.model_text.specs.Toml.{number_from, number_of, number_or, text_or}
use Rattle.toml.specs.Data.{Data, integer, Members, get_member}

-- what holds of a value, if there is one, and of the default holds of the one that counts
pub or_default : {A : Type 0} (P : A → Type 0) (o : Option A) (default : A) → IfSome o P → P default → P (unwrap_or o default)
or_default P None default is other = other
or_default P (Some x) default is other = is

-- ---- numbers
pub number_within : (low high : ℕ) (value : Data) → IfSome (number_from low high value) (λ n. n ≤ high)
number_within low high (integer (pos n)) =
    cond_both (nat_le low n && nat_le n high) (Some n) None (λ o. IfSome o (λ m. m ≤ high))
    (λ is. leb-true n high (and_parts (nat_le low n) (nat_le n high) is).1) (λ _. tt)
number_within low high _ = tt

optional_within : (low high : ℕ) (value : Option Data) → IfSome (number_of low high value) (λ n. n ≤ high)
optional_within low high None = tt
optional_within low high (Some value) = number_within low high value

pub number_or_within : (low high default : ℕ) (key : List ℕ) (row : Members) → default ≤ high → number_or low high default key row ≤ high
number_or_within low high default key row within =
    or_default (λ n. n ≤ high) (number_of low high (get_member key row)) default (optional_within low high (get_member key row)) within

-- ---- spaces
pub named_within : (n : ℕ) (names : List (List ℕ)) (name : List ℕ) → IfSome (number_named n names name) (λ k. k < n + length names)
named_within n [] name = tt
named_within n (other ∷ names) name =
    cond_both (bytes_eq other name) (Some n) (number_named (n + 1) names name) (λ o. IfSome o (λ k. k < n + suc (length names)))
    (λ _. omega arith)
    (λ _. IfSome_then (number_named (n + 1) names name) (named_within (n + 1) names name) (λ k below. omega arith))

-- a space that is named is the initial one, or one of those that have these names
pub space_within : (names : List (List ℕ)) (name : List ℕ) → IfSome (space_named names name) (λ k. k < length names + 1)
space_within names name =
    cond_both (bytes_eq name (codes "init")) (Some 0) (number_named 1 names name) (λ o. IfSome o (λ k. k < length names + 1))
    (λ _. omega arith)
    (λ _. IfSome_then (number_named 1 names name) (named_within 1 names name) (λ k below. omega arith))

-- so is that of a row
pub row_space_within : (names : List (List ℕ)) (row : Members) → unwrap_or (space_of_row names row) 0 < length names + 1
row_space_within names row =
    or_default (λ k. k < length names + 1) (space_of_row names row) 0
    (space_within names (text_or (codes "init") (codes "space") row)) (omega arith)

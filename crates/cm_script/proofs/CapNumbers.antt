-- The numbers of capabilities that have no name.
use Rattle.std.proofs.Common.{◌<◌, ◌≤◌, inl, inr, ap, Option, ◌≡◌, ℕ, List}
use Rattle.std.proofs.lemmas.Bool.{cases_lt}
use Rattle.std.proofs.lemmas.Option.{slice_get_past}
use Rattle.std.specs.Prelude.{decimal, unwrap_or}
use Rattle.cm_base.specs.Names.{cap_names}
use Rattle.model_text.specs.Token.{cap_name_or_number}

-- a number past the last capability is printed as it is
pub unnamed : (number : ℕ) → (number < 41 → ⊥) → cap_name_or_number number ≡ decimal number
unnamed number none = ap (λ (name : Option (List ℕ)). unwrap_or name (decimal number)) (slice_get_past cap_names number (past number none))
  where
    past : (n : ℕ) → (n < 41 → ⊥) → 41 ≤ n
    past n none = elim (cases_lt n 41) [ inl below ↦ absurd (none below) | inr above ↦ above ]

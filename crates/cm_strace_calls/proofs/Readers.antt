-- Arguments that are read one after another.
use Rattle.std.proofs.Common.{◌≡◌, ℕ, List, [], ◌∷◌, refl, inl, inr}
use Rattle.cm_base.specs.declared.res.Res.{Res}
use Rattle.cm_tokens.proofs.Options.{cases_Option}
use Rattle.cm_strace_calls.specs.Readers.{first_read, next_read}
use Rattle.model_strace.specs.Calls.{groups_call, ids_of_length, read_argument, then_tells}
use Rattle.model_text.specs.Token.{number_token}

-- a number, and a list of so many ids
pub list_in_turn : (arguments : List (List ℕ)) (result : Res)
    → then_tells (read_argument number_token 1 arguments) (λ n.
    then_tells (read_argument (ids_of_length n) 2 arguments) (λ ids. groups_call ids result))
    ≡ then_tells (next_read number_token 1 arguments) (λ n.
    then_tells (first_read (ids_of_length n.0) 2 n.1) (λ ids. groups_call ids result))
list_in_turn [] result = refl
list_in_turn (text ∷ texts) result =
    elim (cases_Option (number_token text)) [ inl none ↦ rw none refl | inr n ↦ rw n.1 refl ]

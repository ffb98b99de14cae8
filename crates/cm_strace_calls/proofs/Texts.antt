-- The texts of arguments, one after another.
use Rattle.std.proofs.Common.{◌≡◌, ℕ, drop, List, [], ◌∷◌, refl}
use Rattle.model_strace.specs.Calls.{open_told, text_of}
use Rattle.model_strace.specs.Outcome.{Outcome}

-- the first after one is the second
pub second_text : (arguments : List (List ℕ)) → text_of 1 (drop 1 arguments) ≡ text_of 2 arguments
second_text [] = refl
second_text (text ∷ texts) = refl

-- an open after one argument
pub open_after : (arguments : List (List ℕ)) (outcome : Outcome)
    → open_told 1 (drop 1 arguments) outcome ≡ open_told 2 arguments outcome
open_after [] outcome = refl
open_after (text ∷ texts) outcome = refl

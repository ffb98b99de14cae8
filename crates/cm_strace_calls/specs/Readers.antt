-- The arguments of a call, one after another, in the words of the definitions.
use Rattle.std.specs.Prelude.{ℕ, List, [], ◌∷◌, Option, Result, Err, ok_or, option_and_then, option_map, slice_get}
use Rattle.std.specs.Borrow.{Bor}
use Rattle.cm_base.specs.declared.faults.LineFault.{LineFault}
use Rattle.cm_base.specs.declared.faults.LineFault.TheVariants.{Argument}
use Rattle.cm_strace_text.specs.Depths.{arguments_in}
use Rattle.model_strace.specs.Numbers.{capability}

-- what was read of an argument, and the arguments that are left
abbrev pub next_is : {A : Type 0} → A × Option (Bor (List ℕ)) → A × List (List ℕ)
next_is next = (next.0, arguments_in next.1)

-- the first of these arguments as what its text is read for, and those after it; or its fault, which has that number
abbrev pub next_read : {A : Type 0} → (List ℕ → Option A) → ℕ → List (List ℕ) → Result (A × List (List ℕ)) LineFault
next_read read number [] = Err (Argument number)
next_read read number (text ∷ texts) = ok_or (option_map (λ value. (value, texts)) (read text)) (Argument number)

-- the same alone
abbrev pub first_read : {A : Type 0} → (List ℕ → Option A) → ℕ → List (List ℕ) → Result A LineFault
first_read read number arguments = ok_or (option_and_then read (slice_get arguments 0)) (Argument number)

-- the capability that these arguments begin with, or its fault
abbrev pub first_capability : ℕ → List (List ℕ) → Result ℕ LineFault
first_capability number arguments = ok_or (capability arguments) (Argument number)

-- What the reader of a row answers, and the readers of its values.
use Rattle.std.specs.Prelude.{◌≡◌, Bool, true, Option, Some, None, IfSome, Result, Ok, Err}
use Rattle.cm_values.specs.declared.error.RowError.{RowError}
use Rattle.cm_values.specs.declared.error.RowError.TheVariants as code
use Rattle.model_text.specs.Refusal.{Cause, Fault, Limit}

-- the cause that an error tells, none where memory ran out
abbrev pub cause_of : RowError → Option Cause
cause_of (code.Fault fault) = Some (Fault fault)
cause_of (code.Limit limit) = Some (Limit limit)
cause_of code.NoMemory = None

-- The answer is what the definition gives, or there was no memory, at which nothing is said.
abbrev pub Gives : {A : Type 0} → Result A RowError → Result A Cause → Type 0
Gives (Ok value) told = told ≡ Ok value
Gives (Err e) told = IfSome (cause_of e) (λ cause. told ≡ Err cause)

-- The row is refused for this cause, which stands; where memory ran out nothing is said.
abbrev pub Refuses : Cause → Bool → RowError → Type 0
Refuses cause stands e = IfSome (cause_of e) (λ c. (c ≡ cause) × (stands ≡ true))

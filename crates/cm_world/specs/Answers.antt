-- What the readers of tables answer, and the reader of a whole world.
use Rattle.std.specs.Prelude.{◌≡◌, Option, Some, None, IfSome, Result, Ok, Err}
use Rattle.cm_declared.specs.World.{world_of}
use Rattle.cm_declared.specs.declared.world.World as declared
use Rattle.cm_world.specs.declared.error.WorldError.{WorldError}
use Rattle.cm_world.specs.declared.error.WorldError.TheVariants as code
use Rattle.model_cred.specs.World.{World}
use Rattle.model_text.specs.Refusal.{Refusal, At, Past}

-- the refusal that an error tells, none where memory ran out
abbrev pub refusal_of : WorldError → Option Refusal
refusal_of (code.Bad t row why) = Some (At t row why)
refusal_of (code.Limit limit) = Some (Past limit)
refusal_of code.NoMemory = None

-- The answer is what the definition gives, or there was no memory, at which nothing is said.
abbrev pub Answers : {A : Type 0} → Result A WorldError → Result A Refusal → Type 0
Answers (Ok value) told = told ≡ Ok value
Answers (Err e) told = IfSome (refusal_of e) (λ refusal. told ≡ Err refusal)

-- The answer is the world, or the refusal, that the definition gives; or there was no memory, at which nothing is said.
abbrev pub IsAnswer : Result declared.World WorldError → Result World Refusal → Type 0
IsAnswer (Ok w) told = told ≡ Ok (world_of w)
IsAnswer (Err e) told = IfSome (refusal_of e) (λ refusal. told ≡ Err refusal)

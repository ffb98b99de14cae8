-- What was read of a line, or of a part of it, as what that stands for.
use Rattle.std.specs.Prelude.{◌≡◌, Option, Result, None, Some, Ok, Err}
use Rattle.cm_base.specs.declared.faults.LineFault.{LineFault}
use Rattle.cm_script.specs.declared.error.LineError.{LineError}
use Rattle.cm_script.specs.declared.error.LineError.TheVariants as error
use Rattle.model_cred.specs.Call.{Event}
use Rattle.model_text.specs.Line.{Line, NoEvent, Tells, Faulty, Exceeds}

-- This was read of a line that stands for that; where there was no memory it may stand for anything.
abbrev pub IsRead : Result (Option Event) LineError → Line → Type 0
IsRead (Ok None) line = line ≡ NoEvent
IsRead (Ok (Some e)) line = line ≡ Tells e
IsRead (Err (error.Bad why)) line = line ≡ Faulty why
IsRead (Err (error.Limit limit)) line = line ≡ Exceeds limit
IsRead (Err error.NoMemory) line = Unit {0}

-- This was read, as what it shows, of a part that tells that; a part exceeds no limit.
abbrev pub IsTold : {A B : Type 0} → (A → B) → Result A LineError → Result B LineFault → Type 0
IsTold show (Ok x) told = told ≡ Ok (show x)
IsTold show (Err (error.Bad why)) told = told ≡ Err why
IsTold show (Err (error.Limit limit)) told = ⊥
IsTold show (Err error.NoMemory) told = Unit {0}

-- Two words for outcomes that all contracts share.
use Rattle.std.specs.Prelude.{◌≡◌, Result, IfOk, OnErr}

-- This holds of the value, or there was no memory for it. It stands where the type of the error is `NoMemory`, which says
-- nothing else.
abbrev pub OrNoMemory : {T E : Type 0} → Result T E → (T → Type 0) → Type 0
OrNoMemory r P = IfOk r P

-- After a refusal the new value is the old one.
abbrev pub UnchangedOnErr : {T E V : Type 0} → Result T E → V → V → Type 0
UnchangedOnErr r new old = OnErr r (new ≡ old)

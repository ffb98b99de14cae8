-- What is known, and what was known at a savepoint, to which all can be rolled back.
use Rattle.std.specs.Prelude.{◌≡◌, Option, None, Result, OnErr}
use Rattle.model_strace.specs.Parts.{Parts}

-- What is known, and what was known at the savepoint, where one is set.
pub record Saved : Type 0 where
  pub known : Parts
  pub saved : Option Parts

-- A change that failed left all as it was, unless a savepoint is set: then all can be rolled back.
abbrev pub LeftOnErr : {T E : Type 0} → Result T E → Saved → Saved → Type 0
LeftOnErr r new old = OnErr r (old.saved ≡ None → new ≡ old)

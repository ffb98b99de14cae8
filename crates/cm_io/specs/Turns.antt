-- Which calls are to fail, by their numbers.
use Rattle.std.specs.Prelude.{◌≡◌, ℕ, ◌+◌, ◌-◌, ◌^◌, ◌==◌, min, Bool, List}
use Rattle.std.specs.List.{list_any}
use Rattle.cm_io.specs.declared.turns.Turns.{Turns}

-- the number of the call after this many: it stays at the last value that it can have
abbrev pub next_call : ℕ → ℕ
next_call calls = min (calls + 1) (2 ^ 64 - 1)

-- the next call is to fail
abbrev pub is_due : Turns → Bool
is_due turns = list_any (λ k. k == next_call turns.calls) turns.fail.items

-- no call was made yet, and those with these numbers are to fail
pub record StartsTurns (turns : Turns) (fail : List ℕ) : Type 0 where
  pub calls : turns.calls ≡ 0
  pub failing : turns.fail.items ≡ fail

-- one call more was made
pub record TakesTurn (old new : Turns) : Type 0 where
  pub calls : new.calls ≡ next_call old.calls
  pub fail : new.fail ≡ old.fail

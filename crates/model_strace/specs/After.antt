-- One thing after another in the reading of a log: what some lines give, and what the next ones give after them.
use Rattle.std.specs.Prelude.{List, ◌++◌}
use Rattle.model_text.specs.Reading.{Placed, Stop}

-- These events, and what is known then; or these events, and a stop.
pub data After (S : Type 0) : Type 0 where
  Goes : List Placed → S → After S
  Halts : List Placed → Stop → After S

-- these events come before
abbrev pub preceded : {S : Type 0} → List Placed → After S → After S
preceded events (Goes later s) = Goes (events ++ later) s
preceded events (Halts later stop) = Halts (events ++ later) stop

-- the one, and where nothing stops it, the next
abbrev pub and_then : {S T : Type 0} → After S → (S → After T) → After T
and_then (Goes events s) next = preceded events (next s)
and_then (Halts events stop) next = Halts events stop

-- A text on its way to a sink: what of it is written, and what still waits.
use Rattle.std.specs.Prelude.{◌≡◌, ℕ, List, ◌++◌, Option}
use Rattle.cm_io.specs.Sink.{then_written}

-- Of the whole text a front is written after what was written before, and the rest waits.
pub record IsSent (before now : Option (List ℕ)) (waiting whole : List ℕ) : Type 0 where
  pub front : List ℕ
  pub parts : whole ≡ front ++ waiting
  pub written : now ≡ then_written before front

-- A front of the whole text is written after what was written before.
abbrev pub IsFront : Option (List ℕ) → Option (List ℕ) → List ℕ → Type 0
IsFront before now whole = (rest : List ℕ) × IsSent before now rest whole

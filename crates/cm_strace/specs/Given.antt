-- What lines give, in the words of the definitions: events, and what goes on or a stop.
use Rattle.std.specs.Prelude.{◌≡◌, ℕ, List, [], ◌∷◌, Option, Some, None}
use Rattle.cm_base.specs.declared.res.Res.{Res}
use Rattle.cm_strace.specs.Answers.{stop_is}
use Rattle.cm_strace.specs.declared.stage.Stage.{Stage}
use Rattle.cm_strace.specs.declared.stage.Stage.TheVariants as stage
use Rattle.model_cred.specs.Call.{Call}
use Rattle.model_strace.specs.After.{After, Goes, Halts}
use Rattle.model_strace.specs.Lines.{Line, Next, Read}
use Rattle.model_strace.specs.Parts.{Parts}
use Rattle.model_text.specs.Reading as reading

-- the pids that a line gave birth to
abbrev pub born_is : Option ℕ → List ℕ
born_is None = []
born_is (Some child) = child ∷ []

-- the event of a call with its result, in the line of that number
abbrev pub placed_at : ℕ → ℕ → Call → Res → reading.Placed
placed_at number pid call answer = record { line = number; event = record { pid = pid; call = call; res = answer } }

-- lines gave these events, and then the session goes on with this, or is stopped; no line ends the log
abbrev pub Gave : {S : Type 0} → Stage → List reading.Placed → S → After S → Type 0
Gave stage.Going events s given = Goes events s ≡ given
Gave (stage.Stopped stop) events s given = Halts events (stop_is stop) ≡ given
Gave stage.Finished events s given = ⊥

-- what is known after a line that gave birth to this child
abbrev pub read_is : Option ℕ → Parts → Read
read_is born p = record { parts = p; born = born_is born }

-- a line that was taken from the held ones, before those of these pids
abbrev pub next_is : Option Line → List ℕ → Option Next
next_is None pids = None
next_is (Some l) pids = Some (record { line = l; pids = pids })

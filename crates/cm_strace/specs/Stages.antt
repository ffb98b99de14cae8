-- A session by its work and the stage that it is at.
use Rattle.std.specs.Prelude.{◌≡◌, ◌≤◌}
use Rattle.cm_base.specs.Limits.{greatest_number}
use Rattle.cm_lines.specs.declared.limits.Past.{Past}
use Rattle.cm_strace.specs.Answers.{stop_is}
use Rattle.cm_strace.specs.Works.{uses}
use Rattle.cm_strace.specs.declared.stage.Stage.{Stage}
use Rattle.cm_strace.specs.declared.stage.Stage.TheVariants as stage
use Rattle.model_strace.specs.Rest as model
use Rattle.model_strace.specs.Rest.{Work, Session}
use Rattle.model_text.specs.Reading.{Limit, limit_past}

-- the session of the definitions; of one that has stopped or ended the work tells its count alone
abbrev pub session_is : Stage → Work → Session
session_is stage.Going t = model.Going t
session_is (stage.Stopped stop) t = model.Stopped t.count (stop_is stop)
session_is stage.Finished t = model.Finished t.count

-- the session is at that stage, with that stop where it was stopped
abbrev pub IsAt : Stage → Session → Type 0
IsAt stage.Going (model.Going t) = Unit {0}
IsAt (stage.Stopped stop) (model.Stopped count halt) = halt ≡ stop_is stop
IsAt stage.Finished (model.Finished count) = Unit {0}
IsAt _ _ = ⊥

-- the session after a line came that is past a limit
abbrev pub cut_off : Past → Session → Session
cut_off past (model.Going t) = model.Stopped t.count (Limit (limit_past past))
cut_off past (model.Stopped count stop) = model.Stopped count stop
cut_off past (model.Finished count) = model.Finished count

-- The number of user namespaces that a session counts is one of 32 bits, as their own numbers are.
abbrev pub IsRoomy : Stage → Work → Type 0
IsRoomy stage.Going t = uses t ≤ greatest_number
IsRoomy _ t = Unit {0}

-- How a replay follows a log a line at a time: what of its report is sent and what waits, and what is counted.
use Rattle.std.specs.Prelude.{◌≡◌, ◌≤◌, ℕ, ◌+◌, false, List, ◌++◌, length, Option, Result, Ok, Err}
use Rattle.cm_base.specs.declared.status.Status.{Status}
use Rattle.cm_base.specs.declared.status.Status.TheVariants.{Accepted}
use Rattle.cm_credentials.specs.Kept.{Keeps}
use Rattle.cm_log.specs.Counts.{KnowsWithin, events_due, lines_read}
use Rattle.cm_log.specs.declared.log.Log.{Log}
use Rattle.cm_replay.specs.Replay.{report_from}
use Rattle.cm_replay.specs.declared.replay.Replay.{Replay}
use Rattle.cm_replay.specs.declared.replay.Turn.{Turn}
use Rattle.cm_replay.specs.declared.replay.Turn.TheVariants as turn
use Rattle.cm_replay.specs.declared.untold.Untold.{Untold}
use Rattle.cm_report.specs.Sent.{IsSent, IsFront}
use Rattle.model_cred.specs.Made.{spaces_made}
use Rattle.model_cred.specs.Process.{State}
use Rattle.model_cred.specs.World.{World}
use Rattle.model_report.specs.Causes.{RunWithin}
use Rattle.model_report.specs.Replay.{text_of, IsWithin}
use Rattle.model_text.specs.Reading.{Placed, Reading, events_of}

-- ---- what is reported
-- What the sink has taken, and what waits in the buffer.
pub record Outgoing : Type 0 where
  pub written : Option (List ℕ)
  pub waits : List ℕ

-- The replay goes on, from what was to be read to what is left of it. Its report has the status of the rest's; what is sent and
-- what waits, with the rest's lines, are what waited and the lines of the whole; and a run that goes on by the rest is one by the
-- whole. Where it isn't shown, nothing more waits or is sent than what waited. No user namespace goes.
pub record GoesOn (w : World) (from to : Replay) (old new : Outgoing) (reading rest : Reading) : Type 0 where
  pub status : (report_from w to rest).status ≡ (report_from w from reading).status
  pub sent : IsSent old.written new.written (new.waits ++ text_of (report_from w to rest).lines)
      (old.waits ++ text_of (report_from w from reading).lines)
  pub reached : (s : State) → RunWithin w to.machine.state (events_of rest.events) s
      → RunWithin w from.machine.state (events_of reading.events) s
  pub shows : to.shows ≡ from.shows
  pub quiet : from.shows ≡ false → IsSent old.written new.written new.waits old.waits
  pub spaces : length from.machine.state.spaces ≤ length to.machine.state.spaces

-- The report ends with this status, and all of it is sent or waits; where the log is accepted, the machine is in the state that
-- its events lead to.
pub record EndsAs (w : World) (from to : Replay) (old new : Outgoing) (st : Status) (reading : Reading) : Type 0 where
  pub status : (report_from w from reading).status ≡ st
  pub sent : IsSent old.written new.written new.waits (old.waits ++ text_of (report_from w from reading).lines)
  pub reached : st ≡ Accepted → RunWithin w from.machine.state (events_of reading.events) to.machine.state

-- a front of what waited and of the report is sent
abbrev pub IsCutOff : World → Replay → Outgoing → Outgoing → Reading → Type 0
IsCutOff w from old new reading = IsFront old.written new.written (old.waits ++ text_of (report_from w from reading).lines)

-- The replay goes on to the rest; or its report ends; or reading or sending failed.
abbrev pub Follows : World → Replay → Replay → Outgoing → Outgoing → Result Turn Untold → Reading → Reading → Type 0
Follows w from to old new (Ok turn.Goes) reading rest = GoesOn w from to old new reading rest
Follows w from to old new (Ok (turn.Ends st)) reading rest = EndsAs w from to old new st reading
Follows w from to old new (Err why) reading rest = IsCutOff w from old new reading

-- ---- what is counted
-- Between two lines of a log: the state is within the limits; each kept text of a credential line is that of the values
-- kept beside it; and the log knows of no more user namespaces than there are.
pub record IsReady (w : World) (replay : Replay) (log : Log) : Type 0 where
  pub keeps : Keeps w.names replay.kept
  pub within : IsWithin replay.machine.state
  pub knows : KnowsWithin (length replay.machine.state.spaces) log

-- After so many lines more, which told so many events more: the replay and the log are between two lines; each line was counted;
-- and the events that came, and those that can still come of the lines, are so many more at most.
pub record Advances (w : World) (more told : ℕ) (from to : Replay) (old new : Log) : Type 0 where
  pub ready : IsReady w to new
  pub lines : lines_read new ≤ lines_read old + more
  pub events : to.events + events_due new ≤ from.events + events_due old + told

-- These events were taken, each of which was counted, and lead to a state within the limits that has the user
-- namespaces which they make; each kept text is still that of the values beside it.
pub record Took (w : World) (told : List Placed) (from to : Replay) : Type 0 where
  pub keeps : Keeps w.names to.kept
  pub events : to.events ≡ from.events + length told
  pub within : IsWithin to.machine.state
  pub spaces : length from.machine.state.spaces + spaces_made (events_of told) ≤ length to.machine.state.spaces

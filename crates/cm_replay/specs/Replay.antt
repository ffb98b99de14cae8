-- What the events of a log come to, as the code goes over them.
use Rattle.std.specs.Prelude.{◌≡◌, ◌≢◌, ℕ, ◌++◌, Bool, List, []}
use Rattle.cm_base.specs.declared.status.Status.{Status}
use Rattle.cm_base.specs.declared.status.Status.TheVariants as status
pub use Rattle.cm_replay.specs.Shown.{shown_lines, shown_report}
use Rattle.cm_replay.specs.declared.replay.Replay.{Replay}
use Rattle.cm_replay.specs.declared.replay.Turn.{Turn}
use Rattle.cm_replay.specs.declared.replay.Turn.TheVariants as turn
use Rattle.cm_strace.specs.Answers.{stop_is}
use Rattle.cm_strace.specs.declared.stage.Stage.{Stage}
use Rattle.cm_strace.specs.declared.stage.Stage.TheVariants as stage
use Rattle.model_cred.specs.Process.{State}
use Rattle.model_cred.specs.World.{World}
use Rattle.model_run.specs.Step.{Outcome, Goes}
use Rattle.model_report.specs.Replay.{Report, ReportLine, replayed, by_end, by_outcome, text_of, IsWithin}
use Rattle.model_text.specs.Reading.{AtEnd, End, Placed, Reading, Stops}

-- the report of what is left of a log, from where a replay stands
abbrev pub report_from : World → Replay → Reading → Report
report_from w replay reading =
    shown_report replay.shows (replayed w replay.machine.state replay.events reading.events reading.ending)

-- what comes after an event, where nothing does
abbrev pub nothing : State → Report
nothing s = record { status = status.Accepted; lines = [] }

-- the lines of an event, by what becomes of it
abbrev pub told_lines : World → Placed → Outcome → List ReportLine
told_lines w e become = (by_outcome w e nothing become).lines

-- those of them that are shown
abbrev pub event_lines : Bool → World → Placed → Outcome → List ReportLine
event_lines shows w e become = shown_lines shows (told_lines w e become)

-- The replay ends with the event, with this status, whatever would come after it.
pub record EndsWith (w : World) (e : Placed) (st : Status) (become : Outcome) : Type 0 where
  pub other : st ≢ status.Accepted
  pub report : (rest : State → Report) → by_outcome w e rest become ≡ record { status = st; lines = told_lines w e become }

-- The replay goes on with the event, which leads to the state, within the limits; or it ends with it, with this status.
abbrev pub IsTurn : World → Placed → Turn → Outcome → State → Type 0
IsTurn w e turn.Goes become s = (become ≡ Goes s) × IsWithin s
IsTurn w e (turn.Ends st) become s = EndsWith w e st become

-- The report ends as the reading does, with this status, and its last line is written, where it is shown or isn't
-- accepted.
pub record IsEnd (replay : Replay) (ending : End) (answer : Turn) (was is : List ℕ) : Type 0 where
  pub status : answer ≡ turn.Ends (by_end replay.events ending).status
  pub text : is ≡ was ++ text_of (shown_report replay.shows (by_end replay.events ending)).lines

-- what the reading is at to the replay: it goes on, or its report ends
abbrev pub EndsBy : Replay → Stage → Turn → (was is : List ℕ) → Type 0
EndsBy replay stage.Going answer was is = (answer ≡ turn.Goes) × (is ≡ was)
EndsBy replay (stage.Stopped stop) answer was is = IsEnd replay (Stops (stop_is stop)) answer was is
EndsBy replay stage.Finished answer was is = IsEnd replay AtEnd answer was is

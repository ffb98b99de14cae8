-- What the report of a log comes to: where all events of its reading are a run within the limits, where the reading stops,
-- and where the replay breaks off at an event.
use Rattle.std.proofs.Common.{◌≡◌, ◌≢◌, ℕ, ◌+◌, ◌≤◌, Bool, true, false, cond, length, List, [], refl, sym, ◌∙◌, ap}
use Rattle.std.proofs.Common.{arith, append-nil}
use Rattle.std.proofs.lemmas.Bool.{le-ltb}
use Rattle.cm_base.specs.declared.limited.Limited.TheVariants as limit
use Rattle.cm_base.specs.declared.status.Status.{Status}
use Rattle.cm_base.specs.declared.status.Status.TheVariants as status
use Rattle.cm_base.specs.Limited.{limit_number}
use Rattle.model_cred.specs.Call.{Event}
use Rattle.model_cred.specs.Process.{State}
use Rattle.model_cred.specs.World.{World}
use Rattle.model_report.proofs.Replays.{Breaks, Break, no_step, crowds, said, passed_lines, run_passes, run_of_within, run_after, break_passes}
use Rattle.model_report.specs.Answer.{answer}
use Rattle.model_report.specs.Judged.{Judged}
use Rattle.model_report.specs.Replay.{Report, replayed, by_end, stopped, limit_hit, after, state_after}
use Rattle.model_report.specs.Report.{files_report, log_report, replay_of, shown, shows, go_on}
use Rattle.model_report.specs.Report as report
use Rattle.model_report.specs.Task.{Task}
use Rattle.model_run.specs.Within.{RunWithin}
use Rattle.model_text.specs.Reading.{Placed, Stop, Fault, Limit, End, Reading, events_of}
use Rattle.model_text.specs.WorldText.{world_text}

-- ---- what a replay comes to
-- over events that are a run
pub over_all : (w : World) (events : List Placed) (ending : End) (s : State) → RunWithin w w.start (events_of events) s
    → replay_of w (record { events = events; ending = ending }) ≡ after (passed_lines w w.start events) (by_end (length events) ending)
over_all w events ending s run =
    let counted : 0 + length events ≡ length events = omega arith in
    ap (λ (es : List Placed). replayed w w.start 0 es ending) (sym (append-nil events))
    ∙ run_passes w events [] ending w.start s run 0
    ∙ ap (λ (n : ℕ). after (passed_lines w w.start events) (by_end n ending)) counted

-- over events at one of which it breaks off
pub over_break : (w : World) (events : List Placed) (ending : End) (breaks : Breaks w w.start events)
    → replay_of w (record { events = events; ending = ending })
    ≡ after (passed_lines w w.start breaks.before) (said w breaks.state breaks.event breaks.why)
over_break w events ending breaks = break_passes w w.start events ending 0 breaks

pub status_of : (r one : Report) → r ≡ one → r.status ≡ one.status
status_of r one is = ap (λ (r : Report). r.status) is

-- it has the same status, whether or not it is shown
pub shown_status : (b : Bool) (w : World) (reading : Reading) → (shown b w reading).status ≡ (replay_of w reading).status
shown_status true w reading = refl
shown_status false w reading = refl

-- no stop has the status of an accepted log
pub stop_is_other : (stop : Stop) → (stopped stop).status ≢ status.Accepted
stop_is_other (Fault number why) = λ is. cc
stop_is_other (Limit l) = λ is. cc

-- nor has a replay that breaks off
pub break_is_other : (w : World) (s : State) (e : Placed) (why : Break w s e.event) → (said w s e why).status ≢ status.Accepted
break_is_other w s e (no_step none) = λ is. cc
break_is_other w s e (crowds s' l goes over) = λ is. cc

pub stops_there : (st : Status) (replay next : Report) → st ≢ status.Accepted → go_on st replay next ≡ replay
stops_there status.Accepted replay next other = absurd (other refl)
stops_there _ replay next other = refl

-- where the replay ends before the log's end, that is all
pub of_stop : (task : Task) (j : Judged) (w : World) (reading : Reading) (st : Status)
    → (replay_of w reading).status ≡ st → st ≢ status.Accepted → log_report task j w reading ≡ shown (shows task) w reading
of_stop task j w reading st is other =
    stops_there (shown (shows task) w reading).status (shown (shows task) w reading)
    (answer task j w (state_after w w.start (events_of reading.events)))
    (λ accepted. other (sym is ∙ sym (shown_status (shows task) w reading) ∙ accepted))

-- where it is accepted, the answer comes after it, in the state that its events lead to
pub of_end : (task : Task) (j : Judged) (w : World) (reading : Reading) (s : State)
    → (replay_of w reading).status ≡ status.Accepted → RunWithin w w.start (events_of reading.events) s
    → log_report task j w reading ≡ after (shown (shows task) w reading).lines (answer task j w s)
of_end task j w reading s is run =
    let es : List Event = events_of reading.events in
    ap (λ (st : Status). go_on st (shown (shows task) w reading) (answer task j w (state_after w w.start es)))
    (shown_status (shows task) w reading ∙ is)
    ∙ ap (λ (t : State). after (shown (shows task) w reading).lines (answer task j w t))
    (run_after w es w.start s (run_of_within w w.start es s run))

-- ---- sizes

-- the report of files of which the world is within its limit
pub of_size : (task : Task) (j : Judged) (world log : List ℕ) → length world ≤ limit_number limit.World
    → files_report task j world log ≡ report.by_world task j (world_text world) log
of_size task j world log within =
    ap (λ (over : Bool). cond over (limit_hit limit.World) (report.by_world task j (world_text world) log))
    (le-ltb (limit_number limit.World) (length world) within)

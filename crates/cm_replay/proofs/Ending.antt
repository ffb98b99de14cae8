-- With which answers a replay ends, whatever it is of.
use Rattle.std.proofs.Common.{◌≡◌, ℕ, ◌+◌, List, [], ◌∷◌, Option, None, Some, sym, ◌∙◌, subst, Result, Ok, Err, IfOk}
use Rattle.cm_base.specs.declared.limited.Limited.{Limited}
use Rattle.cm_base.specs.declared.status.Status.{Status}
use Rattle.cm_replay.proofs.Shown.{same_status}
use Rattle.cm_replay.specs.Coming.{ComesTo, IsReplayAnswer}
use Rattle.cm_replay.specs.Following.{Outgoing}
use Rattle.cm_replay.specs.Replay.{report_from}
use Rattle.cm_replay.specs.declared.replay.Replay.{Replay}
use Rattle.cm_replay.specs.declared.untold.Untold.{Untold}
use Rattle.model_cred.specs.Process.{State}
use Rattle.model_cred.specs.World.{World}
use Rattle.model_report.specs.Replay.{Report, after, by_end, by_outcome, exceeded, replayed, step_lines, unless_exceeded}
use Rattle.model_run.specs.Step.{Goes, Outcome, outcome}
use Rattle.model_text.specs.Reading.{Fault, End, Stops, Placed, Reading}

end_answers : (count : ℕ) (ending : End) → IsReplayAnswer (by_end count ending).status
end_answers count (Stops (Fault number why)) = tt
end_answers count _ = tt

unless_answers : (over : Option Limited) (r : Report) → IsReplayAnswer r.status
    → IsReplayAnswer (unless_exceeded over r).status
unless_answers None r is = is
unless_answers (Some l) r is = tt

outcome_answers : (w : World) (e : Placed) (rest : State → Report) (become : Outcome)
    → ((s : State) → IsReplayAnswer (rest s).status)
    → IsReplayAnswer (by_outcome w e rest become).status
outcome_answers w e rest (Goes s) each = unless_answers (exceeded s) (after (step_lines w s e) (rest s)) (each s)
outcome_answers w e rest _ each = tt

replayed_answers : (w : World) (s : State) (count : ℕ) (events : List Placed) (ending : End)
    → IsReplayAnswer (replayed w s count events ending).status
replayed_answers w s count [] ending = end_answers count ending
replayed_answers w s count (e ∷ events) ending =
    outcome_answers w e (λ (next : State). replayed w next (count + 1) events ending) (outcome w s e.event)
    (λ (next : State). replayed_answers w next (count + 1) events ending)

-- whatever is read, from wherever a replay stands
pub report_answers : (w : World) (from : Replay) (reading : Reading) (st : Status) → (report_from w from reading).status ≡ st
    → IsReplayAnswer st
report_answers w from reading st is =
    let replay : Report = replayed w from.machine.state from.events reading.events reading.ending in
    subst IsReplayAnswer (sym (same_status from.shows replay) ∙ is)
    (replayed_answers w from.machine.state from.events reading.events reading.ending)

pub comes_answers : (w : World) (from to : Replay) (old new : Outgoing) (reading : Reading) (result : Result Status Untold)
    → ComesTo w from to old new result reading → IfOk result IsReplayAnswer
comes_answers w from to old new reading (Ok st) ends = report_answers w from reading st ends.status
comes_answers w from to old new reading (Err why) cut = tt

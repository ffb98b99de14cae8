-- What an event adds to the report, to the run and to what is counted.
use Rattle.std.proofs.Common.{◌≡◌, ◌≢◌, ℕ, ◌+◌, Bool, List, [], ◌∷◌, ◌++◌, Option}
use Rattle.std.proofs.Common.{refl, sym, ap, ◌∙◌, subst, append_assoc, append-nil}
use Rattle.cm_base.specs.declared.limited.Limited.{Limited}
use Rattle.cm_base.specs.declared.status.Status.{Status}
use Rattle.cm_base.specs.declared.status.Status.TheVariants as status
use Rattle.cm_replay.proofs.Shown.{shown_after, shown_end, shown_line, step_plain}
use Rattle.cm_replay.specs.Replay.{report_from, event_lines, told_lines, shown_lines, shown_report, nothing, EndsWith, IsTurn}
use Rattle.cm_report.specs.Reason.{reason_of}
use Rattle.cm_replay.specs.declared.replay.Replay.{Replay}
use Rattle.cm_replay.specs.declared.replay.Turn.TheVariants as turn
use Rattle.cm_base.specs.declared.res.Res.{Res}
use Rattle.cm_machine.specs.declared.error.StepError.{StepError}
use Rattle.cm_machine.specs.declared.error.StepError.TheVariants as error
use Rattle.model_cred.specs.Process.{State}
use Rattle.model_cred.specs.World.{World}
use Rattle.model_report.proofs.Texts.{text_of_append}
use Rattle.model_run.specs.Step.{Outcome, Goes, NoProcess, NoSpace, PidInUse, Wrong, outcome}
use Rattle.model_report.specs.Causes.{RunWithin}
use Rattle.model_report.specs.Replay.{Report, ReportLine, Plain, text_of, by_outcome, after, impossible_text, step_lines, replayed}
use Rattle.model_report.specs.Replay.{IsWithin, unless_exceeded}
use Rattle.model_text.specs.Reading.{Placed, Reading, events_of, reads_on}

-- ---- what an event comes to
-- a step to a state within the limits: its lines, and then the rest
-- (which are the lines of the step)
pub passed_lines : (w : World) (e : Placed) (s : State) → IsWithin s → told_lines w e (Goes s) ≡ step_lines w s e
passed_lines w e s within =
    ap (λ (l : Option Limited). (unless_exceeded l (after (step_lines w s e) (nothing s))).lines) within ∙ append-nil (step_lines w s e)

passes : (shows : Bool) (w : World) (e : Placed) (rest : State → Report) (s : State) → IsWithin s
    → shown_report shows (by_outcome w e rest (Goes s)) ≡ after (event_lines shows w e (Goes s)) (shown_report shows (rest s))
passes shows w e rest s within =
    let alone : told_lines w e (Goes s) ≡ step_lines w s e = passed_lines w e s within in
    ap (λ (l : Option Limited). shown_report shows (unless_exceeded l (after (step_lines w s e) (rest s)))) within
    ∙ shown_after shows (step_lines w s e) (rest s) (step_plain w s e)
    ∙ ap (λ (ls : List ReportLine). after (shown_lines shows ls) (shown_report shows (rest s))) (sym alone)

-- What the machine says of an event that it refuses: the replay ends with it, and its line tells the machine's reason.
pub record IsRefused (w : World) (e : Placed) (why : StepError) (become : Outcome) : Type 0 where
  pub ends : EndsWith w e status.Impossible become
  pub lines : (shows : Bool) → Plain (impossible_text e.line (reason_of why)) ∷ [] ≡ event_lines shows w e become

refused_as : (w : World) (e : Placed) (why : StepError) (become one : Outcome) → become ≡ one → IsRefused w e why one → IsRefused w e why become
refused_as w e why become one is refused = subst (λ (o : Outcome). IsRefused w e why o) (sym is) refused

pub refused : (w : World) (e : Placed) (why : StepError) (become : Outcome) → why ≢ error.NoMemory
    → (why ≡ error.NoProcess → become ≡ NoProcess) → (why ≡ error.NoSpace → become ≡ NoSpace)
    → (why ≡ error.PidInUse → become ≡ PidInUse) → ((res : Res) → why ≡ error.Wrong res → become ≡ Wrong res) → IsRefused w e why become
refused w e error.NoMemory become other a b c d = absurd (other refl)
refused w e error.NoProcess become other a b c d =
    refused_as w e error.NoProcess become NoProcess (a refl) (record { ends = record { other = λ is. cc; report = λ rest. refl }; lines = λ shows. sym (shown_line shows (impossible_text e.line (reason_of error.NoProcess)) _ refl) })
refused w e error.NoSpace become other a b c d =
    refused_as w e error.NoSpace become NoSpace (b refl) (record { ends = record { other = λ is. cc; report = λ rest. refl }; lines = λ shows. sym (shown_line shows (impossible_text e.line (reason_of error.NoSpace)) _ refl) })
refused w e error.PidInUse become other a b c d =
    refused_as w e error.PidInUse become PidInUse (c refl) (record { ends = record { other = λ is. cc; report = λ rest. refl }; lines = λ shows. sym (shown_line shows (impossible_text e.line (reason_of error.PidInUse)) _ refl) })
refused w e (error.Wrong res) become other a b c d =
    refused_as w e (error.Wrong res) become (Wrong res) (d res refl) (record { ends = record { other = λ is. cc; report = λ rest. refl }; lines = λ shows. sym (shown_line shows (impossible_text e.line (reason_of (error.Wrong res))) _ refl) })

-- An event is read where a replay stands, and after it there is the rest.
module _ (w : World) (from to : Replay) (reading rest : Reading) (e : Placed) (is : reading ≡ reads_on e rest) where
  -- what becomes of it
  abbrev becomes : Outcome
  becomes = outcome w from.machine.state e.event

  abbrev next : State → Report
  next s = replayed w s (from.events + 1) rest.events rest.ending

  report_is : report_from w from reading ≡ shown_report from.shows (by_outcome w e next becomes)
  report_is = ap (λ (r : Reading). report_from w from r) is

  -- its lines, where they are shown
  abbrev pub lines_here : List ReportLine
  lines_here = event_lines from.shows w e becomes

  -- ---- where the replay goes on with it, and then stands elsewhere
  abbrev Goes_on : Type 0
  Goes_on = IsTurn w e turn.Goes becomes to.machine.state

  -- the report is the event's lines, and then the rest's
  pub goes_on : Goes_on → to.events ≡ from.events + 1 → to.shows ≡ from.shows
      → report_from w from reading ≡ after lines_here (report_from w to rest)
  goes_on step counted same =
      report_is ∙ ap (λ (o : Outcome). shown_report from.shows (by_outcome w e next o)) step.0
      ∙ passes from.shows w e next to.machine.state step.1
      ∙ ap (λ (n : ℕ). after (event_lines from.shows w e (Goes to.machine.state))
      (shown_report from.shows (replayed w to.machine.state n rest.events rest.ending))) (sym counted)
      ∙ ap (λ (b : Bool). after (event_lines from.shows w e (Goes to.machine.state))
      (shown_report b (replayed w to.machine.state to.events rest.events rest.ending))) (sym same)
      ∙ ap (λ (o : Outcome). after (event_lines from.shows w e o) (report_from w to rest)) (sym step.0)

  -- what is still to be written is the event's lines and the rest
  pub next_waits : Goes_on → to.events ≡ from.events + 1 → to.shows ≡ from.shows → (text text' : List ℕ) → text' ≡ text ++ text_of lines_here
      → text ++ text_of (report_from w from reading).lines ≡ text' ++ text_of (report_from w to rest).lines
  next_waits step counted same text text' put =
      let lines : List ℕ = text_of lines_here in
      let others : List ℕ = text_of (report_from w to rest).lines in
      ap (λ (r : Report). text ++ text_of r.lines) (goes_on step counted same)
      ∙ ap (λ (t : List ℕ). text ++ t) (text_of_append lines_here (report_from w to rest).lines)
      ∙ sym (append_assoc text lines others)
      ∙ ap (λ (t : List ℕ). t ++ others) (sym put)

  -- the run goes on with it
  pub run_on : Goes_on → (s : State) → RunWithin w to.machine.state (events_of rest.events) s
      → RunWithin w from.machine.state (events_of reading.events) s
  run_on step s run =
      subst (λ (r : Reading). RunWithin w from.machine.state (events_of r.events) s) (sym is) (to.machine.state, step.0, step.1, run)

  -- ---- where it ends with it
  pub ends_here : (st : Status) → EndsWith w e st becomes → report_from w from reading ≡ record { status = st; lines = lines_here }
  ends_here st ends =
      report_is ∙ ap (λ (r : Report). shown_report from.shows r) (ends.report next)
      ∙ shown_end from.shows st (told_lines w e becomes) ends.other

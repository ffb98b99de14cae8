-- What the report of a log says: a run of the events, the state that it reaches, the numbers of lines, and how it ends.
use Rattle.std.proofs.Common.{◌≡◌, ℕ, Bool, true, false, cond, inl, inr, length, List, [], ◌∷◌, ◌++◌, refl, sym, ◌∙◌, ap, subst, append_assoc, append-nil, All}
use Rattle.std.proofs.lemmas.List.Elements.{All-nil, All-cons, All-head, All-tail, All-weaker}
use Rattle.std.specs.Prelude.{codes}
use Rattle.cm_base.specs.declared.faults.LineFault.{LineFault}
use Rattle.cm_base.specs.declared.limited.Limited.TheVariants as limit
use Rattle.cm_base.specs.declared.status.Status.{Status}
use Rattle.cm_base.specs.declared.status.Status.TheVariants as status
use Rattle.cm_base.specs.Limited.{limit_number}
use Rattle.cm_lines.specs.Lines.{lines_of}
use Rattle.model_cred.specs.Process.{State}
use Rattle.model_cred.specs.World.{World, LogForm, Script, Strace}
use Rattle.model_run.specs.Step.{outcome}
use Rattle.model_report_laws.proofs.Lines.{IsWritten, ArePlain, plain_answer, plain_unshown, plain_append, plain_untold, plain_true, silent_end}
use Rattle.model_report_laws.proofs.Lines.{written_end, written_told, written_shows, written_true}
use Rattle.model_report.proofs.Replays.{Breaks, Break, no_step, crowds, said, run_of_within, passed_lines, runs_or_breaks}
use Rattle.model_report.proofs.Replayed.{over_all, over_break, status_of, stop_is_other, break_is_other}
use Rattle.model_report_laws.proofs.Statuses.{of_begins, has_its_cause, of_accepted, of_stopped, of_break, whole, impossible_break}
use Rattle.model_report.specs.Answer.{answer}
use Rattle.model_report.specs.Causes.{Begins, ComesTo, Cause, IsAccepted, IsStopped, IsImpossible, IsDrill}
use Rattle.model_report.specs.Command.{command_of, task_of}
use Rattle.model_report.specs.Given.{Gives}
use Rattle.model_report.specs.Judged.{Judged}
use Rattle.model_report_laws.specs.Laws.{AcceptedIsRun, ImpossibleIsNoStep, ReportTellsOfLog, TellsOfLog, EndCountsEvents}
use Rattle.model_report_laws.specs.Laws.{ImpossibleIsNumbered, BadLogIsNumbered, LimitIsLast, those_shown}
use Rattle.model_report_laws.specs.Laws.{FormStandsFor, LineStandsFor, told_in, EndsIn}
use Rattle.model_report.specs.Replay.{Report, ReportLine, silent, Plain, at_line, bad_log_text, impossible_text, limit_text, reason, stopped, state_after}
use Rattle.model_report.specs.Report.{report, replay_of, start_lines, shown, shows, go_on}
use Rattle.model_report.specs.Task.{Task}
use Rattle.model_run.specs.Within.{RunWithin}
use Rattle.model_strace.proofs.LineNumbers as strace
use Rattle.model_strace.specs.LineNumbers as strace_law
use Rattle.model_strace.specs.Logs.{form_reading, log_reading}
use Rattle.model_text.proofs.Fronts.{cuts_are_fronts}
use Rattle.model_text.proofs.Numbers as script
use Rattle.model_text.specs.Fronts.{CutsAreFronts, IsFrontOf}
use Rattle.model_text.specs.Line.{Line, Tells, Faulty}
use Rattle.model_text.specs.Numbers.{NumbersAreLines, StandsFor}
use Rattle.model_text.specs.Reading.{Placed, Stop, Fault, Limit, End, AtEnd, Stops, Reading, events_of, log_cut}

-- what holds of all holds of the first ones
all_front : (P : Placed → Type 0) (events later : List Placed) → All P (events ++ later) → All P events
all_front P [] later all = All-nil P
all_front P (e ∷ events) later all = All-cons P e events (All-head P e (events ++ later) all) (all_front P events later (All-tail P e (events ++ later) all))

-- the line that tells of a stop
stop_line : (stop : Stop) → (text : List ℕ) × ((stopped stop).lines ≡ Plain text ∷ [])
stop_line (Fault number why) = (_, refl)
stop_line (Limit l) = (_, refl)

-- ---- numbers
-- a line among those that come of a script log is one of its lines
stands_in_log : (w : World) (log : List ℕ) (number : ℕ) (meaning : Line) → StandsFor w 1 (log_cut log).lines number meaning
    → StandsFor w 1 (lines_of log) number meaning
unfolding CutsAreFronts
stands_in_log w log number meaning stands =
    let front : IsFrontOf (limit_number limit.Line) (limit_number limit.Log) log (log_cut log)
    = cuts_are_fronts (limit_number limit.Line) (limit_number limit.Log) log in
    record {
      before = stands.before;
      line = stands.line;
      later = stands.later ++ front.later;
      cut =
          front.front ∙ ap (λ (ls : List (List ℕ)). ls ++ front.later) stands.cut
          ∙ append_assoc stands.before (stands.line ∷ stands.later) front.later;
      place = stands.place;
      means = stands.means;
    }

-- the number of each event of a log's reading, and of a fault, is that of its line
pub record Numbered (form : LogForm) (w : World) (log : List ℕ) : Type 0 where
  pub events : All (λ e. FormStandsFor form w log e.line (Tells e.event)) (form_reading form w log).events
  pub fault : (number : ℕ) (why : LineFault) → (form_reading form w log).ending ≡ Stops (Fault number why)
      → FormStandsFor form w log number (Faulty why)

pub numbered : (form : LogForm) (w : World) (log : List ℕ) → Numbered form w log
unfolding NumbersAreLines strace_law.NumbersAreLines
numbered Script w log = record {
  events =
      All-weaker (λ (e : Placed). StandsFor w 1 (log_cut log).lines e.line (Tells e.event))
      (λ e. FormStandsFor Script w log e.line (Tells e.event)) (λ e stands. stands_in_log w log e.line (Tells e.event) stands)
      (form_reading Script w log).events (script.numbers_are_lines w (log_cut log)).events;
  fault = λ number why is.
      stands_in_log w log number (Faulty why) ((script.numbers_are_lines w (log_cut log)).fault number why is).stands;
}
numbered Strace w log = record { events = (strace.numbers_are_lines w log).events; fault = (strace.numbers_are_lines w log).fault }

module _ (words : List (List ℕ)) (bytes : List ℕ → List ℕ) (j : Judged) where
  -- ---- the lines of a report that shows the replay, by how the log ends
  -- what the words ask
  abbrev the_task : Task
  the_task = task_of (command_of words) bytes

  -- the line that ends the replay of an accepted log
  abbrev end_of : IsAccepted words bytes → List ℕ
  end_of is = at_line (codes "end ") (length is.comes.events)

  abbrev passed_of : IsAccepted words bytes → List ReportLine
  passed_of is = passed_lines is.world is.world.start is.comes.events

  accepted_written : (is : IsAccepted words bytes) → shows the_task ≡ true
      → IsWritten is.world is.comes.events is.state (end_of is) (report words bytes j).lines
  accepted_written is shown_so =
      let last : List ReportLine = (answer the_task j is.world is.state).lines in
      record {
        run = run_of_within is.world is.world.start (events_of is.comes.events) is.state is.comes.run;
        start = (bytes is.comes.begins.names.world, is.comes.begins.names.reads);
        answer = last;
        plain = plain_answer the_task j is.world is.state;
        cut =
            ap (λ (r : Report). r.lines) (of_accepted words bytes j is)
            ∙ ap (λ (b : Bool). (shown b is.world (whole words bytes j is)).lines ++ last) shown_so
            ∙ ap (λ (r : Report). (start_lines is.world ++ r.lines) ++ last)
            (over_all is.world is.comes.events AtEnd is.state is.comes.run)
            ∙ append_assoc (start_lines is.world) (passed_of is ++ Plain (end_of is) ∷ []) last
            ∙ ap (λ (ls : List ReportLine). start_lines is.world ++ ls) (append_assoc (passed_of is) (Plain (end_of is) ∷ []) last);
      }

  -- the reading of a log that stops, and of one at whose event the replay breaks off
  abbrev stopping : (stop : Stop) → IsStopped words bytes stop → Reading
  stopping stop is = record { events = is.comes.events; ending = Stops stop }

  stopped_lines : (stop : Stop) (text : List ℕ) → (stopped stop).lines ≡ Plain text ∷ [] → (is : IsStopped words bytes stop)
      → (replay_of is.world (stopping stop is)).lines ≡ passed_lines is.world is.world.start is.comes.events ++ Plain text ∷ []
  stopped_lines stop text one is =
      ap (λ (r : Report). r.lines) (over_all is.world is.comes.events (Stops stop) is.state is.comes.run)
      ∙ ap (λ (ls : List ReportLine). passed_lines is.world is.world.start is.comes.events ++ ls) one

  stopped_written : (stop : Stop) (text : List ℕ) → (stopped stop).lines ≡ Plain text ∷ [] → (is : IsStopped words bytes stop)
      → shows the_task ≡ true → IsWritten is.world is.comes.events is.state text (report words bytes j).lines
  stopped_written stop text one is shown_so = record {
    run = run_of_within is.world is.world.start (events_of is.comes.events) is.state is.comes.run;
    start = (bytes is.comes.begins.names.world, is.comes.begins.names.reads);
    answer = [];
    plain = tt;
    cut =
        ap (λ (r : Report). r.lines) (of_stopped words bytes j stop is)
        ∙ ap (λ (b : Bool). (shown b is.world (stopping stop is)).lines) shown_so
        ∙ ap (λ (ls : List ReportLine). start_lines is.world ++ ls) (stopped_lines stop text one is);
  }

  -- the line that says why a replay breaks off
  said_line : (w : World) (s : State) (e : Placed) (why : Break w s e.event) → (text : List ℕ) × ((said w s e why).lines ≡ Plain text ∷ [])
  said_line w s e (no_step none) = (_, refl)
  said_line w s e (crowds s' l goes over) = (_, refl)

  break_lines : (w : World) (reading : Reading) (breaks : Breaks w w.start reading.events) (text : List ℕ)
      → (said w breaks.state breaks.event breaks.why).lines ≡ Plain text ∷ []
      → (replay_of w reading).lines ≡ passed_lines w w.start breaks.before ++ Plain text ∷ []
  break_lines w reading breaks text one =
      ap (λ (r : Report). r.lines) (over_break w reading.events reading.ending breaks)
      ∙ ap (λ (ls : List ReportLine). passed_lines w w.start breaks.before ++ ls) one

  break_written : (w : World) (reading : Reading) (begins : Begins words bytes w reading) (breaks : Breaks w w.start reading.events) (text : List ℕ)
      → (said w breaks.state breaks.event breaks.why).lines ≡ Plain text ∷ [] → shows the_task ≡ true
      → IsWritten w breaks.before breaks.state text (report words bytes j).lines
  break_written w reading begins breaks text one shown_so = record {
    run = run_of_within w w.start (events_of breaks.before) breaks.state breaks.run;
    start = (bytes begins.names.world, begins.names.reads);
    answer = [];
    plain = tt;
    cut =
        ap (λ (r : Report). r.lines) (of_break words bytes j w reading begins breaks)
        ∙ ap (λ (b : Bool). (shown b w reading).lines) shown_so
        ∙ ap (λ (ls : List ReportLine). start_lines w ++ ls) (break_lines w reading breaks text one);
  }

  -- ---- and of one that doesn't
  plain_next : (st : Status) (r next : Report) → ArePlain r.lines → ArePlain next.lines → ArePlain (go_on st r next).lines
  plain_next status.Accepted r next plain more = plain_append r.lines next.lines plain more
  plain_next _ r next plain more = plain

  pub hidden_plain : (w : World) (reading : Reading) → Begins words bytes w reading → shows the_task ≡ false → ArePlain (report words bytes j).lines
  hidden_plain w reading begins hidden =
      let next : Report = answer the_task j w (state_after w w.start (events_of reading.events)) in
      subst (λ (r : Report). ArePlain r.lines) (sym (of_begins words bytes j w reading begins))
      (subst (λ (b : Bool). ArePlain (go_on (shown b w reading).status (shown b w reading) next).lines) (sym hidden)
      (plain_next (silent (replay_of w reading)).status (silent (replay_of w reading)) next (plain_unshown (replay_of w reading))
      (plain_answer the_task j w (state_after w w.start (events_of reading.events)))))

  -- the line that says why the log isn't accepted is the whole report
  stopped_silent : (stop : Stop) (text : List ℕ) → (stopped stop).lines ≡ Plain text ∷ [] → (is : IsStopped words bytes stop)
      → shows the_task ≡ false → (report words bytes j).lines ≡ Plain text ∷ []
  stopped_silent stop text one is hidden =
      ap (λ (r : Report). r.lines) (of_stopped words bytes j stop is)
      ∙ ap (λ (b : Bool). (shown b is.world (stopping stop is)).lines) hidden
      ∙ silent_end (replay_of is.world (stopping stop is)) is.world is.comes.events is.world.start text
      (λ accepted. stop_is_other stop
      (sym (status_of (replay_of is.world (stopping stop is)) _ (over_all is.world is.comes.events (Stops stop) is.state is.comes.run)) ∙ accepted))
      (stopped_lines stop text one is)

  break_silent : (w : World) (reading : Reading) (begins : Begins words bytes w reading) (breaks : Breaks w w.start reading.events) (text : List ℕ)
      → (said w breaks.state breaks.event breaks.why).lines ≡ Plain text ∷ [] → shows the_task ≡ false
      → (report words bytes j).lines ≡ Plain text ∷ []
  break_silent w reading begins breaks text one hidden =
      ap (λ (r : Report). r.lines) (of_break words bytes j w reading begins breaks)
      ∙ ap (λ (b : Bool). (shown b w reading).lines) hidden
      ∙ silent_end (replay_of w reading) w breaks.before w.start text
      (λ accepted. break_is_other w breaks.state breaks.event breaks.why
      (sym (status_of (replay_of w reading) _ (over_break w reading.events reading.ending breaks)) ∙ accepted))
      (break_lines w reading breaks text one)

  -- ---- a log that begins
  -- the report has such lines, of all its events or of the first ones
  pub record IsWrittenOf (w : World) (events : List Placed) (lines : List ReportLine) : Type 0 where
    pub told : List Placed
    pub untold : List Placed
    pub order : events ≡ told ++ untold
    pub state : State
    pub within : RunWithin w w.start (events_of told) state
    pub end : List ℕ
    pub written : IsWritten w told state end lines

  run_written : (w : World) (s : State) (ending : End) (comes : ComesTo words bytes w s ending) → shows the_task ≡ true
      → IsWrittenOf w comes.events (report words bytes j).lines
  run_written w s AtEnd comes shown_so = record {
    told = comes.events;
    untold = [];
    order = sym (append-nil comes.events);
    state = s;
    within = comes.run;
    end = _;
    written = accepted_written (record { world = w; state = s; comes = comes }) shown_so;
  }
  run_written w s (Stops stop) comes shown_so =
      let line : (text : List ℕ) × ((stopped stop).lines ≡ Plain text ∷ []) = stop_line stop in
      record {
        told = comes.events;
        untold = [];
        order = sym (append-nil comes.events);
        state = s;
        within = comes.run;
        end = line.0;
        written = stopped_written stop line.0 line.1 (record { world = w; state = s; comes = comes }) shown_so;
      }

  pub begins_written : (w : World) (reading : Reading) → Begins words bytes w reading → shows the_task ≡ true
      → IsWrittenOf w reading.events (report words bytes j).lines
  begins_written w reading begins shown_so =
      elim (runs_or_breaks w w.start reading.events) [
        | inl run ↦ run_written w run.0 reading.ending (record { events = reading.events; begins = begins; run = run.1 }) shown_so
        | inr breaks ↦
            let line : (text : List ℕ) × ((said w breaks.state breaks.event breaks.why).lines ≡ Plain text ∷ [])
            = said_line w breaks.state breaks.event breaks.why in
            record {
              told = breaks.before;
              untold = breaks.event ∷ breaks.later;
              order = breaks.cut;
              state = breaks.state;
              within = breaks.run;
              end = line.0;
              written = break_written w reading begins breaks line.0 line.1 shown_so;
            }
      ]

  pub tells_of_log : (w : World) (reading : Reading) (begins : Begins words bytes w reading) → TellsOfLog w (bytes begins.log) (report words bytes j).lines
  tells_of_log w reading begins = by (shows the_task) refl where
    by : (b : Bool) → shows the_task ≡ b → TellsOfLog w (bytes begins.log) (report words bytes j).lines
    by true shown_so =
        let is : IsWrittenOf w reading.events (report words bytes j).lines = begins_written w reading begins shown_so in
        let log : List ℕ = bytes begins.log in
        let told : told_in (report words bytes j).lines ≡ is.told = written_told w is.told is.state is.end (report words bytes j).lines is.written in
        let order : (log_reading w log).events ≡ told_in (report words bytes j).lines ++ is.untold
        = ap (λ (r : Reading). r.events) begins.reads ∙ is.order ∙ ap (λ (es : List Placed). es ++ is.untold) (sym told) in
        record {
          are_true = written_true w is.told is.state is.end (report words bytes j).lines is.written;
          untold = is.untold;
          order = order;
          numbers =
              all_front (λ e. LineStandsFor w log e.line (Tells e.event)) (told_in (report words bytes j).lines) is.untold
              (subst (λ (es : List Placed). All (λ e. LineStandsFor w log e.line (Tells e.event)) es) order (numbered w.form w log).events);
        }
    by false hidden =
        let plain : ArePlain (report words bytes j).lines = hidden_plain w reading begins hidden in
        let none : told_in (report words bytes j).lines ≡ [] = plain_untold (report words bytes j).lines plain in
        record {
          are_true = plain_true w w.start (report words bytes j).lines plain;
          untold = (log_reading w (bytes begins.log)).events;
          order = ap (λ (es : List Placed). es ++ (log_reading w (bytes begins.log)).events) (sym none);
          numbers =
              subst (λ (es : List Placed). All (λ e. LineStandsFor w (bytes begins.log) e.line (Tells e.event)) es) (sym none)
              (All-nil (λ e. LineStandsFor w (bytes begins.log) e.line (Tells e.event)));
        }

  -- ---- causes
  -- where the status is 0, and no drill is asked for, the log is accepted
  accepted_by : ¬ IsDrill words → Cause words bytes status.Accepted → IsAccepted words bytes
  accepted_by no_drill (inl (is, h)) = is
  accepted_by no_drill (inr drill) = absurd (no_drill drill)

  pub caused : (st : Status) → Gives words bytes j → (report words bytes j).status ≡ st → Cause words bytes st
  caused st gives said = subst (λ (x : Status). Cause words bytes x) said (has_its_cause words bytes j gives)

  -- the break of an impossible replay
  abbrev why_of : IsImpossible words bytes → List ℕ
  why_of is = impossible_text is.event.line (reason (outcome is.world is.state is.event.event))

  abbrev reading_of : IsImpossible words bytes → Reading
  reading_of is = record { events = is.before ++ is.event ∷ is.later; ending = is.ending }

  impossible_written : (is : IsImpossible words bytes) → shows the_task ≡ true → IsWritten is.world is.before is.state (why_of is) (report words bytes j).lines
  impossible_written is shown_so = break_written is.world (reading_of is) is.begins (impossible_break words bytes j is) (why_of is) refl shown_so

  -- where the whole report is the line, or the line is the last
  hidden_end : (events : List Placed) (text : List ℕ) → shows the_task ≡ false → (report words bytes j).lines ≡ Plain text ∷ []
      → EndsIn (report words bytes j).lines (those_shown words bytes events) text []
  hidden_end events text hidden is =
      subst (λ (b : Bool). EndsIn (report words bytes j).lines (cond b events []) text []) (sym hidden)
      (record { before = []; cut = is; told = refl; silent = refl })

  shown_end : (events : List Placed) (text : List ℕ) → shows the_task ≡ true → EndsIn (report words bytes j).lines events text []
      → EndsIn (report words bytes j).lines (those_shown words bytes events) text []
  shown_end events text shown_so is = subst (λ (b : Bool). EndsIn (report words bytes j).lines (cond b events []) text []) (sym shown_so) is

  impossible_ends : (is : IsImpossible words bytes) → EndsIn (report words bytes j).lines (those_shown words bytes is.before) (why_of is) []
  unfolding break_written impossible_written
  impossible_ends is = by (shows the_task) refl where
    by : (b : Bool) → shows the_task ≡ b → EndsIn (report words bytes j).lines (those_shown words bytes is.before) (why_of is) []
    by true shown_so =
        shown_end is.before (why_of is) shown_so
        (written_end is.world is.before is.state (why_of is) (report words bytes j).lines (impossible_written is shown_so))
    by false hidden =
        hidden_end is.before (why_of is) hidden
        (break_silent is.world (reading_of is) is.begins (impossible_break words bytes j is) (why_of is) refl hidden)

  stopped_ends : (stop : Stop) (text : List ℕ) → (stopped stop).lines ≡ Plain text ∷ [] → (is : IsStopped words bytes stop)
      → EndsIn (report words bytes j).lines (those_shown words bytes is.comes.events) text []
  unfolding stopped_written
  stopped_ends stop text one is = by (shows the_task) refl where
    by : (b : Bool) → shows the_task ≡ b → EndsIn (report words bytes j).lines (those_shown words bytes is.comes.events) text []
    by true shown_so =
        shown_end is.comes.events text shown_so
        (written_end is.world is.comes.events is.state text (report words bytes j).lines (stopped_written stop text one is shown_so))
    by false hidden = hidden_end is.comes.events text hidden (stopped_silent stop text one is hidden)

-- ---- the laws
pub accepted_is_run : AcceptedIsRun
unfolding AcceptedIsRun
accepted_is_run words bytes j gives no_drill said =
    let is : IsAccepted words bytes = accepted_by words bytes j no_drill (caused words bytes j status.Accepted gives said) in (
      is,
      run_of_within is.world is.world.start (events_of is.comes.events) is.state is.comes.run,
      λ shown_so. written_shows is.world is.comes.events is.state _ (report words bytes j).lines (accepted_written words bytes j is shown_so),
    )

pub impossible_is_no_step : ImpossibleIsNoStep
unfolding ImpossibleIsNoStep
impossible_is_no_step words bytes j gives said =
    let is : IsImpossible words bytes = caused words bytes j status.Impossible gives said in (
      is,
      run_of_within is.world is.world.start (events_of is.before) is.state is.run,
      λ shown_so. written_shows is.world is.before is.state _ (report words bytes j).lines (impossible_written words bytes j is shown_so),
    )

pub report_tells_of_log : ReportTellsOfLog
unfolding ReportTellsOfLog
report_tells_of_log words bytes j w reading begins = tells_of_log words bytes j w reading begins

pub end_counts_events : EndCountsEvents
unfolding EndCountsEvents
end_counts_events words bytes j is shown_so =
    let written : IsWritten is.world is.comes.events is.state (end_of words bytes j is) (report words bytes j).lines
    = accepted_written words bytes j is shown_so in
    (written.answer, written_end is.world is.comes.events is.state (end_of words bytes j is) (report words bytes j).lines written)

pub impossible_is_numbered : ImpossibleIsNumbered
unfolding ImpossibleIsNumbered
impossible_is_numbered words bytes j is =
    let log : List ℕ = bytes is.begins.log in
    let all : All (λ e. LineStandsFor is.world log e.line (Tells e.event)) (is.before ++ is.event ∷ is.later)
    = subst (λ (r : Reading). All (λ e. LineStandsFor is.world log e.line (Tells e.event)) r.events) is.begins.reads
    (numbered is.world.form is.world log).events in (
      impossible_ends words bytes j is,
      all_there (λ e. LineStandsFor is.world log e.line (Tells e.event)) is.before is.event is.later all,
    )
  where
    all_there : (P : Placed → Type 0) (before : List Placed) (e : Placed) (later : List Placed) → All P (before ++ e ∷ later) → P e
    all_there P [] e later all = All-head P e later all
    all_there P (x ∷ before) e later all = all_there P before e later (All-tail P x (before ++ e ∷ later) all)

pub limit_is_last : LimitIsLast
unfolding LimitIsLast
limit_is_last words bytes j l is = stopped_ends words bytes j (Limit l) (limit_text l) refl is

pub bad_log_is_numbered : BadLogIsNumbered
unfolding BadLogIsNumbered
bad_log_is_numbered words bytes j number why is = (
  stopped_ends words bytes j (Fault number why) (bad_log_text number why) refl is,
  (numbered is.world.form is.world (bytes is.comes.begins.log)).fault number why (ap (λ (r : Reading). r.ending) is.comes.begins.reads),
)

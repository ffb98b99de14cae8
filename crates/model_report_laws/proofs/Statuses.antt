-- Each status comes exactly by its cause.
use Rattle.std.proofs.Common.{◌≡◌, Some, ℕ, inl, inr, Bool, true, false, cond, nat_lt, length, List, [], ◌∷◌, ◌++◌, refl, sym, ◌∙◌, ap, ap₂, subst}
use Rattle.std.proofs.lemmas.Bool.{ltb-false, ltb-true, lt-ltb}
use Rattle.cm_base.specs.declared.limited.Limited.{Limited}
use Rattle.cm_base.specs.declared.limited.Limited.TheVariants as limit
use Rattle.cm_base.specs.declared.status.Status.{Status}
use Rattle.cm_base.specs.declared.status.Status.TheVariants as status
use Rattle.cm_base.specs.Limited.{limit_number}
use Rattle.model_cred.specs.Process.{State}
use Rattle.model_cred.specs.World.{World}
use Rattle.model_run.specs.Step.{Step}
use Rattle.model_run.specs.Within.{exceeded}
use Rattle.model_report.proofs.Replayed.{over_all, over_break, status_of, shown_status, stop_is_other, break_is_other, of_stop, of_end, of_size}
use Rattle.model_report.proofs.Replays.{Breaks, Break, no_step, crowds, said, passed_lines, runs_or_breaks}
use Rattle.model_report.specs.Answer.{answer}
use Rattle.model_report.specs.Causes.{Names, Begins, ComesTo, IsImpossible, IsStopped, IsCrowded, IsLongWorld, IsAccepted, Cause}
use Rattle.model_report.specs.Causes.{IsLimited, by_world, by_row, by_line, by_step, by_family, by_size, by_run}
use Rattle.model_report.specs.Command.{Command, Replay, Audit, Check, Confirm, Drill, NoForm, command_of, files_of, query, task_of}
use Rattle.model_report.specs.Given.{StateGives, LogGives, FilesGive, CommandGives, Gives}
use Rattle.model_report.specs.Judged.{Judged}
use Rattle.model_report.specs.Replay.{Report, stopped, limit_hit, after}
use Rattle.model_report.specs.Report.{report, command_report, files_report, log_report, replay_of, shown, shows}
use Rattle.model_report.specs.Report as report
use Rattle.model_report.specs.Task.{Task, NoTask, ToJudge, ToCheck, ToConfirm}
use Rattle.model_report_laws.proofs.Answering.{TaskCause, Fits, run_fit, answer_cause, answer_by}
use Rattle.model_report_laws.specs.Laws.{EachByItsCause}
use Rattle.model_strace.specs.Logs.{log_reading}
use Rattle.model_text.proofs.Keeping.{start_keeps}
use Rattle.model_text.specs.Reading.{Placed, Stop, Fault, Limit, End, AtEnd, Stops, Reading, events_of}
use Rattle.model_text.specs.WorldText.{WorldText, Reads, Bad, Exceeds, world_text}

-- ---- the cause of the status that it has
-- what stops a reading after a run is the cause of its status
cause_of_stop : (words : List (List ℕ)) (bytes : List ℕ → List ℕ) (stop : Stop) → IsStopped words bytes stop → Cause words bytes (stopped stop).status
cause_of_stop words bytes (Fault number why) is = (number, why, is)
cause_of_stop words bytes (Limit l) is = by_line l is

-- the cause of an answer after an accepted log is that of the status
cause_of_answer : (words : List (List ℕ)) (bytes : List ℕ → List ℕ) (is : IsAccepted words bytes) (st : Status)
    → TaskCause (task_of (command_of words) bytes) is.world is.state st → Cause words bytes st
cause_of_answer words bytes is status.Accepted h = inl (is, h)
cause_of_answer words bytes is status.No h = (is, h)
cause_of_answer words bytes is status.Undecided h = (is, h)
cause_of_answer words bytes is status.Refused h = (is, h)
cause_of_answer words bytes is status.BadQuery h = (is, h)
cause_of_answer words bytes is status.Limit (inl h) = by_family (is, h)
cause_of_answer words bytes is status.Limit (inr (inl h)) = by_size (is, h)
cause_of_answer words bytes is status.Limit (inr (inr h)) = by_run (is, h)
cause_of_answer words bytes is _ h = absurd h

-- in the state after an accepted log, later runs can start and the files fit
pub accepted_fits : (words : List (List ℕ)) (bytes : List ℕ → List ℕ) (is : IsAccepted words bytes) → Fits is.world is.state
accepted_fits words bytes is =
    run_fit is.world (events_of is.comes.events) is.state (start_keeps (bytes is.comes.begins.names.world) is.world is.comes.begins.names.reads)
    is.comes.run

module _ (words : List (List ℕ)) (bytes : List ℕ → List ℕ) (w : World) where
  -- a break at an event that is no step, and one at an event that leads past a limit
  abbrev pub impossible_at : (reading : Reading) → Begins words bytes w reading → (breaks : Breaks w w.start reading.events)
      → ((after : State) → ¬ Step w breaks.state breaks.event.event after) → IsImpossible words bytes
  impossible_at reading begins breaks none = record {
    world = w;
    state = breaks.state;
    before = breaks.before;
    event = breaks.event;
    later = breaks.later;
    ending = reading.ending;
    begins = subst (λ (es : List Placed). Begins words bytes w (record { events = es; ending = reading.ending })) breaks.cut begins;
    run = breaks.run;
    no_step = none;
  }

  abbrev pub crowded_at : (reading : Reading) → Begins words bytes w reading → (breaks : Breaks w w.start reading.events) → (s : State) (l : Limited)
      → Step w breaks.state breaks.event.event s → exceeded s ≡ Some l → IsCrowded words bytes l
  crowded_at reading begins breaks s l goes over = record {
    world = w;
    state = breaks.state;
    before = breaks.before;
    event = breaks.event;
    later = breaks.later;
    ending = reading.ending;
    begins = subst (λ (es : List Placed). Begins words bytes w (record { events = es; ending = reading.ending })) breaks.cut begins;
    run = breaks.run;
    after = s;
    step = goes;
    over = over;
  }

  -- and one whose replay breaks off at an event
  cause_of_break : (reading : Reading) (begins : Begins words bytes w reading) (breaks : Breaks w w.start reading.events)
      → (why : Break w breaks.state breaks.event.event) → Cause words bytes (said w breaks.state breaks.event why).status
  cause_of_break reading begins breaks (no_step none) = impossible_at reading begins breaks none
  cause_of_break reading begins breaks (crowds s l goes over) = by_step l (crowded_at reading begins breaks s l goes over)

module _ (words : List (List ℕ)) (bytes : List ℕ → List ℕ) (j : Judged) (w : World) (task : Task) (asked : task_of (command_of words) bytes ≡ task) where
  -- an accepted log has the status of the answer
  caused_at_end : (s : State) (comes : ComesTo words bytes w s AtEnd) → LogGives task w (record { events = comes.events; ending = AtEnd }) j
      → Cause words bytes (log_report task j w (record { events = comes.events; ending = AtEnd })).status
  caused_at_end s comes gives =
      let is : IsAccepted words bytes = record { world = w; state = s; comes = comes } in
      let reading : Reading = record { events = comes.events; ending = AtEnd } in
      let accepted : (replay_of w reading).status ≡ status.Accepted = status_of (replay_of w reading) _ (over_all w comes.events AtEnd s comes.run) in
      subst (λ (r : Report). Cause words bytes r.status) (sym (of_end task j w reading s accepted comes.run))
      (cause_of_answer words bytes is (answer task j w s).status
      (subst (λ (t : Task). TaskCause t w s (answer task j w s).status) (sym asked)
      (answer_cause task j w s (gives s refl comes.run) (accepted_fits words bytes is))))

  -- a log whose reading stops has the stop's
  caused_at_stop : (s : State) (stop : Stop) → (comes : ComesTo words bytes w s (Stops stop))
      → Cause words bytes (log_report task j w (record { events = comes.events; ending = Stops stop })).status
  caused_at_stop s stop comes =
      let reading : Reading = record { events = comes.events; ending = Stops stop } in
      let replay : replay_of w reading ≡ after (passed_lines w w.start comes.events) (stopped stop) = over_all w comes.events (Stops stop) s comes.run in
      let is : (replay_of w reading).status ≡ (stopped stop).status = status_of (replay_of w reading) _ replay in
      subst (λ (st : Status). Cause words bytes st)
      (sym (status_of (log_report task j w reading) _ (of_stop task j w reading (stopped stop).status is (stop_is_other stop))
      ∙ shown_status (shows task) w reading ∙ is))
      (cause_of_stop words bytes stop (record { world = w; state = s; comes = comes }))

  caused_by_run : (s : State) (ending : End) → (comes : ComesTo words bytes w s ending)
      → LogGives task w (record { events = comes.events; ending = ending }) j
      → Cause words bytes (log_report task j w (record { events = comes.events; ending = ending })).status
  caused_by_run s AtEnd comes gives = caused_at_end s comes gives
  caused_by_run s (Stops stop) comes gives = caused_at_stop s stop comes

  caused_by_break : (reading : Reading) (begins : Begins words bytes w reading) → Breaks w w.start reading.events
      → Cause words bytes (log_report task j w reading).status
  caused_by_break reading begins breaks =
      let here : Report = said w breaks.state breaks.event breaks.why in
      let replay : replay_of w reading ≡ after (passed_lines w w.start breaks.before) here = over_break w reading.events reading.ending breaks in
      let is : (replay_of w reading).status ≡ here.status = status_of (replay_of w reading) _ replay in
      subst (λ (st : Status). Cause words bytes st)
      (sym (status_of (log_report task j w reading) _
      (of_stop task j w reading here.status is (break_is_other w breaks.state breaks.event breaks.why)) ∙ shown_status (shows task) w reading ∙ is))
      (cause_of_break words bytes w reading begins breaks breaks.why)

  caused_by_answer : (reading : Reading) → Begins words bytes w reading → LogGives task w reading j
      → Cause words bytes (log_report task j w reading).status
  caused_by_answer reading begins gives =
      elim (runs_or_breaks w w.start reading.events) [
        | inl run ↦ caused_by_run run.0 reading.ending (record { events = reading.events; begins = begins; run = run.1 }) gives
        | inr breaks ↦ caused_by_break reading begins breaks
      ]

module _ (words : List (List ℕ)) (bytes : List ℕ → List ℕ) (j : Judged) where
  caused_by_world : (log : List ℕ) (task : Task) (text : WorldText) → task_of (command_of words) bytes ≡ task
      → (names : Names words bytes text log) → FilesGive task (bytes names.world) (bytes log) j
      → Cause words bytes (report.by_world task j text (bytes log)).status
  caused_by_world log task (Bad table row why) asked names gives = (table, row, why, log, names)
  caused_by_world log task (Exceeds l) asked names gives = by_row l log names
  caused_by_world log task (Reads w) asked names gives =
      caused_by_answer words bytes j w task asked (log_reading w (bytes log))
      (record { log = log; names = names; reads = refl }) (gives w names.size names.reads)

  caused_by_size : (world log : List ℕ) (more : List (List ℕ × Limited)) (task : Task)
      → files_of (command_of words) ≡ (world, limit.World) ∷ (log, limit.Log) ∷ more
      → task_of (command_of words) bytes ≡ task → FilesGive task (bytes world) (bytes log) j
      → (over : Bool) → nat_lt (limit_number limit.World) (length (bytes world)) ≡ over
      → Cause words bytes (files_report task j (bytes world) (bytes log)).status
  caused_by_size world log more task command asked gives true is =
      rw is (by_world (world, (log, limit.Log) ∷ more, command, ltb-true (limit_number limit.World) (length (bytes world)) is))
  caused_by_size world log more task command asked gives false is =
      let names : Names words bytes (world_text (bytes world)) log
      = record { world = world; more = more; command = command; size = ltb-false (limit_number limit.World) (length (bytes world)) is; reads = refl } in
      rw is (caused_by_world log task (world_text (bytes world)) asked names gives)

  caused_by_command : (command : Command) → command_of words ≡ command → CommandGives command bytes j
      → Cause words bytes (command_report command bytes j).status
  caused_by_command NoForm is gives = is
  caused_by_command (Drill n) is gives = inr (n, is)
  caused_by_command (Replay world log) is gives =
      caused_by_size world log [] NoTask (ap files_of is) (ap (λ (c : Command). task_of c bytes) is) gives
      (nat_lt (limit_number limit.World) (length (bytes world))) refl
  caused_by_command (Audit world log pid right) is gives =
      caused_by_size world log [] (ToJudge (query pid right)) (ap files_of is) (ap (λ (c : Command). task_of c bytes) is) gives
      (nat_lt (limit_number limit.World) (length (bytes world))) refl
  caused_by_command (Check world log pid right certificate) is gives =
      caused_by_size world log ((certificate, limit.Certificate) ∷ []) (ToCheck (query pid right) (bytes certificate))
      (ap files_of is) (ap (λ (c : Command). task_of c bytes) is) gives
      (nat_lt (limit_number limit.World) (length (bytes world))) refl
  caused_by_command (Confirm world log pid right run) is gives =
      caused_by_size world log ((run, limit.Run) ∷ []) (ToConfirm (query pid right) (bytes run))
      (ap files_of is) (ap (λ (c : Command). task_of c bytes) is) gives
      (nat_lt (limit_number limit.World) (length (bytes world))) refl

  -- the cause of the status that the report has holds
  pub has_its_cause : Gives words bytes j → Cause words bytes (report words bytes j).status
  has_its_cause gives = caused_by_command (command_of words) refl gives

-- ---- a cause makes its status
of_command : (words : List (List ℕ)) (bytes : List ℕ → List ℕ) (j : Judged) (command : Command) → command_of words ≡ command
    → report words bytes j ≡ command_report command bytes j
of_command words bytes j command is = ap (λ (c : Command). command_report c bytes j) is

-- the first two files of a list, and the first one
pub first_of : {a b : List ℕ} {l m : Limited} {more more' : List (List ℕ × Limited)} → (a, l) ∷ more ≡ (b, m) ∷ more' → a ≡ b
first_of {a} {b} {l} {m} is = let same : (a, l) ≡ (b, m) = cc in ap (λ (f : List ℕ × Limited). f.0) same

pub second_of : {a b c d : List ℕ} {l m l' m' : Limited} {more more' : List (List ℕ × Limited)}
    → (a, l) ∷ (b, m) ∷ more ≡ (c, l') ∷ (d, m') ∷ more' → b ≡ d
second_of {a} {b} {c} {d} {l} {m} {l'} {m'} is = let same : (b, m) ≡ (d, m') = cc in ap (λ (f : List ℕ × Limited). f.0) same

-- a command that names a world and perhaps more is that of its task
of_first : (command : Command) (bytes : List ℕ → List ℕ) (j : Judged) (world : List ℕ) (more : List (List ℕ × Limited))
    → files_of command ≡ (world, limit.World) ∷ more
    → (log : List ℕ) × (command_report command bytes j ≡ files_report (task_of command bytes) j (bytes world) log)
of_first (Replay world' log') bytes j world more is =
    (bytes log', ap (λ (n : List ℕ). files_report NoTask j (bytes n) (bytes log')) (first_of is))
of_first (Audit world' log' pid right) bytes j world more is =
    (bytes log', ap (λ (n : List ℕ). files_report (ToJudge (query pid right)) j (bytes n) (bytes log')) (first_of is))
of_first (Check world' log' pid right text) bytes j world more is =
    (bytes log', ap (λ (n : List ℕ). files_report (ToCheck (query pid right) (bytes text)) j (bytes n) (bytes log')) (first_of is))
of_first (Confirm world' log' pid right text) bytes j world more is =
    (bytes log', ap (λ (n : List ℕ). files_report (ToConfirm (query pid right) (bytes text)) j (bytes n) (bytes log')) (first_of is))
of_first _ bytes j world more is = absurd (cc)

of_files : (command : Command) (bytes : List ℕ → List ℕ) (j : Judged) (world log : List ℕ) (more : List (List ℕ × Limited))
    → files_of command ≡ (world, limit.World) ∷ (log, limit.Log) ∷ more
    → command_report command bytes j ≡ files_report (task_of command bytes) j (bytes world) (bytes log)
of_files (Replay world' log') bytes j world log more is =
    ap₂ (λ (m n : List ℕ). files_report NoTask j (bytes m) (bytes n)) (first_of is) (second_of is)
of_files (Audit world' log' pid right) bytes j world log more is =
    ap₂ (λ (m n : List ℕ). files_report (ToJudge (query pid right)) j (bytes m) (bytes n)) (first_of is) (second_of is)
of_files (Check world' log' pid right text) bytes j world log more is =
    ap₂ (λ (m n : List ℕ). files_report (ToCheck (query pid right) (bytes text)) j (bytes m) (bytes n)) (first_of is) (second_of is)
of_files (Confirm world' log' pid right text) bytes j world log more is =
    ap₂ (λ (m n : List ℕ). files_report (ToConfirm (query pid right) (bytes text)) j (bytes m) (bytes n)) (first_of is) (second_of is)
of_files _ bytes j world log more is = absurd (cc)

-- what is given of its files
files_give : (command : Command) (bytes : List ℕ → List ℕ) (j : Judged) (world log : List ℕ) (more : List (List ℕ × Limited))
    → files_of command ≡ (world, limit.World) ∷ (log, limit.Log) ∷ more → CommandGives command bytes j
    → FilesGive (task_of command bytes) (bytes world) (bytes log) j
files_give (Replay world' log') bytes j world log more is gives = λ w size reads s ending run. tt
files_give (Audit world' log' pid right) bytes j world log more is gives =
    subst (λ (m : List ℕ). FilesGive (ToJudge (query pid right)) (bytes m) (bytes log) j) (first_of is)
    (subst (λ (n : List ℕ). FilesGive (ToJudge (query pid right)) (bytes world') (bytes n) j) (second_of is) gives)
files_give (Check world' log' pid right text) bytes j world log more is gives =
    subst (λ (m : List ℕ). FilesGive (ToCheck (query pid right) (bytes text)) (bytes m) (bytes log) j) (first_of is)
    (subst (λ (n : List ℕ). FilesGive (ToCheck (query pid right) (bytes text)) (bytes world') (bytes n) j) (second_of is) gives)
files_give (Confirm world' log' pid right text) bytes j world log more is gives = λ w size reads s ending run. tt
files_give _ bytes j world log more is gives = absurd (cc)

-- the report where the words name a world and a log
of_names : (words : List (List ℕ)) (bytes : List ℕ → List ℕ) (j : Judged) (text : WorldText) (log : List ℕ) → Names words bytes text log
    → report words bytes j ≡ report.by_world (task_of (command_of words) bytes) j text (bytes log)
of_names words bytes j text log names =
    of_files (command_of words) bytes j names.world log names.more names.command
    ∙ of_size (task_of (command_of words) bytes) j (bytes names.world) (bytes log) names.size
    ∙ ap (λ (t : WorldText). report.by_world (task_of (command_of words) bytes) j t (bytes log)) names.reads

-- the report where the replay of a log begins
pub of_begins : (words : List (List ℕ)) (bytes : List ℕ → List ℕ) (j : Judged) (w : World) (reading : Reading) → Begins words bytes w reading
    → report words bytes j ≡ log_report (task_of (command_of words) bytes) j w reading
of_begins words bytes j w reading begins =
    of_names words bytes j (Reads w) begins.log begins.names
    ∙ ap (λ (r : Reading). log_report (task_of (command_of words) bytes) j w r) begins.reads

-- and what the words and the files give then
pub gives_in : (words : List (List ℕ)) (bytes : List ℕ → List ℕ) (j : Judged) (w : World) (reading : Reading) → Begins words bytes w reading
    → Gives words bytes j → LogGives (task_of (command_of words) bytes) w reading j
gives_in words bytes j w reading begins gives =
    subst (λ (r : Reading). LogGives (task_of (command_of words) bytes) w r j) begins.reads
    (files_give (command_of words) bytes j begins.names.world begins.log begins.names.more begins.names.command gives
    w begins.names.size begins.names.reads)

-- ---- the report of a log that begins, by how its replay ends
module _ (words : List (List ℕ)) (bytes : List ℕ → List ℕ) (j : Judged) where
  -- what the words ask
  abbrev the_task : Task
  the_task = task_of (command_of words) bytes

  -- the reading of an accepted log
  abbrev pub whole : IsAccepted words bytes → Reading
  whole is = record { events = is.comes.events; ending = AtEnd }

  -- its replay has that status
  pub replay_accepted : (is : IsAccepted words bytes) → (replay_of is.world (whole is)).status ≡ status.Accepted
  replay_accepted is = status_of (replay_of is.world (whole is)) _ (over_all is.world is.comes.events AtEnd is.state is.comes.run)

  -- where the log is accepted
  pub of_accepted : (is : IsAccepted words bytes)
      → report words bytes j ≡ after (shown (shows the_task) is.world (whole is)).lines (answer the_task j is.world is.state)
  of_accepted is =
      of_begins words bytes j is.world (whole is) is.comes.begins
      ∙ of_end the_task j is.world (whole is) is.state (replay_accepted is) is.comes.run

  -- where the reading stops
  pub of_stopped : (stop : Stop) (is : IsStopped words bytes stop)
      → report words bytes j ≡ shown (shows the_task) is.world (record { events = is.comes.events; ending = Stops stop })
  of_stopped stop is =
      let reading : Reading = record { events = is.comes.events; ending = Stops stop } in
      of_begins words bytes j is.world reading is.comes.begins
      ∙ of_stop the_task j is.world reading (stopped stop).status
      (status_of (replay_of is.world reading) _ (over_all is.world is.comes.events (Stops stop) is.state is.comes.run)) (stop_is_other stop)

  -- where the replay breaks off at an event
  pub of_break : (w : World) (reading : Reading) (begins : Begins words bytes w reading) (breaks : Breaks w w.start reading.events)
      → report words bytes j ≡ shown (shows the_task) w reading
  of_break w reading begins breaks =
      of_begins words bytes j w reading begins
      ∙ of_stop the_task j w reading (said w breaks.state breaks.event breaks.why).status
      (status_of (replay_of w reading) _ (over_break w reading.events reading.ending breaks)) (break_is_other w breaks.state breaks.event breaks.why)

  -- its status
  break_status : (w : World) (reading : Reading) (begins : Begins words bytes w reading) (breaks : Breaks w w.start reading.events)
      → (report words bytes j).status ≡ (said w breaks.state breaks.event breaks.why).status
  break_status w reading begins breaks =
      status_of (report words bytes j) _ (of_break w reading begins breaks) ∙ shown_status (shows the_task) w reading
      ∙ status_of (replay_of w reading) _ (over_break w reading.events reading.ending breaks)

  -- the break at an event that is no step, and at one that leads past a limit
  abbrev pub impossible_break : (is : IsImpossible words bytes) → Breaks is.world is.world.start (is.before ++ is.event ∷ is.later)
  impossible_break is =
      record { before = is.before; event = is.event; later = is.later; state = is.state; cut = refl; run = is.run; why = no_step is.no_step }

  abbrev pub crowded_break : (l : Limited) (is : IsCrowded words bytes l) → Breaks is.world is.world.start (is.before ++ is.event ∷ is.later)
  crowded_break l is = record {
    before = is.before;
    event = is.event;
    later = is.later;
    state = is.state;
    cut = refl;
    run = is.run;
    why = crowds is.after l is.step is.over;
  }

  by_stop : (stop : Stop) → IsStopped words bytes stop → (report words bytes j).status ≡ (stopped stop).status
  by_stop stop is =
      let reading : Reading = record { events = is.comes.events; ending = Stops stop } in
      status_of (report words bytes j) _ (of_stopped stop is) ∙ shown_status (shows the_task) is.world reading
      ∙ status_of (replay_of is.world reading) _ (over_all is.world is.comes.events (Stops stop) is.state is.comes.run)

  by_long_world : IsLongWorld words bytes → (report words bytes j).status ≡ status.Limit
  by_long_world (world, more, command, over) =
      let there : (log : List ℕ) × (command_report (command_of words) bytes j ≡ files_report the_task j (bytes world) log)
      = of_first (command_of words) bytes j world more command in
      let rest : Report = report.by_world the_task j (world_text (bytes world)) there.0 in
      status_of (report words bytes j) _ there.1
      ∙ ap (λ (b : Bool). (cond b (limit_hit limit.World) rest).status) (lt-ltb (limit_number limit.World) (length (bytes world)) over)

  -- ---- the status whose cause holds, with what is given
  module _ (gives : Gives words bytes j) where
    -- what is given is what is asked after the log
    pub gives_after : (is : IsAccepted words bytes) → StateGives the_task is.world is.state j
    gives_after is = gives_in words bytes j is.world (whole is) is.comes.begins gives is.state refl is.comes.run

    by_answer : (is : IsAccepted words bytes) (st : Status) → TaskCause the_task is.world is.state st → (report words bytes j).status ≡ st
    by_answer is st h =
        status_of (report words bytes j) _ (of_accepted is)
        ∙ answer_by the_task j is.world is.state (gives_after is) (accepted_fits words bytes is) st h

    by_limit : IsLimited words bytes → (report words bytes j).status ≡ status.Limit
    by_limit (by_world long) = by_long_world long
    by_limit (by_row l log names) = status_of (report words bytes j) _ (of_names words bytes j (Exceeds l) log names)
    by_limit (by_line l is) = by_stop (Limit l) is
    by_limit (by_step l is) =
        break_status is.world (record { events = is.before ++ is.event ∷ is.later; ending = is.ending }) is.begins
        (crowded_break l is)
    by_limit (by_family (is, h)) = by_answer is status.Limit (inl h)
    by_limit (by_size (is, h)) = by_answer is status.Limit (inr (inl h))
    by_limit (by_run (is, h)) = by_answer is status.Limit (inr (inr h))

    -- the status whose cause holds is that of the report
    pub by_its_cause : (st : Status) → Cause words bytes st → (report words bytes j).status ≡ st
    by_its_cause status.Accepted (inl (is, h)) = by_answer is status.Accepted h
    by_its_cause status.Accepted (inr (n, is)) = status_of (report words bytes j) _ (of_command words bytes j (Drill n) is)
    by_its_cause status.No (is, h) = by_answer is status.No h
    by_its_cause status.Undecided (is, h) = by_answer is status.Undecided h
    by_its_cause status.Refused (is, h) = by_answer is status.Refused h
    by_its_cause status.BadQuery (is, h) = by_answer is status.BadQuery h
    by_its_cause status.Impossible is =
        break_status is.world (record { events = is.before ++ is.event ∷ is.later; ending = is.ending }) is.begins
        (impossible_break is)
    by_its_cause status.BadWorld (table, row, why, log, names) =
        status_of (report words bytes j) _ (of_names words bytes j (Bad table row why) log names)
    by_its_cause status.BadLog (number, why, is) = by_stop (Fault number why) is
    by_its_cause status.Usage is = status_of (report words bytes j) _ (of_command words bytes j NoForm is)
    by_its_cause status.Limit is = by_limit is
    by_its_cause _ never = absurd never

-- A status comes exactly by its cause, whatever the words and the files.
pub each_by_its_cause : EachByItsCause
unfolding EachByItsCause
each_by_its_cause words bytes j st gives = (
  λ is. subst (λ (x : Status). Cause words bytes x) is (has_its_cause words bytes j gives),
  λ cause. by_its_cause words bytes j gives st cause,
)

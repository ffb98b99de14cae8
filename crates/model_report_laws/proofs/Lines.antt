-- The lines of a report: those at the start, those of the events that are a run, one that says how the log ends, and an
-- answer. They show the state that the run reaches, they are true, and they tell these events.
use Rattle.std.proofs.Common.{◌≡◌, ◌≢◌, ℕ, Bool, true, false, cond, nat_lt, length, List, [], ◌∷◌, ◌++◌, map, Option, None, Some, IsSomeAnd, Result, Ok, Err}
use Rattle.std.proofs.Common.{refl, sym, ◌∙◌, ap, subst, append_assoc, append-nil, All}
use Rattle.std.proofs.lemmas.List.Elements.{All-head, All-tail}
use Rattle.std.specs.Prelude.{codes}
use Rattle.cm_base.specs.declared.limited.Limited.TheVariants as limit
use Rattle.cm_base.specs.declared.res.Res.{Res}
use Rattle.cm_base.specs.declared.res.Res.TheVariants.{Child}
use Rattle.cm_base.specs.Limited.{limit_number}
use Rattle.cm_base.specs.declared.status.Status.{Status}
use Rattle.cm_base.specs.declared.status.Status.TheVariants as status
use Rattle.model_box.specs.Bounds.{BoxRow}
use Rattle.model_cert.specs.Document.{certificate}
use Rattle.model_cert.specs.Fault.{CertFault}
use Rattle.model_confirm.specs.Confirm.{Confirmed, Confirms, confirm_of}
use Rattle.model_cred.specs.Call.{Event}
use Rattle.model_cred.specs.Process.{Process, State, Ascends, process_at}
use Rattle.model_cred.specs.Right.{Right}
use Rattle.model_cred.specs.Space.{Spaces}
use Rattle.model_cred.specs.World.{World}
use Rattle.model_run.specs.Family.{family}
use Rattle.model_run.specs.Step.{Step, Run, outcome}
use Rattle.model_cred.proofs.Lookups.{pid_of_found}
use Rattle.model_report.proofs.Replays.{passed_lines, passed_step}
use Rattle.model_report_laws.proofs.Showing.{silent_shown, run_shows, start_shows}
use Rattle.model_report.specs.Answer.{answer, asked_answer, right_answer, task_report, verdict_report, certificate_report, confirmed_report}
use Rattle.model_report.specs.Answer.{unless_large, bad_query, is_over_standing}
use Rattle.model_report.specs.Checked.{Checked, NotStart}
use Rattle.model_report.specs.Judged.{Judged}
use Rattle.model_report_laws.specs.Laws.{Shows, last_credentials, told_in, AreTrue, EndsIn}
use Rattle.model_report.specs.Query.{asked_process, right_token}
use Rattle.model_report.specs.Replay.{Report, ReportLine, Credentials, Told, Plain, at_line, limit_hit, credentials_if, child_lines, step_lines}
use Rattle.model_report.specs.Replay.{plain_lines, silenced, silent, state_or}
use Rattle.model_report.specs.Report.{start_lines}
use Rattle.model_report.specs.Task.{Task, NoTask, ToJudge, ToCheck, ToConfirm}
use Rattle.model_report.specs.Told.{TellsNo}
use Rattle.model_report.specs.Told as verdict
use Rattle.model_cred.proofs.Finds.{IsFound, each_found}
use Rattle.model_report.proofs.Texts.{silenced_other}
use Rattle.model_text.proofs.Starts.{start_ascends}
use Rattle.model_text.specs.Print.{event_text}
use Rattle.model_text.specs.Reading.{Placed, events_of, script_reading}
use Rattle.model_text.specs.WorldText.{Reads, world_text}

-- ---- lines of plain text
-- each line is of plain text
abbrev pub ArePlain : List ReportLine → Type 0
ArePlain [] = Unit {0}
ArePlain (Plain text ∷ lines) = ArePlain lines
ArePlain (Credentials w p ∷ lines) = ⊥
ArePlain (Told w e ∷ lines) = ⊥

-- such lines show nothing, tell nothing, and are true
plain_silent : (lines : List ReportLine) → ArePlain lines → (pid : ℕ) → last_credentials pid lines ≡ None
plain_silent [] plain pid = refl
plain_silent (Plain text ∷ lines) plain pid = plain_silent lines plain pid
plain_silent (_ ∷ lines) plain pid = absurd plain

pub plain_untold : (lines : List ReportLine) → ArePlain lines → told_in lines ≡ []
plain_untold [] plain = refl
plain_untold (Plain text ∷ lines) plain = plain_untold lines plain
plain_untold (_ ∷ lines) plain = absurd plain

pub plain_true : (w : World) (s : State) (lines : List ReportLine) → ArePlain lines → AreTrue w s lines
plain_true w s [] plain = tt
plain_true w s (Plain text ∷ lines) plain = plain_true w s lines plain
plain_true w s (_ ∷ lines) plain = absurd plain

-- the lines of plain text among lines are such
pub plain_plain : (lines : List ReportLine) → ArePlain (plain_lines lines)
plain_plain [] = tt
plain_plain (Plain text ∷ lines) = plain_plain lines
plain_plain (_ ∷ lines) = plain_plain lines

plain_silenced : (st : Status) (lines : List ReportLine) → ArePlain (silenced st lines)
plain_silenced status.Accepted lines = tt
plain_silenced _ lines = plain_plain lines

-- so are those of a replay that isn't shown
pub plain_unshown : (r : Report) → ArePlain (silent r).lines
plain_unshown r = plain_silenced r.status r.lines

-- more of them
pub plain_append : (one other : List ReportLine) → ArePlain one → ArePlain other → ArePlain (one ++ other)
plain_append [] other plain more = more
plain_append (Plain text ∷ one) other plain more = plain_append one other plain more
plain_append (_ ∷ one) other plain more = absurd plain

-- an answer is of plain text
plain_run : (w : World) (run : List Event) (last : List ℕ) → ArePlain (map (λ e. Plain (event_text w e)) run ++ Plain last ∷ [])
plain_run w [] last = tt
plain_run w (e ∷ run) last = plain_run w run last

plain_verdict : (w : World) (spaces : Spaces) (x : verdict.Told) → ArePlain (verdict_report w spaces x).lines
plain_verdict w spaces (TellsNo found) = plain_run w found.run (at_line (codes "holder ") found.holder)
plain_verdict w spaces _ = tt

plain_checked : (w : World) (spaces : Spaces) (x : Checked) (read : Result (List BoxRow) CertFault)
    → ArePlain (certificate_report w spaces x read).lines
plain_checked w spaces x (Err why) = tt
plain_checked w spaces (NotStart row) (Ok rows) = tt
plain_checked w spaces _ (Ok rows) = tt

plain_confirmed : (x : Confirmed) → ArePlain (confirmed_report x).lines
plain_confirmed (Confirms pid) = tt
plain_confirmed _ = tt

plain_either : (b : Bool) (one other : Report) → ArePlain one.lines → ArePlain other.lines → ArePlain (cond b one other).lines
plain_either true one other plain more = plain
plain_either false one other plain more = more

plain_task : (task : Task) (j : Judged) (w : World) (s : State) (members : List ℕ) (right : Right) → ArePlain (task_report task j w s members right).lines
plain_task NoTask j w s members right = tt
plain_task (ToJudge q) j w s members right = plain_verdict w s.spaces j.verdict
plain_task (ToCheck q text) j w s members right =
    plain_either (nat_lt (limit_number limit.Certificate) (length text)) (limit_hit limit.Certificate)
    (certificate_report w s.spaces j.checked (certificate (length s.spaces) text)) tt
    (plain_checked w s.spaces j.checked (certificate (length s.spaces) text))
plain_task (ToConfirm q text) j w s members right =
    plain_either (nat_lt (limit_number limit.Run) (length text)) (limit_hit limit.Run)
    (confirmed_report (confirm_of w s members right (script_reading w text))) tt
    (plain_confirmed (confirm_of w s members right (script_reading w text)))

plain_right : (task : Task) (j : Judged) (w : World) (s : State) (p : Process) (right : Right) → ArePlain (right_answer task j w s p right).lines
plain_right task j w s p right =
    plain_either (is_over_standing s.spaces right) (unless_large (length (family s p.pid)) (task_report task j w s (family s p.pid) right))
    (bad_query (codes "space"))
    (plain_either (nat_lt (limit_number limit.Family) (length (family s p.pid))) (limit_hit limit.Family)
    (task_report task j w s (family s p.pid) right) tt (plain_task task j w s (family s p.pid) right)) tt

plain_asked : (task : Task) (j : Judged) (w : World) (s : State) (p : Option Process) (right : Option Right)
    → ArePlain (asked_answer task j w s p right).lines
plain_asked task j w s (Some p) (Some right) = plain_right task j w s p right
plain_asked task j w s _ _ = tt

pub plain_answer : (task : Task) (j : Judged) (w : World) (s : State) → ArePlain (answer task j w s).lines
plain_answer NoTask j w s = tt
plain_answer (ToJudge q) j w s = plain_asked (ToJudge q) j w s (asked_process s q.pid) (right_token w.names q.right)
plain_answer (ToCheck q text) j w s = plain_asked (ToCheck q text) j w s (asked_process s q.pid) (right_token w.names q.right)
plain_answer (ToConfirm q text) j w s = plain_asked (ToConfirm q text) j w s (asked_process s q.pid) (right_token w.names q.right)

-- ---- what lines tell
pub told_append : (one other : List ReportLine) → told_in (one ++ other) ≡ told_in one ++ told_in other
told_append [] other = refl
told_append (Told w e ∷ one) other = ap (λ (es : List Placed). e ∷ es) (told_append one other)
told_append (_ ∷ one) other = told_append one other

told_start : (w : World) (ps : List Process) → told_in (map (Credentials w) ps) ≡ []
told_start w [] = refl
told_start w (p ∷ ps) = told_start w ps

told_if : (w : World) (found : Option Process) → told_in (credentials_if w found) ≡ []
told_if w None = refl
told_if w (Some p) = refl

told_child : (w : World) (s : State) (res : Res) → told_in (child_lines w s res) ≡ []
told_child w s (Child pid) = told_if w (process_at s.processes pid)
told_child w s _ = refl

told_step : (w : World) (s : State) (e : Placed) → told_in (step_lines w s e) ≡ e ∷ []
told_step w s e =
    let caller : List ReportLine = credentials_if w (process_at s.processes e.event.pid) in
    let child : List ReportLine = child_lines w s e.event.res in
    ap (λ (es : List Placed). e ∷ es)
    (told_append caller child ∙ ap (λ (es : List Placed). es ++ told_in child) (told_if w (process_at s.processes e.event.pid))
    ∙ told_child w s e.event.res)

told_passed : (w : World) (events : List Placed) (from to : State) → Run w from (events_of events) to → told_in (passed_lines w from events) ≡ events
told_passed w [] from to run = refl
told_passed w (e ∷ events) from to run =
    ap (λ (ls : List ReportLine). told_in ls) (passed_step w from run.0 e events run.1)
    ∙ told_append (step_lines w run.0 e) (passed_lines w run.0 events)
    ∙ ap (λ (es : List Placed). es ++ told_in (passed_lines w run.0 events)) (told_step w run.0 e)
    ∙ ap (λ (es : List Placed). e ∷ es) (told_passed w events run.0 to run.2)

-- ---- a replay that isn't shown
plain_if : (w : World) (found : Option Process) (rest : List ReportLine) → plain_lines (credentials_if w found ++ rest) ≡ plain_lines rest
plain_if w None rest = refl
plain_if w (Some p) rest = refl

plain_child : (w : World) (s : State) (res : Res) (rest : List ReportLine) → plain_lines (child_lines w s res ++ rest) ≡ plain_lines rest
plain_child w s (Child pid) rest = plain_if w (process_at s.processes pid) rest
plain_child w s _ rest = refl

pub plain_step : (w : World) (s : State) (e : Placed) (rest : List ReportLine) → plain_lines (step_lines w s e ++ rest) ≡ plain_lines rest
plain_step w s e rest =
    let caller : List ReportLine = credentials_if w (process_at s.processes e.event.pid) in
    let child : List ReportLine = child_lines w s e.event.res in
    ap (λ (ls : List ReportLine). plain_lines ls) (append_assoc caller child rest)
    ∙ plain_if w (process_at s.processes e.event.pid) (child ++ rest) ∙ plain_child w s e.event.res rest

-- of the lines of events none is left
pub plain_passed : (w : World) (events : List Placed) (s : State) (rest : List ReportLine)
    → plain_lines (passed_lines w s events ++ rest) ≡ plain_lines rest
plain_passed w [] s rest = refl
plain_passed w (e ∷ events) s rest =
    let next : State = state_or s (outcome w s e.event) in
    let later : List ReportLine = passed_lines w next events in
    ap (λ (ls : List ReportLine). plain_lines ls) (append_assoc (step_lines w next e) later rest)
    ∙ plain_step w next e (later ++ rest) ∙ plain_passed w events next rest

-- so of a replay that isn't accepted the line is left that says why
pub silent_end : (r : Report) (w : World) (events : List Placed) (s : State) (text : List ℕ) → r.status ≢ status.Accepted
    → r.lines ≡ passed_lines w s events ++ Plain text ∷ [] → (silent r).lines ≡ Plain text ∷ []
silent_end r w events s text other is =
    silenced_other r.status r.lines other ∙ ap (λ (ls : List ReportLine). plain_lines ls) is ∙ plain_passed w events s (Plain text ∷ [])

-- ---- which lines are true
true_start : (w : World) (s : State) (ps : List Process) (rest : List ReportLine) → All (IsFound s.processes) ps
    → AreTrue w s rest → AreTrue w s (map (Credentials w) ps ++ rest)
true_start w s [] rest found true_rest = true_rest
true_start w s (p ∷ ps) rest found true_rest =
    (All-head (IsFound s.processes) p ps found, true_start w s ps rest (All-tail (IsFound s.processes) p ps found) true_rest)

-- the credential line of the process that a pid names
true_found : (w : World) (s : State) (pid : ℕ) (found : Option Process) (rest : List ReportLine)
    → process_at s.processes pid ≡ found → AreTrue w s rest → AreTrue w s (credentials_if w found ++ rest)
true_found w s pid None rest is true_rest = true_rest
true_found w s pid (Some p) rest is true_rest =
    (ap (λ (n : ℕ). process_at s.processes n) (pid_of_found s.processes pid p is) ∙ is, true_rest)

true_child : (w : World) (s : State) (res : Res) (rest : List ReportLine) → AreTrue w s rest → AreTrue w s (child_lines w s res ++ rest)
true_child w s (Child pid) rest true_rest = true_found w s pid (process_at s.processes pid) rest refl true_rest
true_child w s _ rest true_rest = true_rest

true_step : (w : World) (s s' : State) (e : Placed) (rest : List ReportLine) → Step w s e.event s' → AreTrue w s' rest → AreTrue w s (step_lines w s' e ++ rest)
true_step w s s' e rest goes true_rest =
    let caller : List ReportLine = credentials_if w (process_at s'.processes e.event.pid) in
    let child : List ReportLine = child_lines w s' e.event.res in (
      s',
      goes,
      subst (λ (ls : List ReportLine). AreTrue w s' ls) (sym (append_assoc caller child rest))
          (true_found w s' e.event.pid (process_at s'.processes e.event.pid) (child ++ rest) refl (true_child w s' e.event.res rest true_rest)),
    )

true_passed : (w : World) (events : List Placed) (from to : State) (rest : List ReportLine) → Run w from (events_of events) to
    → AreTrue w to rest → AreTrue w from (passed_lines w from events ++ rest)
true_passed w [] from to rest run true_rest = subst (λ (s : State). AreTrue w s rest) run true_rest
true_passed w (e ∷ events) from to rest run true_rest =
    let later : List ReportLine = passed_lines w run.0 events in
    subst (λ (ls : List ReportLine). AreTrue w from ls)
    (sym (append_assoc (step_lines w run.0 e) later rest) ∙ ap (λ (ls : List ReportLine). ls ++ rest) (sym (passed_step w from run.0 e events run.1)))
    (true_step w from run.0 e (later ++ rest) run.1 (true_passed w events run.0 to rest run.2 true_rest))

-- ---- the lines of a whole report
-- The lines at the start, those of events that are a run, one that says how the log ends, and an answer.
pub record IsWritten (w : World) (events : List Placed) (s : State) (end : List ℕ) (lines : List ReportLine) : Type 0 where
  pub run : Run w w.start (events_of events) s
  pub start : (bytes : List ℕ) × (world_text bytes ≡ Reads w)
  pub answer : List ReportLine
  pub plain : ArePlain answer
  pub cut : lines ≡ start_lines w ++ (passed_lines w w.start events ++ Plain end ∷ answer)

module _ (w : World) (events : List Placed) (s : State) (end : List ℕ) (lines : List ReportLine) (is : IsWritten w events s end lines) where
  -- the lines before the one that says how the log ends
  before : List ReportLine
  before = start_lines w ++ passed_lines w w.start events

  cut_there : lines ≡ before ++ Plain end ∷ is.answer
  unfolding before
  cut_there = is.cut ∙ sym (append_assoc (start_lines w) (passed_lines w w.start events) (Plain end ∷ is.answer))

  told_before : told_in before ≡ events
  unfolding before
  told_before =
      told_append (start_lines w) (passed_lines w w.start events)
      ∙ ap (λ (es : List Placed). es ++ told_in (passed_lines w w.start events)) (told_start w w.start.processes)
      ∙ told_passed w events w.start s is.run

  -- they end so
  pub written_end : EndsIn lines events end is.answer
  written_end = record { before = before; cut = cut_there; told = told_before; silent = plain_untold is.answer is.plain }

  -- they tell the events
  pub written_told : told_in lines ≡ events
  written_told =
      ap (λ (ls : List ReportLine). told_in ls) cut_there ∙ told_append before (Plain end ∷ is.answer)
      ∙ ap (λ (es : List Placed). told_in before ++ es) (plain_untold is.answer is.plain)
      ∙ append-nil (told_in before) ∙ told_before

  -- they show the state
  pub written_shows : Shows lines s
  unfolding before
  written_shows =
      let ascends : Ascends w.start.processes = start_ascends is.start.0 w is.start.1 in
      let first : Shows (start_lines w) w.start = λ p found.
      subst (λ (o : Option Process). IsSomeAnd o (λ q. (q.pid ≡ p.pid) × (q.space ≡ p.space) × (q.cred ≡ p.cred)))
      (sym (start_shows w w.start.processes ascends p.pid ∙ found)) (refl, refl, refl) in
      subst (λ (ls : List ReportLine). Shows ls s) (sym cut_there)
      (silent_shown before (Plain end ∷ is.answer) s (plain_silent is.answer is.plain) (run_shows w events w.start s is.run (start_lines w) first))

  -- they are true
  pub written_true : AreTrue w w.start lines
  written_true =
      subst (λ (ls : List ReportLine). AreTrue w w.start ls) (sym is.cut)
      (true_start w w.start w.start.processes (passed_lines w w.start events ++ Plain end ∷ is.answer)
      (each_found w.start.processes (start_ascends is.start.0 w is.start.1))
      (true_passed w events w.start s (Plain end ∷ is.answer) is.run (plain_true w s is.answer is.plain)))

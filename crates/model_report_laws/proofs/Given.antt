-- What the words and the files give: there is such, and with each that they give the report is one.
use Rattle.std.proofs.Common.{◌≡◌, ◌≢◌, ℕ, ◌≤◌, inl, inr, Bool, true, false, cond, nat_lt, length, List, [], Result, Ok, Err, refl, sym, ◌∙◌, ap, subst}
use Rattle.std.proofs.lemmas.Bool.{ltb-false}
use Rattle.cm_base.specs.declared.limited.Limited.TheVariants as limit
use Rattle.cm_base.specs.declared.status.Status.{Status}
use Rattle.cm_base.specs.declared.status.Status.TheVariants as status
use Rattle.cm_base.specs.Limited.{limit_number}
use Rattle.model_box.specs.Bounds.{BoxRow}
use Rattle.model_cert.specs.Document.{certificate}
use Rattle.model_cert.specs.Fault.{CertFault}
use Rattle.model_cred.specs.Call.{Event}
use Rattle.model_cred.specs.Process.{Process, State, KeepsState}
use Rattle.model_cred.specs.Right.{Right}
use Rattle.model_cred.specs.World.{World, KeepsWorld}
use Rattle.model_drill.proofs.Ends.{drill_state_keeps}
use Rattle.model_drill.specs.Drill.{drilled, drill_right}
use Rattle.model_drill.specs.DrillWorld.{drill_world}
use Rattle.model_drill.specs.Laws.{DrillStateKeeps}
use Rattle.model_report.proofs.Answers.{Comes, asks, bad, large, comes, of_asked, of_no_process, of_no_right, of_no_space, of_larger, is_not}
use Rattle.model_report.proofs.Answers.{one_process, one_right, bad_asks_none, large_asks_none}
use Rattle.model_report.proofs.Replayed.{over_all, over_break, status_of, stop_is_other, break_is_other, of_stop, of_end}
use Rattle.model_report.proofs.Replays.{said, run_of_within, run_after, runs_or_breaks}
use Rattle.model_report.specs.Answer.{answer, query_answer, task_report, verdict_report, certificate_report, is_over_standing}
use Rattle.model_report.specs.Causes.{AsksVerdict, ReadsAs, IsBadQuery, no_process, no_right, no_space}
use Rattle.model_report.specs.Checked.{Checked, Holds, IsChecked}
use Rattle.model_report.specs.Command.{Command, Replay, Audit, Check, Confirm, Drill, NoForm, command_of, query}
use Rattle.model_report.specs.Given.{StateGives, LogGives, FilesGive, CommandGives}
use Rattle.model_report.specs.Judged.{Judged}
use Rattle.model_report.specs.Query.{Query}
use Rattle.model_report.specs.Replay.{Report, limit_hit, after, stopped}
use Rattle.model_report.specs.Report.{command_report, drill_report, files_report, log_report, replay_of, shown, shows}
use Rattle.model_report.specs.Report as report
use Rattle.model_report.specs.Task.{Task, NoTask, ToJudge, ToCheck, ToConfirm}
use Rattle.model_report.specs.Told.{Told, TellsYes, IsVerdictOn}
use Rattle.model_report_laws.proofs.Answering.{run_fit, check_read}
use Rattle.model_report_laws.proofs.Judging.{verdict_told, told_once, checked_there, checked_once}
use Rattle.model_report_laws.specs.Laws.{JudgedIsGiven, ReportIsOne}
use Rattle.model_run.specs.Family.{family}
use Rattle.model_run.specs.Within.{RunWithin}
use Rattle.model_strace.specs.Logs.{log_reading}
use Rattle.model_text.proofs.Keeping.{start_keeps}
use Rattle.model_text.specs.Reading.{End, AtEnd, Stops, Reading, events_of}
use Rattle.model_text.specs.WorldText.{WorldText, Reads, Bad, Exceeds, world_text}

-- ---- what is given
-- where nothing is judged, anything will do
abbrev pub any : Judged
any = record { verdict = TellsYes []; checked = Holds }

-- a state gives what is asked in it
state_gives : (task : Task) (w : World) (s : State) → KeepsState s → (j : Judged) × StateGives task w s j
state_gives (ToJudge q) w s keeps = by (comes q w s) where
  by : Comes q w s → (j : Judged) × StateGives (ToJudge q) w s j
  by (bad is) = (any, λ p right asked. absurd (bad_asks_none q w s is p right asked))
  by (large is) = (any, λ p right asked. absurd (large_asks_none q w s is p right asked))
  by (asks p right asked) =
      let there : (x : Told) × IsVerdictOn w s (family s p.pid) right x = verdict_told w s (family s p.pid) right keeps in (
        record { verdict = there.0; checked = Holds },
        λ p' right' other.
            subst (λ (r : Right). IsVerdictOn w s (family s p'.pid) r there.0) (one_right q w s asked.asks other.asks)
            (subst (λ (o : Process). IsVerdictOn w s (family s o.pid) right there.0) (one_process q w s asked.asks other.asks) there.1),
      )
state_gives (ToCheck q text) w s keeps = by (comes q w s) where
  by_read : (p : Process) (right : Right) → AsksVerdict q w s p right → (read : Result (List BoxRow) CertFault)
      → certificate (length s.spaces) text ≡ read → (j : Judged) × StateGives (ToCheck q text) w s j
  by_read p right asked (Err why) is =
      (any, λ p' right' rows' other reads. let two : Err why ≡ Ok rows' = sym is ∙ reads.reads in absurd (cc))
  by_read p right asked (Ok rows) is =
      let there : (x : Checked) × IsChecked w s (family s p.pid) right rows x = checked_there w s (family s p.pid) right rows keeps in (
        record { verdict = TellsYes []; checked = there.0 },
        λ p' right' rows' other reads.
            let two : Ok rows ≡ Ok rows' = sym is ∙ reads.reads in
            let same : rows ≡ rows' = cc in
            subst (λ (l : List BoxRow). IsChecked w s (family s p'.pid) right' l there.0) same
            (subst (λ (r : Right). IsChecked w s (family s p'.pid) r rows there.0) (one_right q w s asked.asks other.asks)
            (subst (λ (o : Process). IsChecked w s (family s o.pid) right rows there.0) (one_process q w s asked.asks other.asks) there.1)),
      )

  by : Comes q w s → (j : Judged) × StateGives (ToCheck q text) w s j
  by (bad is) = (any, λ p right rows asked reads. absurd (bad_asks_none q w s is p right asked))
  by (large is) = (any, λ p right rows asked reads. absurd (large_asks_none q w s is p right asked))
  by (asks p right asked) = by_read p right asked (certificate (length s.spaces) text) refl
state_gives _ w s keeps = (any, tt)

-- so does a log that is read so
pub log_gives : (task : Task) (w : World) (reading : Reading) → KeepsWorld w → (j : Judged) × LogGives task w reading j
log_gives task w reading keeps =
    elim (runs_or_breaks w w.start reading.events) [
      | inl run ↦
          let es : List Event = events_of reading.events in
          let there : (j : Judged) × StateGives task w run.0 j = state_gives task w run.0 (run_fit w es run.0 keeps run.1).keeps in (
            there.0,
            λ s ending run'. subst (λ (t : State). StateGives task w t there.0)
                (sym (run_after w es w.start run.0 (run_of_within w w.start es run.0 run.1))
                ∙ run_after w es w.start s (run_of_within w w.start es s run')) there.1,
          )
      | inr breaks ↦ (
        any,
        λ s ending run.
            let broken : (replay_of w reading).status ≡ (said w breaks.state breaks.event breaks.why).status
            = status_of (replay_of w reading) _ (over_break w reading.events reading.ending breaks) in
            let accepted : (replay_of w reading).status ≡ status.Accepted
            = ap (λ (e : End). (replay_of w (record { events = reading.events; ending = e })).status) ending
            ∙ status_of (replay_of w (record { events = reading.events; ending = AtEnd })) _ (over_all w reading.events AtEnd s run) in
            absurd (break_is_other w breaks.state breaks.event breaks.why (sym broken ∙ accepted)),
      )
    ]

files_give : (task : Task) (world log : List ℕ) (text : WorldText) → world_text world ≡ text → (j : Judged) × FilesGive task world log j
files_give task world log (Bad table row why) is =
    (any, λ w size reads. let two : Bad table row why ≡ Reads w = sym is ∙ reads in absurd (cc))
files_give task world log (Exceeds l) is =
    (any, λ w size reads. let two : Exceeds l ≡ Reads w = sym is ∙ reads in absurd (cc))
files_give task world log (Reads w) is =
    let given : (j : Judged) × LogGives task w (log_reading w log) j = log_gives task w (log_reading w log) (start_keeps world w is) in (
      given.0,
      λ u size reads.
          let two : Reads w ≡ Reads u = sym is ∙ reads in
          let same : w ≡ u = cc in
          subst (λ (x : World). LogGives task x (log_reading x log) given.0) same given.1,
    )

-- so does a drill
drill_gives : (n : ℕ) → (j : Judged) × CommandGives (Drill n) (λ name. []) j
unfolding DrillStateKeeps
drill_gives n =
    let there : (x : Told) × IsVerdictOn drill_world (drilled n).state (family (drilled n).state (drilled n).root) drill_right x
    = verdict_told drill_world (drilled n).state (family (drilled n).state (drilled n).root) drill_right (drill_state_keeps n n).keeps in
    (record { verdict = there.0; checked = Holds }, there.1)

command_gives : (command : Command) (bytes : List ℕ → List ℕ) → (j : Judged) × CommandGives command bytes j
command_gives NoForm bytes = (any, tt)
command_gives (Drill n) bytes = drill_gives n
command_gives (Replay world log) bytes = files_give NoTask (bytes world) (bytes log) (world_text (bytes world)) refl
command_gives (Audit world log pid right) bytes = files_give (ToJudge (query pid right)) (bytes world) (bytes log) (world_text (bytes world)) refl
command_gives (Check world log pid right text) bytes =
    files_give (ToCheck (query pid right) (bytes text)) (bytes world) (bytes log) (world_text (bytes world)) refl
command_gives (Confirm world log pid right text) bytes =
    files_give (ToConfirm (query pid right) (bytes text)) (bytes world) (bytes log) (world_text (bytes world)) refl

pub judged_is_given : JudgedIsGiven
unfolding JudgedIsGiven
judged_is_given words bytes = command_gives (command_of words) bytes

-- ---- reports with what is given
module _ (j other : Judged) where
  -- an answer is one where the query is refused, or where the report is one for its family
  module _ (q : Query) (w : World) (s : State) (task : Task) where
    bad_once : IsBadQuery q w s → query_answer task j w s q ≡ query_answer task other w s q
    bad_once (no_process none) = of_no_process q w s task j none ∙ sym (of_no_process q w s task other none)
    bad_once (no_right p found none) = of_no_right q w s task j p found none ∙ sym (of_no_right q w s task other p found none)
    bad_once (no_space p right named none) =
        of_no_space q w s task j p right named (is_not s.spaces right (is_over_standing s.spaces right) refl none)
        ∙ sym (of_no_space q w s task other p right named (is_not s.spaces right (is_over_standing s.spaces right) refl none))

    query_once : ((p : Process) (right : Right) → AsksVerdict q w s p right
        → task_report task j w s (family s p.pid) right ≡ task_report task other w s (family s p.pid) right)
        → query_answer task j w s q ≡ query_answer task other w s q
    query_once same = by (comes q w s) where
      by : Comes q w s → query_answer task j w s q ≡ query_answer task other w s q
      by (bad is) = bad_once is
      by (large is) = of_larger q w s task j is ∙ sym (of_larger q w s task other is)
      by (asks p right asked) = of_asked q w s task j p right asked ∙ same p right asked ∙ sym (of_asked q w s task other p right asked)

  answer_once : (task : Task) (w : World) (s : State) → StateGives task w s j → StateGives task w s other → answer task j w s ≡ answer task other w s
  answer_once NoTask w s gives gives' = refl
  answer_once (ToJudge q) w s gives gives' = query_once q w s (ToJudge q) (λ p right asked.
      ap (λ (x : Told). verdict_report w s.spaces x)
      (told_once w s (family s p.pid) right j.verdict other.verdict (gives p right asked) (gives' p right asked)))
  answer_once (ToConfirm q text) w s gives gives' = query_once q w s (ToConfirm q text) (λ p right asked. refl)
  answer_once (ToCheck q text) w s gives gives' =
      query_once q w s (ToCheck q text) (λ p right asked. by_size p right asked (nat_lt (limit_number limit.Certificate) (length text)) refl)
    where
      by_read : (p : Process) (right : Right) → AsksVerdict q w s p right → (read : Result (List BoxRow) CertFault) → ReadsAs s text read
          → certificate_report w s.spaces j.checked read ≡ certificate_report w s.spaces other.checked read
      by_read p right asked (Err why) reads = refl
      by_read p right asked (Ok rows) reads =
          ap (λ (x : Checked). certificate_report w s.spaces x (Ok rows))
          (checked_once w s (family s p.pid) right rows j.checked other.checked (gives p right rows asked reads) (gives' p right rows asked reads))

      by_size : (p : Process) (right : Right) → AsksVerdict q w s p right → (over : Bool) → nat_lt (limit_number limit.Certificate) (length text) ≡ over
          → task_report (ToCheck q text) j w s (family s p.pid) right ≡ task_report (ToCheck q text) other w s (family s p.pid) right
      by_size p right asked true is =
          ap (λ (b : Bool). cond b (limit_hit limit.Certificate) (certificate_report w s.spaces j.checked (certificate (length s.spaces) text))) is
          ∙ sym (ap (λ (b : Bool). cond b (limit_hit limit.Certificate) (certificate_report w s.spaces other.checked (certificate (length s.spaces) text))) is)
      by_size p right asked false is =
          let reads : ReadsAs s text (certificate (length s.spaces) text)
          = record { size = ltb-false (limit_number limit.Certificate) (length text) is; reads = refl } in
          check_read q w s j text (family s p.pid) right (certificate (length s.spaces) text) reads
          ∙ by_read p right asked (certificate (length s.spaces) text) reads
          ∙ sym (check_read q w s other text (family s p.pid) right (certificate (length s.spaces) text) reads)

  pub one_log_report : (task : Task) (w : World) (reading : Reading) → LogGives task w reading j → LogGives task w reading other
      → log_report task j w reading ≡ log_report task other w reading
  one_log_report task w reading gives gives' =
      elim (runs_or_breaks w w.start reading.events) [
        | inl run ↦ by_run run.0 run.1 reading.ending refl
        | inr breaks ↦
            let is : (replay_of w reading).status ≡ (said w breaks.state breaks.event breaks.why).status
            = status_of (replay_of w reading) _ (over_break w reading.events reading.ending breaks) in
            same_stop (said w breaks.state breaks.event breaks.why).status is (break_is_other w breaks.state breaks.event breaks.why)
      ]
    where
      same_stop : (st : Status) → (replay_of w reading).status ≡ st → st ≢ status.Accepted
          → log_report task j w reading ≡ log_report task other w reading
      same_stop st is not = of_stop task j w reading st is not ∙ sym (of_stop task other w reading st is not)

      by_run : (s : State) → RunWithin w w.start (events_of reading.events) s → (ending : End) → reading.ending ≡ ending
          → log_report task j w reading ≡ log_report task other w reading
      by_run s run AtEnd is =
          let accepted : (replay_of w reading).status ≡ status.Accepted
          = ap (λ (e : End). (replay_of w (record { events = reading.events; ending = e })).status) is
          ∙ status_of (replay_of w (record { events = reading.events; ending = AtEnd })) _ (over_all w reading.events AtEnd s run) in
          of_end task j w reading s accepted run
          ∙ ap (λ (r : Report). after (shown (shows task) w reading).lines r) (answer_once task w s (gives s is run) (gives' s is run))
          ∙ sym (of_end task other w reading s accepted run)
      by_run s run (Stops stop) is =
          let stops : (replay_of w reading).status ≡ (stopped stop).status
          = ap (λ (e : End). (replay_of w (record { events = reading.events; ending = e })).status) is
          ∙ status_of (replay_of w (record { events = reading.events; ending = Stops stop })) _ (over_all w reading.events (Stops stop) s run) in
          same_stop (stopped stop).status stops (stop_is_other stop)

  one_by_world : (task : Task) (text : WorldText) (log : List ℕ)
      → ((w : World) → text ≡ Reads w → LogGives task w (log_reading w log) j)
      → ((w : World) → text ≡ Reads w → LogGives task w (log_reading w log) other)
      → report.by_world task j text log ≡ report.by_world task other text log
  one_by_world task (Reads w) log gives gives' = one_log_report task w (log_reading w log) (gives w refl) (gives' w refl)
  one_by_world task _ log gives gives' = refl

  one_files_report : (task : Task) (world log : List ℕ) → FilesGive task world log j → FilesGive task world log other
      → files_report task j world log ≡ files_report task other world log
  one_files_report task world log gives gives' = by_length (nat_lt (limit_number limit.World) (length world)) refl
    where
      by_length : (over : Bool) → nat_lt (limit_number limit.World) (length world) ≡ over
          → files_report task j world log ≡ files_report task other world log
      by_length true is =
          ap (λ (b : Bool). cond b (limit_hit limit.World) (report.by_world task j (world_text world) log)) is
          ∙ sym (ap (λ (b : Bool). cond b (limit_hit limit.World) (report.by_world task other (world_text world) log)) is)
      by_length false is =
          let size : length world ≤ limit_number limit.World = ltb-false (limit_number limit.World) (length world) is in
          ap (λ (b : Bool). cond b (limit_hit limit.World) (report.by_world task j (world_text world) log)) is
          ∙ one_by_world task (world_text world) log (λ w reads. gives w size reads) (λ w reads. gives' w size reads)
          ∙ sym (ap (λ (b : Bool). cond b (limit_hit limit.World) (report.by_world task other (world_text world) log)) is)

  one_command_report : (command : Command) (bytes : List ℕ → List ℕ) → CommandGives command bytes j → CommandGives command bytes other
      → command_report command bytes j ≡ command_report command bytes other
  one_command_report NoForm bytes gives gives' = refl
  one_command_report (Drill n) bytes gives gives' =
      ap (λ (x : Told). drill_report (drilled n) x)
      (told_once drill_world (drilled n).state (family (drilled n).state (drilled n).root) drill_right j.verdict other.verdict gives gives')
  one_command_report (Replay world log) bytes gives gives' = one_files_report NoTask (bytes world) (bytes log) gives gives'
  one_command_report (Audit world log pid right) bytes gives gives' =
      one_files_report (ToJudge (query pid right)) (bytes world) (bytes log) gives gives'
  one_command_report (Check world log pid right text) bytes gives gives' =
      one_files_report (ToCheck (query pid right) (bytes text)) (bytes world) (bytes log) gives gives'
  one_command_report (Confirm world log pid right text) bytes gives gives' =
      one_files_report (ToConfirm (query pid right) (bytes text)) (bytes world) (bytes log) gives gives'

pub report_is_one : ReportIsOne
unfolding ReportIsOne
report_is_one words bytes j other gives gives' = one_command_report j other (command_of words) bytes gives gives'

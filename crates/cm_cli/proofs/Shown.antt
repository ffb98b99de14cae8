-- The report of a log on its way: at the start, after the replay, and after what is asked.
use Rattle.std.proofs.Common.{◌≡◌, ◌≢◌, ℕ, Bool, true, false, List, [], ◌∷◌, ◌++◌, Option, None, Some, IfSome, Result, Err, refl, sym, ap, ◌∙◌}
use Rattle.std.proofs.Common.{append-nil, append_assoc}
use Rattle.std.proofs.lemmas.Result.{IfOk-weaker}
use Rattle.std.specs.Prelude.{IfOk, OnOk}
use Rattle.cm_base.specs.declared.status.Status.{Status}
use Rattle.cm_base.specs.declared.status.Status.TheVariants as answers
use Rattle.cm_cli.proofs.LogReport.{IsAnswered, answer_to, ends_there, is_answered, log_longer, shown_text, stopped_rest}
use Rattle.cm_cli.specs.BeforeFault.{HoldsShown}
use Rattle.cm_cli.specs.Claims.{AfterReading, ClaimStands}
use Rattle.cm_cli.specs.Put.{IsPut}
use Rattle.cm_cli.specs.Query.{shows_of, task_by, task_view}
use Rattle.cm_cli.specs.declared.query.ClaimKind.{ClaimKind}
use Rattle.cm_cli.specs.declared.query.ClaimKind.TheVariants as kind
use Rattle.cm_cli.specs.declared.query.Task as code
use Rattle.cm_cli.specs.declared.query.Task.TheVariants as task
use Rattle.cm_io.proofs.Written.{then_written_twice}
use Rattle.cm_io.specs.Shelf.{Files, bytes_at}
use Rattle.cm_io.specs.Sink.{then_written}
use Rattle.cm_replay.specs.Coming.{Sends, SendsAll, SendsMore}
use Rattle.cm_replay.specs.Shown.{shown_report, start_shown}
use Rattle.cm_replay.specs.Told.{TellsTaken, lines_report}
use Rattle.cm_replay.specs.declared.untold.Untold.{Untold}
use Rattle.cm_replay.specs.declared.untold.Untold.TheVariants as untold
use Rattle.cm_report.proofs.Waiting.{front_of_longer, front_on, more_waits, sent_on, waits_as, written_nothing}
use Rattle.cm_report.specs.Sent.{IsFront, IsSent}
use Rattle.model_cred.specs.Process.{State}
use Rattle.model_cred.specs.World.{World}
use Rattle.model_report.proofs.Replayed.{shown_status}
use Rattle.model_report.specs.Answer.{answer}
use Rattle.model_report.specs.Given.{LogGives, StateGives}
use Rattle.model_report.specs.Judged.{Judged}
use Rattle.model_report.specs.Query.{Query}
use Rattle.model_report.specs.Replay.{Report, text_of}
use Rattle.model_report.specs.Report.{log_report, replay_of, shown, shows}
use Rattle.model_report.specs.Task.{Task}
use Rattle.model_run.specs.Within.{RunWithin}
use Rattle.model_text.specs.Reading.{AtEnd, Reading, events_of}

-- whether a task's replay is shown
shows_by : (k : ClaimKind) (q : Query) (text : List ℕ) → shows (task_by k q text) ≡ false
shows_by kind.Certificate q text = refl
shows_by kind.Run q text = refl

pub shows_is : (t : code.Task) (bytes : List ℕ → List ℕ) → shows (task_view t bytes) ≡ shows_of t
shows_is task.Nothing bytes = refl
shows_is (task.Judge q) bytes = refl
shows_is (task.Claims claim) bytes = shows_by claim.kind _ (bytes claim.file.now)

-- before a claim it isn't
pub claim_silent : (t : code.Task) (w : World) (s : State) → ClaimStands t w s → shows_of t ≡ false
claim_silent task.Nothing w s stands = absurd stands
claim_silent (task.Judge q) w s stands = absurd stands
claim_silent (task.Claims claim) w s stands = refl

-- ---- the replay
-- its status is that of the replay
pub from_status : (b : Bool) (w : World) (reading : Reading)
    → (shown b w reading).status ≡ (shown_report b (replay_of w reading)).status
from_status true w reading = refl
from_status false w reading = refl

-- a front of the lines at the start is a front of the replay
pub front_of_start : (b : Bool) (w : World) (reading : Reading) {a c : Option (List ℕ)}
    → IsFront a c (text_of (start_shown b w))
    → IsFront a c (text_of (shown b w reading).lines)
front_of_start b w reading front =
    front_of_longer (text_of (start_shown b w)) (text_of (shown_report b (replay_of w reading)).lines)
    (text_of (shown b w reading).lines)
    (shown_text b w reading) front

-- ---- the whole report
module _ (t : Task) (j : Judged) (w : World) (reading : Reading) (b : Bool) (is : shows t ≡ b) where
  shown_so : text_of (shown (shows t) w reading).lines ≡ text_of (shown b w reading).lines
  shown_so = ap (λ (c : Bool). text_of (shown c w reading).lines) is

  -- a front of the replay is a front of the report
  pub front_of_replay : {a c : Option (List ℕ)} → IsFront a c (text_of (shown b w reading).lines)
      → IsFront a c (text_of (log_report t j w reading).lines)
  front_of_replay front =
      let longer = log_longer t j w reading in
      front_of_longer (text_of (shown b w reading).lines) longer.0 (text_of (log_report t j w reading).lines)
      (longer.1 ∙ ap (λ (x : List ℕ). x ++ longer.0) shown_so) front

  -- the report, by what comes after the replay
  module _ (st : Status) (s : State) (ends : (shown b w reading).status ≡ st)
      (reached : st ≡ answers.Accepted → RunWithin w w.start (events_of reading.events) s) where
    answered : IsAnswered t j w reading st s
    answered = is_answered t j w reading st s (sym (shown_status b w reading) ∙ ends) reached

    pub whole_status : (log_report t j w reading).status ≡ (answer_to t j w st s).status
    whole_status = answered.status

    pub whole_text : text_of (log_report t j w reading).lines
        ≡ text_of (shown b w reading).lines ++ text_of (answer_to t j w st s).lines
    whole_text = answered.text ∙ ap (λ (x : List ℕ). x ++ text_of (answer_to t j w st s).lines) shown_so

    -- where it isn't accepted, that is all
    pub stopped_status : st ≢ answers.Accepted → (log_report t j w reading).status ≡ st
    stopped_status other = whole_status ∙ ap (λ (r : Report). r.status) (stopped_rest t j w st s other)

    pub stopped_text : st ≢ answers.Accepted
        → text_of (log_report t j w reading).lines ≡ text_of (shown b w reading).lines
    stopped_text other =
        whole_text ∙ ap (λ (r : Report). text_of (shown b w reading).lines ++ text_of r.lines)
        (stopped_rest t j w st s other)
        ∙ append-nil (text_of (shown b w reading).lines)

-- ---- what is told of it, over the files that the shelf holds
-- The replay of the log is accepted, and its events lead to this state.
pub record EndsIn (w : World) (reading : Reading) (b : Bool) (s : State) : Type 0 where
  pub status : (shown b w reading).status ≡ answers.Accepted
  pub run : RunWithin w w.start (events_of reading.events) s

module _ (files : Files) (t : code.Task) (w : World) (reading : Reading) (b : Bool) (is : b ≡ shows_of t) where
  so : shows (task_view t (bytes_at files)) ≡ b
  so = shows_is t (bytes_at files) ∙ sym is

  -- a front of the replay is a front of the report
  pub front_told : {a c : Option (List ℕ)} → IsFront a c (text_of (shown b w reading).lines) → (j : Judged)
      → IsFront a c (text_of (log_report (task_view t (bytes_at files)) j w reading).lines)
  front_told front j = front_of_replay (task_view t (bytes_at files)) j w reading b so front

  -- where it is accepted, and then what is asked is answered
  module _ (s : State) (ends : EndsIn w reading b s) where
    over : reading.ending ≡ AtEnd
    over = ends_there w reading s ends.run (sym (shown_status b w reading) ∙ ends.status)

    -- the state after an accepted log, of which this holds
    pub holds_after : {Holds : State → Type 0} → Holds s → AfterReading w reading Holds
    holds_after {Holds} holds = record { state = s; ends = over; run = ends.run; holds = holds }

    module _ (res : Result Status Untold) (old new : List ℕ)
        (put : (j : Judged) → StateGives (task_view t (bytes_at files)) w s j
        → IfOk res (λ st. IsPut (answer (task_view t (bytes_at files)) j w s) old new st)) where
      pub answered_status : (j : Judged) → LogGives (task_view t (bytes_at files)) w reading j
          → IfOk res (λ st. (log_report (task_view t (bytes_at files)) j w reading).status ≡ st)
      answered_status j gives =
          IfOk-weaker res (λ st. IsPut (answer (task_view t (bytes_at files)) j w s) old new st)
          (λ st. (log_report (task_view t (bytes_at files)) j w reading).status ≡ st)
          (λ st here. whole_status (task_view t (bytes_at files)) j w reading b so answers.Accepted s ends.status
          (λ _. ends.run) ∙ sym here.status)
          (put j (gives s over ends.run))

      pub answered_sent : (a c : Option (List ℕ)) → IsSent a c old (text_of (shown b w reading).lines)
          → (j : Judged) → LogGives (task_view t (bytes_at files)) w reading j
          → OnOk res (IsSent a c new (text_of (log_report (task_view t (bytes_at files)) j w reading).lines))
      answered_sent a c sent j gives =
          IfOk-weaker res (λ st. IsPut (answer (task_view t (bytes_at files)) j w s) old new st)
          (λ st. IsSent a c new (text_of (log_report (task_view t (bytes_at files)) j w reading).lines))
          (λ st here.
          rw (whole_text (task_view t (bytes_at files)) j w reading b so answers.Accepted s ends.status (λ _. ends.run))
          (waits_as (old ++ text_of (answer (task_view t (bytes_at files)) j w s).lines) new (sym here.text)
          (more_waits sent (text_of (answer (task_view t (bytes_at files)) j w s).lines))))
          (put j (gives s over ends.run))

  -- where it isn't, with whatever state
  module _ (s : State) (st : Status) (ends : (shown b w reading).status ≡ st) (other : st ≢ answers.Accepted) where
    pub ended_status : (j : Judged) → (log_report (task_view t (bytes_at files)) j w reading).status ≡ st
    ended_status j =
        stopped_status (task_view t (bytes_at files)) j w reading b so st s ends (λ accepted. absurd (other accepted))
        other

    pub ended_sent : (a c : Option (List ℕ)) (waits : List ℕ) → IsSent a c waits (text_of (shown b w reading).lines)
        → (j : Judged) → IsSent a c waits (text_of (log_report (task_view t (bytes_at files)) j w reading).lines)
    ended_sent a c waits sent j =
        rw (stopped_text (task_view t (bytes_at files)) j w reading b so st s ends (λ accepted. absurd (other accepted))
        other) sent

-- ---- before a fault of reading
-- nothing of an empty text is written, and nothing waits
module _ (a c : Option (List ℕ)) (waits whole : List ℕ) (sent : IsSent a c waits whole) (empty : whole ≡ []) where
  no_front : (front rest : List ℕ) → [] ≡ front ++ rest → front ≡ []
  no_front [] rest is = refl
  no_front (x ∷ front) rest is = absurd (cc)

  front_none : sent.front ≡ []
  front_none = no_front sent.front waits (sym empty ∙ sent.parts)

  none_written : c ≡ a
  none_written = sent.written ∙ ap (then_written a) front_none ∙ written_nothing a

  none_left : waits ≡ []
  none_left = sym (sym empty ∙ sent.parts ∙ ap (λ (x : List ℕ). x ++ waits) front_none)

no_start : (b : Bool) (w : World) → b ≡ false → text_of (start_shown b w) ≡ []
no_start true w is = absurd (cc)
no_start false w is = refl

-- The lines at the start were sent, or wait.
module _ (b : Bool) (w : World) (a c d : Option (List ℕ)) (waits : List ℕ)
    (started : IsSent a c waits (text_of (start_shown b w))) where
  -- where nothing more comes of a replay that isn't shown, nothing is written
  pub stays_quiet : (waits' : List ℕ) → SendsMore b c d waits waits' → b ≡ false → d ≡ a
  stays_quiet waits' sends hidden =
      let empty = no_start b w hidden in
      let none = none_left a c waits (text_of (start_shown b w)) started empty in
      none_written c d waits' (waits ++ sends.more) sends.sent (sends.unshown hidden ∙ none)
      ∙ none_written a c waits (text_of (start_shown b w)) started empty

  all_holds : SendsAll b c d waits → HoldsShown b w a d
  all_holds sends = record {
    more = sends.more;
    holds =
        sends.sent
        ∙ ap (λ (x : Option (List ℕ)). then_written x (waits ++ sends.more)) started.written
        ∙ then_written_twice a started.front (waits ++ sends.more)
        ∙ ap (then_written a) (sym (append_assoc started.front waits sends.more)
        ∙ ap (λ (x : List ℕ). x ++ sends.more) (sym started.parts));
    unshown = λ hidden.
        let empty = no_start b w hidden in
        let none = none_left a c waits (text_of (start_shown b w)) started empty in
        sends.sent ∙ ap (then_written c) (sends.unshown hidden ∙ none) ∙ written_nothing c
        ∙ none_written a c waits (text_of (start_shown b w)) started empty;
  }

  -- what the replay sends, or a front of it, comes after them
  pub sent_after : (reading : Reading) (waits' : List ℕ)
      → IsSent c d waits' (waits ++ text_of (shown_report b (replay_of w reading)).lines)
      → IsSent a d waits' (text_of (shown b w reading).lines)
  sent_after reading waits' sent = rw (shown_text b w reading) (sent_on (more_waits started _) sent)

  pub front_after : (reading : Reading) → IsFront c d (waits ++ text_of (shown_report b (replay_of w reading)).lines)
      → IsFront a d (text_of (shown b w reading).lines)
  front_after reading front = rw (shown_text b w reading) (front_on (more_waits started _) front)

  -- at a fault of the log's they are written
  pub fault_holds : (why : Untold) (waits' : List ℕ) → Sends b c d waits waits' (Err why) → why ≡ untold.ReadFault
      → HoldsShown b w a d
  fault_holds untold.ReadFault waits' sends is = all_holds sends
  fault_holds untold.WriteFault waits' sends is = absurd (cc)
  fault_holds untold.NoMemory waits' sends is = absurd (cc)

-- nothing is written of a replay that isn't shown
pub quiet_holds : (b : Bool) (w : World) (a c : Option (List ℕ)) → b ≡ false → c ≡ a → HoldsShown b w a c
quiet_holds true w a c hidden same = absurd (cc)
quiet_holds false w a c hidden same = record {
  more = [];
  holds = same ∙ sym (written_nothing a);
  unshown = λ _. same;
}

-- what is told of lines, after the lines at the start
pub tells_after : (held : Option Files) (b : Bool) (w : World) (name : List ℕ) (taken taken' : ℕ) (a c d : Option (List ℕ)) (waits : List ℕ)
    → IsSent a c waits (text_of (start_shown b w))
    → IfSome held (λ files. TellsTaken b (lines_report b w) (bytes_at files name) taken taken' waits c d)
    → IfSome held (λ files. TellsTaken b (lines_report b w) (bytes_at files name) taken taken' (text_of (start_shown b w)) a d)
tells_after None b w name taken taken' a c d waits started tells = tt
tells_after (Some files) b w name taken taken' a c d waits started tells = record {
  seen = tells.seen;
  all = tells.all;
  text = tells.text;
  tells = tells.tells;
  holds = tells.holds
      ∙ ap (λ (t : Option (List ℕ)). then_written t (waits ++ tells.text)) started.written
      ∙ then_written_twice a started.front (waits ++ tells.text)
      ∙ ap (then_written a) (sym (append_assoc started.front waits tells.text)
      ∙ ap (λ (t : List ℕ). t ++ tells.text) (sym started.parts));
}

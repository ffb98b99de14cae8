-- The report of a log: the replay, shown or not, and then what is asked.
use Rattle.std.proofs.Common.{◌≡◌, ◌≢◌, ◌≤◌, ℕ, List, [], ◌++◌, append-nil, ◌⊎◌, inl, inr, Bool, true, false, length}
use Rattle.std.proofs.Common.{subst, refl, sym, ap, ◌∙◌, arith}
use Rattle.cm_base.specs.declared.status.Status.{Status}
use Rattle.cm_base.specs.declared.status.Status.TheVariants as answers
use Rattle.cm_replay.proofs.Shown.{same_status}
use Rattle.cm_replay.specs.Shown.{shown_report, start_shown}
use Rattle.model_cred.specs.Process.{State}
use Rattle.model_cred.specs.World.{World, KeepsWorld}
use Rattle.model_run.specs.Never.{MountsStand}
use Rattle.model_report.proofs.Replayed.{of_end, of_stop, over_all, stop_is_other, status_of}
use Rattle.model_report.proofs.Texts.{text_of_append}
use Rattle.model_report.specs.Answer.{answer}
use Rattle.model_report.specs.Judged.{Judged}
use Rattle.model_report.specs.Replay.{Report, after, state_after, stopped, text_of}
use Rattle.model_report.specs.Report.{log_report, replay_of, shown, shows, go_on}
use Rattle.model_report.specs.Task.{Task}
use Rattle.model_run.specs.Within.{RunWithin}
use Rattle.model_text.specs.Reading.{End, AtEnd, Stops, Reading, events_of}

-- what comes after the replay of a log that ends so, in the state that it leads to: the status, and more lines
abbrev pub answer_to : Task → Judged → World → Status → State → Report
answer_to task j w answers.Accepted s = answer task j w s
answer_to task j w st s = record { status = st; lines = [] }

-- ---- the replay
-- the lines at the start, where it is shown, and then it
pub shown_is : (b : Bool) (w : World) (reading : Reading)
    → shown b w reading ≡ after (start_shown b w) (shown_report b (replay_of w reading))
shown_is true w reading = refl
shown_is false w reading = refl

pub shown_text : (b : Bool) (w : World) (reading : Reading)
    → text_of (shown b w reading).lines ≡ text_of (start_shown b w) ++ text_of
    (shown_report b (replay_of w reading)).lines
shown_text b w reading =
    ap (λ (r : Report). text_of r.lines) (shown_is b w reading)
    ∙ text_of_append (start_shown b w) (shown_report b (replay_of w reading)).lines

-- ---- what comes after it
-- What is reported is the replay, and then what comes after it in the state that an accepted log leads to.
pub record IsAnswered (task : Task) (j : Judged) (w : World) (reading : Reading) (st : Status)
    (s : State) : Type 0 where
  pub status : (log_report task j w reading).status ≡ (answer_to task j w st s).status
  pub text : text_of (log_report task j w reading).lines
      ≡ text_of (shown (shows task) w reading).lines ++ text_of (answer_to task j w st s).lines

pub stopped_rest : (task : Task) (j : Judged) (w : World) (st : Status) (s : State) → st ≢ answers.Accepted
    → answer_to task j w st s ≡ record { status = st; lines = [] }
stopped_rest task j w answers.Accepted s other = absurd (other refl)
stopped_rest task j w _ s other = refl

accepted_or_not : (st : Status) → (st ≡ answers.Accepted) ⊎ (st ≢ answers.Accepted)
accepted_or_not answers.Accepted = inl refl
accepted_or_not _ = inr (λ e. cc)

module _ (task : Task) (j : Judged) (w : World) (reading : Reading) where
  replay : Report
  replay = shown (shows task) w reading

  accepted_answer : (s : State) → (replay_of w reading).status ≡ answers.Accepted
      → RunWithin w w.start (events_of reading.events) s
      → IsAnswered task j w reading answers.Accepted s
  accepted_answer s is run =
      let same : log_report task j w reading ≡ after (shown (shows task) w reading).lines
      (answer task j w s) = of_end task j w reading s is run in
      record {
        status = ap (λ (r : Report). r.status) same;
        text = ap (λ (r : Report). text_of r.lines) same
            ∙ text_of_append (shown (shows task) w reading).lines (answer task j w s).lines;
      }

  stopped_answer : (st : Status) (s : State) → (replay_of w reading).status ≡ st → st ≢ answers.Accepted
      → IsAnswered task j w reading st s
  stopped_answer st s is other =
      let same : log_report task j w reading ≡ shown (shows task) w reading = of_stop task j w reading st is other in
      let rest : answer_to task j w st s ≡ record { status = st; lines = [] } = stopped_rest task j w st s other in
      record {
        status =
            ap (λ (r : Report). r.status) same
            ∙ status_of (shown (shows task) w reading) _ (shown_is (shows task) w reading)
            ∙ same_status (shows task) (replay_of w reading) ∙ is ∙ sym (ap (λ (r : Report). r.status) rest);
        text =
            ap (λ (r : Report). text_of r.lines) same ∙ sym (append-nil (text_of (shown (shows task) w reading).lines))
            ∙ ap (λ (r : Report). text_of (shown (shows task) w reading).lines ++ text_of r.lines) (sym rest);
      }

  pub is_answered : (st : Status) (s : State) → (replay_of w reading).status ≡ st
      → (st ≡ answers.Accepted → RunWithin w w.start (events_of reading.events) s) → IsAnswered task j w reading st s
  is_answered st s is reached =
      elim (accepted_or_not st) [
        | inl accepted ↦
            subst (λ (x : Status). IsAnswered task j w reading x s) (sym accepted)
            (accepted_answer s (is ∙ accepted) (reached accepted))
        | inr other ↦ stopped_answer st s is other
      ]

  goes_longer : (st : Status) (r next : Report) → (more : List ℕ)
      × (text_of (go_on st r next).lines ≡ text_of r.lines ++ more)
  goes_longer answers.Accepted r next = (text_of next.lines, text_of_append r.lines next.lines)
  goes_longer _ r next = ([], sym (append-nil (text_of r.lines)))

  -- its text begins with that of the replay
  pub log_longer : (longer : List ℕ) × (text_of (log_report task j w reading).lines ≡ text_of
      (shown (shows task) w reading).lines ++ longer)
  log_longer =
      goes_longer (shown (shows task) w reading).status (shown (shows task) w reading)
      (answer task j w (state_after w w.start (events_of reading.events)))

-- ---- the state after an accepted log
-- an accepted log is read to its end
pub ends_there : (w : World) (reading : Reading) (s : State) → RunWithin w w.start (events_of reading.events) s
    → (replay_of w reading).status ≡ answers.Accepted → reading.ending ≡ AtEnd
ends_there w reading s run accepted = by reading.ending refl
  where
    by : (ending : End) → reading.ending ≡ ending → reading.ending ≡ AtEnd
    by AtEnd is = is
    by (Stops stop) is =
        let stops : (replay_of w reading).status ≡ (stopped stop).status
        = ap (λ (e : End). (replay_of w (record { events = reading.events; ending = e })).status) is
        ∙ ap (λ (r : Report). r.status) (over_all w reading.events (Stops stop) s run) in
        absurd (stop_is_other stop (sym stops ∙ accepted))

-- the space of each mount stands where no space went
pub mounts_there : (w : World) (s : State) → KeepsWorld w → length w.start.spaces ≤ length s.spaces → MountsStand w s
mounts_there w s keeps more = λ k m low.
    omega (arith, keeps.mounts k m low, more)

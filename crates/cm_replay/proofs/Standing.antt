-- How a replay follows a log: an event, an end, and one thing after another.
use Rattle.std.proofs.Common.{◌≡◌, ◌∙◌, ◌≤◌, ℕ, ◌+◌, List, [], ◌∷◌, ◌++◌, length}
use Rattle.std.proofs.Common.{false, Option, Ok, refl, sym, ap, subst, append-nil, arith}
use Rattle.cm_base.specs.declared.status.Status.{Status}
use Rattle.cm_replay.proofs.Events.{ends_here, goes_on, next_waits, passed_lines, run_on}
use Rattle.cm_replay.proofs.Ready.{event_spaces}
use Rattle.cm_replay.proofs.Shown.{no_step_lines, same_status}
use Rattle.cm_replay.specs.Following.{EndsAs, Follows, GoesOn, IsCutOff, Outgoing}
use Rattle.cm_log.specs.Left.{told_then}
use Rattle.cm_replay.specs.Replay.{report_from, event_lines, shown_lines, shown_report}
use Rattle.cm_replay.specs.Replay.{told_lines, EndsBy, EndsWith, IsTurn}
use Rattle.cm_replay.specs.declared.replay.Replay.{Replay}
use Rattle.cm_replay.specs.declared.replay.Turn.{Turn}
use Rattle.cm_replay.specs.declared.replay.Turn.TheVariants as turn
use Rattle.cm_report.proofs.Waiting.{all_waits, front_of_more, front_on, more_waits, sent_on, waits_as}
use Rattle.cm_report.specs.Sent.{IsFront, IsSent}
use Rattle.cm_strace.specs.Answers.{stop_is}
use Rattle.cm_strace.specs.declared.stage.Stage.{Stage}
use Rattle.cm_strace.specs.declared.stage.Stage.TheVariants as stage
use Rattle.model_cred.specs.Made.{spaces_made}
use Rattle.model_cred.specs.World.{World}
use Rattle.model_report.specs.Replay.{Report, ReportLine, text_of, by_end, step_lines}
use Rattle.model_run.specs.Step.{outcome}
use Rattle.model_text.specs.Reading.{Placed, End, AtEnd, Stops, Reading, ends_at, reads_on}

-- ---- one thing after another
-- nothing is next
pub stays : (w : World) (at : Replay) (o : Outgoing) (reading rest : Reading) → reading ≡ rest → GoesOn w at at o o reading rest
stays w at o reading rest is = subst (λ (r : Reading). GoesOn w at at o o r rest) (sym is) (record {
  status = refl;
  sent = all_waits o.written (o.waits ++ text_of (report_from w at rest).lines);
  reached = λ s run. run;
  shows = refl;
  quiet = λ _. all_waits o.written o.waits;
  spaces = omega arith;
})

pub goes_then : {w : World} {from mid to : Replay} {old now new : Outgoing} {reading between rest : Reading}
    → GoesOn w from mid old now reading between → GoesOn w mid to now new between rest → GoesOn w from to old new reading rest
goes_then a b = record {
  status = b.status ∙ a.status;
  sent = sent_on a.sent b.sent;
  reached = λ s run. a.reached s (b.reached s run);
  shows = b.shows ∙ a.shows;
  quiet = λ none. sent_on (a.quiet none) (b.quiet (a.shows ∙ none));
  spaces = let first = a.spaces in let second = b.spaces in omega (arith, first, second);
}

pub ends_then : {w : World} {from mid to : Replay} {old now new : Outgoing} {st : Status} {reading between : Reading}
    → GoesOn w from mid old now reading between → EndsAs w mid to now new st between → EndsAs w from to old new st reading
ends_then {w} {from} {mid} {to} a b = record {
  status = sym a.status ∙ b.status;
  sent = sent_on a.sent b.sent;
  reached = λ is. a.reached to.machine.state (b.reached is);
}

pub cut_then : (w : World) (from mid : Replay) (old now new : Outgoing) (reading between : Reading)
    → GoesOn w from mid old now reading between → IsCutOff w mid now new between → IsCutOff w from old new reading
cut_then w from mid old now new reading between a b = front_on a.sent b

-- nothing of it is sent
pub none_sent : (written : Option (List ℕ)) (whole : List ℕ) → IsFront written written whole
none_sent written whole = (whole, all_waits written whole)

-- ---- an event
-- An event with which the replay goes on, and what it leaves.
pub record Goes_on (w : World) (from to : Replay) (e : Placed) (text text' : List ℕ) : Type 0 where
  pub turn : IsTurn w e turn.Goes (outcome w from.machine.state e.event) to.machine.state
  pub events : to.events ≡ from.events + 1
  pub shows : to.shows ≡ from.shows
  pub lines : text' ≡ text ++ text_of (event_lines from.shows w e (outcome w from.machine.state e.event))

-- what waits then is what is left of the report
whole_waits : (w : World) (from to : Replay) (reading rest : Reading) (e : Placed) (old : Outgoing) (text : List ℕ) → reading ≡ reads_on e rest
    → Goes_on w from to e old.waits text
    → IsSent old.written old.written (text ++ text_of (report_from w to rest).lines) (old.waits ++ text_of (report_from w from reading).lines)
whole_waits w from to reading rest e old text is goes =
    waits_as _ _ (next_waits w from to reading rest e is goes.turn goes.events goes.shows old.waits text goes.lines)
    (all_waits old.written (old.waits ++ text_of (report_from w from reading).lines))

-- the event, after which what waits was sent, or waits on
pub event_goes : (w : World) (from to : Replay) (reading rest : Reading) (e : Placed) (old : Outgoing) (text : List ℕ) (new : Outgoing)
    → reading ≡ reads_on e rest → Goes_on w from to e old.waits text → IsSent old.written new.written new.waits text
    → GoesOn w from to old new reading rest
event_goes w from to reading rest e old text new is goes sent = record {
  status = sym (ap (λ (r : Report). r.status) (goes_on w from to reading rest e is goes.turn goes.events goes.shows));
  sent = sent_on (whole_waits w from to reading rest e old text is goes) (more_waits sent (text_of (report_from w to rest).lines));
  reached = λ s run. run_on w from to reading rest e is goes.turn s run;
  shows = goes.shows;
  quiet = λ none. subst (λ (t : List ℕ). IsSent old.written new.written new.waits t) (goes.lines ∙ nothing_put none) sent;
  spaces =
      let more : length from.machine.state.spaces + spaces_made (e.event ∷ []) ≤ length to.machine.state.spaces
      = event_spaces w from to e goes.turn in
      omega (arith, more);
}
  where
    -- a step has no lines where the replay isn't shown
    nothing_put : from.shows ≡ false → old.waits ++ text_of (event_lines from.shows w e (outcome w from.machine.state e.event)) ≡ old.waits
    nothing_put none =
        let lines : told_lines w e (outcome w from.machine.state e.event) ≡ step_lines w to.machine.state e
        = ap (told_lines w e) goes.turn.0 ∙ passed_lines w e to.machine.state goes.turn.1 in
        ap (λ (ls : List ReportLine). old.waits ++ text_of (shown_lines from.shows ls)) lines
        ∙ ap (λ (ls : List ReportLine). old.waits ++ text_of ls) (no_step_lines w to.machine.state e from.shows none)
        ∙ append-nil old.waits

-- the event, after which sending failed
pub event_cut : (w : World) (from to : Replay) (reading rest : Reading) (e : Placed) (old : Outgoing) (text : List ℕ) (new : Outgoing)
    → reading ≡ reads_on e rest → Goes_on w from to e old.waits text → IsFront old.written new.written text → IsCutOff w from old new reading
event_cut w from to reading rest e old text new is goes front =
    front_on (whole_waits w from to reading rest e old text is goes) (front_of_more front (text_of (report_from w to rest).lines))

-- the event with which it ends
pub event_ends : (w : World) (from to : Replay) (reading rest : Reading) (e : Placed) (old : Outgoing) (text : List ℕ) (st : Status)
    → reading ≡ reads_on e rest → EndsWith w e st (outcome w from.machine.state e.event)
    → text ≡ old.waits ++ text_of (event_lines from.shows w e (outcome w from.machine.state e.event))
    → EndsAs w from to old (record { written = old.written; waits = text }) st reading
event_ends w from to reading rest e old text st is ends lines =
    let here = ends_here w from to reading rest e is st ends in
    record {
      status = ap (λ (r : Report). r.status) here;
      sent = waits_as _ _ (ap (λ (r : Report). old.waits ++ text_of r.lines) here ∙ sym lines)
          (all_waits old.written (old.waits ++ text_of (report_from w from reading).lines));
      reached = λ accepted. absurd (ends.other accepted);
    }

-- ---- an end

-- the reading ends so
pub reading_ends : (w : World) (from : Replay) (reading : Reading) (ending : End) (old : Outgoing) (text : List ℕ) (st : Status)
    → reading ≡ ends_at ending → st ≡ (by_end from.events ending).status
    → text ≡ old.waits ++ text_of (shown_report from.shows (by_end from.events ending)).lines
    → EndsAs w from from old (record { written = old.written; waits = text }) st reading
reading_ends w from reading ending old text st is status lines =
    let ends : EndsAs w from from old (record { written = old.written; waits = text }) st (ends_at ending) = record {
      status = same_status from.shows (by_end from.events ending) ∙ sym status;
      sent = waits_as _ _ (sym lines) (all_waits old.written (old.waits ++ text_of (shown_report from.shows (by_end from.events ending)).lines));
      reached = λ accepted. refl;
    } in
    subst (λ (r : Reading). EndsAs w from from old (record { written = old.written; waits = text }) st r) (sym is) ends

-- ---- what a line told
-- after all its events
pub told_ends : (w : World) (from to : Replay) (old now : Outgoing) (told : List Placed) (at : Stage) (answer : Turn)
    (text : List ℕ) (later : Reading)
    → GoesOn w from to old now (told_then told at later) (told_then [] at later) → EndsBy to at answer now.waits text
    → Follows w from to old (record { written = now.written; waits = text }) (Ok answer) (told_then told at later) later
told_ends w from to old now told stage.Going answer text later goes ends =
    rw (ends.0, ends.1) goes
told_ends w from to old now told (stage.Stopped stop) answer text later goes ends =
    rw ends.status (ends_then goes
    (reading_ends w to (told_then [] (stage.Stopped stop) later) (Stops (stop_is stop)) now text _ refl refl ends.text))
told_ends w from to old now told stage.Finished answer text later goes ends =
    rw ends.status (ends_then goes
    (reading_ends w to (told_then [] stage.Finished later) AtEnd now text _ refl refl ends.text))

-- it goes on where the reading does
pub goes_by : (replay : Replay) (at : Stage) (text text' : List ℕ) → EndsBy replay at turn.Goes text text'
    → at ≡ stage.Going
goes_by replay stage.Going text text' ends = refl
goes_by replay _ text text' ends = let is = ends.status in cc

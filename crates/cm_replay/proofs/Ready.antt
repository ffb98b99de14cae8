-- What an event leaves of a replay and a log that stand between two lines.
use Rattle.std.proofs.Common.{◌≡◌, ◌≤◌, ℕ, ◌+◌, List, [], ◌∷◌, length, cond, refl, arith}
use Rattle.std.proofs.lemmas.List.Sums.{sum_by-cons}
use Rattle.cm_credentials.specs.Kept.{Keeps}
use Rattle.cm_log.proofs.Known.{knows_more}
use Rattle.cm_log.specs.Counts.{Counts, KnowsWithin, events_due, lines_read}
use Rattle.cm_log.specs.declared.log.Log.{Log}
use Rattle.cm_replay.specs.Following.{Advances, Took}
use Rattle.cm_replay.specs.Replay.{IsTurn}
use Rattle.cm_replay.specs.declared.replay.Replay.{Replay}
use Rattle.cm_replay.specs.declared.replay.Turn.TheVariants as turn
use Rattle.model_cred.specs.Call.{Event}
use Rattle.model_cred.specs.Made.{makes_space, spaces_made}
use Rattle.model_cred.specs.World.{World}
use Rattle.model_laws.proofs.MadeSpaces.{steps_make_spaces}
use Rattle.model_laws.specs.Steps.{StepsMakeSpaces}
use Rattle.model_report.specs.Replay.{IsWithin}
use Rattle.model_run.specs.Step.{outcome}
use Rattle.model_text.specs.Reading.{Placed, events_of}

-- an event's state has the user namespaces that it makes
pub event_spaces : (w : World) (from to : Replay) (e : Placed) → IsTurn w e turn.Goes (outcome w from.machine.state e.event) to.machine.state
    → length from.machine.state.spaces + spaces_made (e.event ∷ []) ≤ length to.machine.state.spaces
unfolding StepsMakeSpaces
event_spaces w from to e goes =
    let spaces : length to.machine.state.spaces ≡ length from.machine.state.spaces + spaces_made (e.event ∷ []) =
    steps_make_spaces w from.machine.state e.event to.machine.state goes.0 in
    omega (arith, spaces)

-- an event was taken
pub event_took : (w : World) (from to : Replay) (e : Placed) → IsTurn w e turn.Goes (outcome w from.machine.state e.event) to.machine.state
    → to.events ≡ from.events + 1 → Keeps w.names to.kept → Took w (e ∷ []) from to
event_took w from to e goes counted keeps =
    record { keeps = keeps; events = counted; within = goes.1; spaces = event_spaces w from to e goes }

-- After a line that told these events, which were taken, they are between two lines again.
pub took_advances : (w : World) (events : List Placed) (from to : Replay) (old new : Log) → Took w events from to
    → Counts 1 events old new → KnowsWithin (length from.machine.state.spaces) old → Advances w 1 1 from to old new
took_advances w events from to old new took counts knows =
    let n : ℕ = length from.machine.state.spaces in
    let due : length events + events_due new ≤ events_due old + 1 = counts.due in
    let lines : lines_read new ≤ lines_read old + 1 = counts.lines in
    let known : KnowsWithin (n + spaces_made (events_of events)) new = counts.knows n knows in
    record {
      ready = record {
        keeps = took.keeps;
        within = took.within;
        knows = knows_more (n + spaces_made (events_of events)) (length to.machine.state.spaces) new took.spaces known;
      };
      lines = lines;
      events = omega (arith, due, took.events);
    }

-- ---- one event after another
-- Of these events those that are left weren't taken yet.
pub record TookAllBut (w : World) (left_ whole : List Placed) (from to : Replay) : Type 0 where
  pub keeps : Keeps w.names to.kept
  pub events : to.events + length left_ ≡ from.events + length whole
  pub within : IsWithin to.machine.state
  pub spaces : length from.machine.state.spaces + spaces_made (events_of whole)
      ≤ length to.machine.state.spaces + spaces_made (events_of left_)

-- at first
pub took_none : (w : World) (whole : List Placed) (at : Replay) → Keeps w.names at.kept → IsWithin at.machine.state
    → TookAllBut w whole whole at at
took_none w whole at keeps within = record { keeps = keeps; events = refl; within = within; spaces = omega arith }

-- the user namespaces that an event and others make
made_one : (e : Placed) (es : List Placed)
    → spaces_made (events_of (e ∷ es)) ≡ spaces_made (e.event ∷ []) + spaces_made (events_of es)
made_one e es =
    let makes : Event → ℕ = λ event. cond (makes_space event.call event.res) 1 0 in
    let all : spaces_made (events_of (e ∷ es))
    ≡ makes e.event + spaces_made (events_of es) = sum_by-cons makes e.event (events_of es) in
    let one : spaces_made (e.event ∷ []) ≡ makes e.event + 0 = sum_by-cons makes e.event [] in
    omega (arith, all, one)

-- one event more
pub took_one : (w : World) (e : Placed) (left_ whole : List Placed) (from mid to : Replay)
    → TookAllBut w (e ∷ left_) whole from mid
    → Took w (e ∷ []) mid to → TookAllBut w left_ whole from to
took_one w e left_ whole from mid to before took =
    let made : spaces_made (events_of (e ∷ left_))
    ≡ spaces_made (e.event ∷ []) + spaces_made (events_of left_) = made_one e left_ in
    let more : length mid.machine.state.spaces + spaces_made (e.event ∷ []) ≤ length to.machine.state.spaces =
    took.spaces in
    let all : length from.machine.state.spaces + spaces_made (events_of whole)
    ≤ length mid.machine.state.spaces + spaces_made (events_of (e ∷ left_)) = before.spaces in
    let counted : mid.events + length (e ∷ left_) ≡ from.events + length whole = before.events in
    let one : to.events ≡ mid.events + 1 = took.events in
    record {
      keeps = took.keeps;
      events = omega (arith, counted, one);
      within = took.within;
      spaces = omega (arith, made, more, all);
    }

-- none is left
pub took_all : (w : World) (whole : List Placed) (from to : Replay) → TookAllBut w [] whole from to
    → Took w whole from to
took_all w whole from to before =
    let counted : to.events + 0 ≡ from.events + length whole = before.events in
    let all : length from.machine.state.spaces + spaces_made (events_of whole) ≤ length to.machine.state.spaces + 0 =
    before.spaces in
    record {
      keeps = before.keeps;
      events = omega (arith, counted);
      within = before.within;
      spaces = omega (arith, all);
    }

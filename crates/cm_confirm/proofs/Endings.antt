-- Where a run stands: an event is taken, or it is over.
use Rattle.std.proofs.Common.{◌≡◌, ◌≤◌, ℕ, List, [], drop, length, sym, subst, ◌∙◌, ap}
use Rattle.std.specs.Prelude.{Result, Ok, Err}
use Rattle.std.proofs.lemmas.List.{at_drop_all}
use Rattle.cm_base.specs.Outcome.{OrNoMemory}
use Rattle.cm_confirm.proofs.Sames.{run_same}
use Rattle.cm_confirm.specs.Confirmed.{ComesTo, GoesOn, confirmed_of}
use Rattle.cm_confirm.specs.declared.confirmed.Confirmed.{Confirmed as Told}
use Rattle.cm_confirm.specs.declared.confirming.Turn.{Turn}
use Rattle.cm_log.specs.Left.{told_then}
use Rattle.cm_strace.specs.declared.stage.Stage.{Stage}
use Rattle.model_confirm.proofs.Passing.{taken}
use Rattle.model_confirm.specs.Confirm.{Confirmed, by_outcome, confirm_of, events_confirm}
use Rattle.model_cred.specs.Process.{State}
use Rattle.model_cred.specs.Right.{Right}
use Rattle.model_cred.specs.World.{World}
use Rattle.model_run.specs.Later.{members_after}
use Rattle.model_run.specs.Step.{outcome}
use Rattle.model_text.specs.Reading.{Placed, Reading, reads_on}

module _ (w : World) (s : State) (members : List ℕ) (right : Right) (reading rest : Reading) (e : Placed) (is : reading ≡ reads_on e rest) where
  abbrev next : State → Confirmed
  next s' = events_confirm w s' (members_after members e.event.pid e.event.call e.event.res) right rest.events rest.ending

  -- by what becomes of the event
  pub by_event : confirm_of w s members right reading ≡ by_outcome w s members e next (outcome w s e.event)
  by_event = ap (λ (r : Reading). confirm_of w s members right r) is

  -- the run goes on with it
  pub goes_on : (after : State) (members_then : List ℕ) → GoesOn w s members e (outcome w s e.event) after members_then
      → confirm_of w s members right reading ≡ confirm_of w after members_then right rest
  goes_on after members_then goes =
      by_event ∙ taken w s members e next (outcome w s e.event) after goes.step goes.within goes.member
      ∙ sym (run_same w right rest.events rest.ending after members_then (members_after members e.event.pid e.event.call e.event.res) goes.they)

  -- this is what it comes to
  pub ends_with : (c : Confirmed) → ((rest : State → Confirmed) → by_outcome w s members e rest (outcome w s e.event) ≡ c)
      → confirm_of w s members right reading ≡ c
  ends_with c ends = by_event ∙ ends next

-- after the last event that was told what comes goes by what the reading is at
pub all_taken : (w : World) (s : State) (members : List ℕ) (right : Right) (told : List Placed) (i : ℕ) (stage at : Stage) (later : Reading)
    → length told ≤ i → stage ≡ at
    → confirm_of w s members right (told_then (drop i told) stage later) ≡ confirm_of w s members right (told_then [] at later)
all_taken w s members right told i stage at later all is =
    at_drop_all (λ (es : List Placed). confirm_of w s members right (told_then es stage later)) told i all
    ∙ ap (λ (x : Stage). confirm_of w s members right (told_then [] x later)) is

-- what comes of what a line told is what comes of the line
pub line_comes : (w : World) (s : State) (members : List ℕ) (right : Right) (reading later : Reading)
    (told events : List Placed) (at : Stage) (answer : Turn)
    (after : State) (members_then : List ℕ) → reading ≡ told_then told at later → events ≡ told
    → ComesTo w s members right (told_then events at later) answer after members_then later
    → ComesTo w s members right reading answer after members_then later
line_comes w s members right reading later told events at answer after members_then is same comes =
    subst (λ (r : Reading). ComesTo w s members right r answer after members_then later) (sym is)
    (subst (λ (es : List Placed). ComesTo w s members right
    (told_then es at later) answer after members_then later) same comes)

-- what a run comes to is what comes of the same
pub finished_same : {E : Type 0} (r : Result Told E) (a b : Confirmed) → a ≡ b
    → OrNoMemory r (λ confirmed. a ≡ confirmed_of confirmed) → OrNoMemory r (λ confirmed. confirmed_of confirmed ≡ b)
finished_same (Ok confirmed) a b is comes = sym comes ∙ is
finished_same (Err why) a b is comes = tt

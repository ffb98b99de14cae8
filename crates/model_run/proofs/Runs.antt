-- What the worked cases state: where events lead from one state to another, they are a run.
use Rattle.std.proofs.Common.{◌≡◌, List, [], ◌∷◌, refl, sym, ◌∙◌, ap}
use Rattle.cm_base.specs.CapSet.{none, full}
use Rattle.model_cred.specs.Call.{Event, CapSet}
use Rattle.model_cred.specs.Credential.{Credential}
use Rattle.model_cred.specs.Process.{State}
use Rattle.model_cred.specs.World.{World}
use Rattle.model_run.specs.Later.{LaterRun}
use Rattle.model_run.specs.Step.{Outcome, Goes, NoProcess, NoSpace, PidInUse, Wrong, outcome, Step, Run}
use Rattle.model_run.proofs.Worlds.{after_all, then_event, Leads, user, one, world, done}

-- the state that an outcome goes to, or else another
abbrev state_or : State → Outcome → State
state_or s (Goes s') = s'
state_or s NoProcess = s
state_or s NoSpace = s
state_or s PidInUse = s
state_or s (Wrong res) = s

-- what no event changes stays after all events
stays : (w : World) (o : Outcome) → ((e : Event) → then_event w o e ≡ o) → (es : List Event) → after_all w o es ≡ o
stays w o h [] = refl
stays w o h (e ∷ es) = ap (λ x. after_all w x es) (h e) ∙ stays w o h es

-- the first event is a step, and the rest are a run
first_is_step : (w : World) (s s' : State) (e : Event) (es : List Event)
    → ((mid : State) → after_all w (Goes mid) es ≡ Goes s' → Run w mid es s')
    → (o : Outcome) → outcome w s e ≡ o → after_all w o es ≡ Goes s' → (mid : State) × Step w s e mid × Run w mid es s'
first_is_step w s s' e es rest (Goes mid) is h = (mid, is, rest mid h)
first_is_step w s s' e es rest NoProcess is h = absurd (let c : NoProcess ≡ Goes s' = sym (stays w NoProcess (λ _. refl) es) ∙ h in cc)
first_is_step w s s' e es rest NoSpace is h = absurd (let c : NoSpace ≡ Goes s' = sym (stays w NoSpace (λ _. refl) es) ∙ h in cc)
first_is_step w s s' e es rest PidInUse is h = absurd (let c : PidInUse ≡ Goes s' = sym (stays w PidInUse (λ _. refl) es) ∙ h in cc)
first_is_step w s s' e es rest (Wrong res) is h = absurd (let c : Wrong res ≡ Goes s' = sym (stays w (Wrong res) (λ _. refl) es) ∙ h in cc)

-- events that lead from one state to another are a run
pub leads_is_run : (w : World) (s s' : State) (es : List Event) → Leads w s es s' → Run w s es s'
leads_is_run w s s' [] h = sym (ap (state_or s) h)
leads_is_run w s s' (e ∷ es) h = first_is_step w s s' e es (λ mid. leads_is_run w mid s' es) (outcome w s e) refl h

-- a later run of one member, where the world's filter excludes nothing: a saved root id brings capabilities back
abbrev with_saved_root : Credential
with_saved_root = record (user 0) { uid = record { real = 0; effective = 1000; saved = 0; fs = 1000 }; effective = none }

pub a_later_run : LaterRun world (one with_saved_root) (100 ∷ [])
    (done 100 (CapSet full full none) ∷ [])
    (one (record with_saved_root { effective = full })) (100 ∷ [])
a_later_run = (one (record with_saved_root { effective = full }), refl, refl, refl, (refl, refl))

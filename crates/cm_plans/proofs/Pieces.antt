-- The events of a whole plan, piece by piece.
use Rattle.std.proofs.Common.{◌≡◌, ℕ, List, [], ◌∷◌, ◌++◌, sym, ap, ◌∙◌}
use Rattle.cm_plans.specs.Choices.{choice_of, moves_of_three}
use Rattle.cm_plans.specs.declared.choices.Choice.{Choice}
use Rattle.std.proofs.lemmas.List.{append_assoc, append-nil}
use Rattle.model_cred.specs.Call.{Event}
use Rattle.model_plans.specs.Move.{Move, Setting, Seat, Raise, call_of}
use Rattle.model_plans.specs.Walk.{after, after_moves, event_of, events_of}
use Rattle.model_plans.proofs.Shared.{first_moves_are_shared}

-- the run with what moves add to it
pub record Runs (q : Setting) (pid : ℕ) (start : Seat) (moves : List Move) (run : List Event) (seat : Seat) : Type 0 where
  pub made : run ≡ events_of q pid start moves
  pub stands : seat ≡ after_moves q start moves

pub more_moves : (q : Setting) (pid : ℕ) (start before seat : Seat) (moves more : List Move) (old run : List Event)
    → Runs q pid start moves old before → run ≡ old ++ events_of q pid before more → seat ≡ after_moves q before more
    → Runs q pid start (moves ++ more) run seat
more_moves q pid start before seat moves more old run made added goes = record {
  made = added ∙ ap (λ (s : Seat). old ++ events_of q pid s more) made.stands
      ∙ ap (λ (es : List Event). es ++ events_of q pid (after_moves q start moves) more) made.made
      ∙ sym (first_moves_are_shared.events q pid start moves more);
  stands = goes ∙ ap (λ (s : Seat). after_moves q s more) made.stands ∙ sym (first_moves_are_shared.seat q start moves more);
}

-- all moves of three choices, piece by piece
pub pieces : (c : Choice × Choice × Choice)
    → (((((Raise ∷ []) ++ choice_of c.0) ++ choice_of c.1) ++ (Raise ∷ [])) ++ choice_of c.2) ++ (Raise ∷ []) ≡ moves_of_three c
pieces c =
    append_assoc ((((Raise ∷ []) ++ choice_of c.0) ++ choice_of c.1) ++ (Raise ∷ [])) (choice_of c.2) (Raise ∷ [])
    ∙ append_assoc (((Raise ∷ []) ++ choice_of c.0) ++ choice_of c.1) (Raise ∷ []) (choice_of c.2 ++ (Raise ∷ []))
    ∙ append_assoc ((Raise ∷ []) ++ choice_of c.0) (choice_of c.1) ((Raise ∷ []) ++ (choice_of c.2 ++ (Raise ∷ [])))
    ∙ ap (λ (ms : List Move). ((Raise ∷ []) ++ choice_of c.0) ++ ms)
    (sym (append_assoc (choice_of c.1) (Raise ∷ []) (choice_of c.2 ++ (Raise ∷ []))))

-- a raise after moves
pub raise_more : (q : Setting) (pid : ℕ) (start before seat : Seat) (moves : List Move) (old run : List Event)
    → Runs q pid start moves old before → run ≡ old ++ event_of q pid before (call_of q before Raise) → seat ≡ after q before Raise
    → Runs q pid start (moves ++ Raise ∷ []) run seat
raise_more q pid start before seat moves old run made added goes =
    more_moves q pid start before seat moves (Raise ∷ []) old run made
    (added ∙ ap (λ (es : List Event). old ++ es) (sym (append-nil (event_of q pid before (call_of q before Raise))))) goes

-- The lines of a step: what the pieces put one after another come to.
use Rattle.std.proofs.Common.{◌≡◌, ℕ, List, [], ◌∷◌, ◌++◌, decimal, codes, refl, sym, ap, ◌∙◌, append_assoc}
use Rattle.cm_base.specs.declared.res.Res.{Res}
use Rattle.cm_base.specs.declared.res.Res.TheVariants.{Child}
use Rattle.cm_report.proofs.ReportText.{text_of_one}
use Rattle.model_cred.specs.Process.{State, process_at}
use Rattle.model_cred.specs.World.{World}
use Rattle.model_report.proofs.Texts.{text_of_append}
use Rattle.model_report.specs.Replay.{Told, child_lines, credentials_if, step_lines, text_of}
use Rattle.model_text.specs.Print.{event_line, event_text}
use Rattle.model_text.specs.Reading.{Placed}

-- a result that tells no child has no lines of one
pub no_child : (w : World) (s : State) (res : Res) → ((m : ℕ) → res ≡ Child m → ⊥) → child_lines w s res ≡ []
no_child w s (Child m) not_child = absurd (not_child m refl)
no_child w s _ not_child = refl

-- the pieces of the event's line, and those after it
pieces_put : (old one two three four number colon event lf caller child : List ℕ) → one ≡ old ++ (number ++ colon) → two ≡ one ++ event
    → three ≡ two ++ lf → four ≡ three ++ caller
    → four ++ child ≡ old ++ ((((number ++ colon) ++ event) ++ lf) ++ (caller ++ child))
pieces_put old one two three four number colon event lf caller child first second third fourth =
    rw (fourth, third, second, first) (simp append_assoc)

-- The number, the event, the LF and the caller's line were put: with the child's, these are the lines of the step.
pub step_put : (w : World) (s : State) (e : Placed) (old one two three four : List ℕ) → one ≡ old ++ (decimal e.line ++ codes ": ")
    → two ≡ one ++ event_text w e.event → three ≡ two ++ codes "\n"
    → four ≡ three ++ text_of (credentials_if w (process_at s.processes e.event.pid))
    → four ++ text_of (child_lines w s e.event.res) ≡ old ++ text_of (step_lines w s e)
unfolding event_line
step_put w s e old one two three four first second third fourth =
    let caller = credentials_if w (process_at s.processes e.event.pid) in
    let child = child_lines w s e.event.res in
    let lines : text_of (step_lines w s e)
    ≡ (((decimal e.line ++ codes ": ") ++ event_text w e.event) ++ codes "\n") ++ (text_of caller ++ text_of child) =
    text_of_append (Told w e ∷ []) (caller ++ child)
    ∙ ap (λ (t : List ℕ). text_of (Told w e ∷ []) ++ t) (text_of_append caller child)
    ∙ ap (λ (t : List ℕ). t ++ (text_of caller ++ text_of child)) (text_of_one (Told w e)) in
    pieces_put old one two three four (decimal e.line) (codes ": ") (event_text w e.event) (codes "\n") (text_of caller) (text_of child) first second third fourth
    ∙ ap (λ (t : List ℕ). old ++ t) (sym lines)

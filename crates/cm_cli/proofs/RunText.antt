-- The text of a run, and of the calls of one.
use Rattle.std.proofs.Common.{◌≡◌, ℕ, ◌+◌, ◌<◌, length, List, [], ◌∷◌, ◌++◌, map, drop, get_or, sym, ap, ◌∙◌}
use Rattle.std.specs.Prelude.{codes}
use Rattle.cm_report.proofs.ReportText.{text_of_cons, joined, step_on}
use Rattle.model_cred.specs.Call.{Event}
use Rattle.model_cred.specs.World.{World}
use Rattle.model_report.proofs.Texts.{text_of_append}
use Rattle.model_report.specs.Replay.{ReportLine, Plain, text_of, at_line}
use Rattle.model_report.specs.Answer.{run_lines}
use Rattle.model_text.specs.Print.{event_text}

-- the lines of a run: how many calls, the calls, and the holder
run_text : (w : World) (pid : ℕ) (run : List Event) → text_of (run_lines w (record { run = run; holder = pid }))
    ≡ text_of (Plain (at_line (codes "no ") (length run)) ∷ []) ++ text_of (map (λ e. Plain (event_text w e)) run)
    ++ text_of (Plain (at_line (codes "holder ") pid) ∷ [])
run_text w pid run =
    let no : ReportLine = Plain (at_line (codes "no ") (length run)) in
    let calls : List ReportLine = map (λ e. Plain (event_text w e)) run in
    let holder : ReportLine = Plain (at_line (codes "holder ") pid) in
    text_of_append (no ∷ calls) (holder ∷ []) ∙ ap (λ t. t ++ text_of (holder ∷ [])) (text_of_cons no calls)

-- the same, written one after another
pub run_written : (w : World) (old one two : List ℕ) (pid : ℕ) (run : List Event)
    → one ≡ old ++ text_of (Plain (at_line (codes "no ") (length run)) ∷ [])
    → two ≡ one ++ text_of (map (λ e. Plain (event_text w e)) run)
    → two ++ text_of (Plain (at_line (codes "holder ") pid) ∷ []) ≡ old ++ text_of
    (run_lines w (record { run = run; holder = pid }))
run_written w old one two pid run first second =
    let no : List ℕ = text_of (Plain (at_line (codes "no ") (length run)) ∷ []) in
    let calls : List ℕ = text_of (map (λ e. Plain (event_text w e)) run) in
    let holder : List ℕ = text_of (Plain (at_line (codes "holder ") pid) ∷ []) in
    joined old one two no calls holder first second ∙ ap (λ t. old ++ t) (sym (run_text w pid run))

-- the line of one call, and then those of the others
pub call_step : (w : World) (es : List Event) (i : ℕ) (e : Event) (text text' : List ℕ) → i < length es
    → e ≡ get_or es i e
    → text' ≡ text ++ text_of (Plain (event_text w e) ∷ [])
    → text ++ text_of (map (λ e. Plain (event_text w e)) (drop i es)) ≡ text' ++ text_of
    (map (λ e. Plain (event_text w e)) (drop (i + 1) es))
call_step w es i e text text' within here put = step_on (λ e. Plain (event_text w e)) es i e text text' within here put

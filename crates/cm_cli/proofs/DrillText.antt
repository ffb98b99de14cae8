-- The five lines of a drill, written one after another, and as the report has them.
use Rattle.std.proofs.Common.{◌≡◌, ℕ, List, [], ◌∷◌, ◌++◌, Result, Ok, Err, IfOk, codes, sym, ap, ◌∙◌, append_assoc}
use Rattle.cm_audit.specs.Told.{Told, told}
use Rattle.cm_cli.specs.Drilling.{drilled_lines}
use Rattle.cm_drill.specs.declared.telling.Drilled as code
use Rattle.model_drill.specs.Drill.{Drilled}
use Rattle.model_report.proofs.Texts.{text_of_append}
use Rattle.model_report.specs.Replay.{ReportLine, Plain, at_line, text_of}
use Rattle.model_report.specs.Report.{drill_report, verdict_word}

-- lines, one after another
pub five_lines : (a b c d e : ReportLine) (old one two three four new : List ℕ) → one ≡ old ++ text_of (a ∷ [])
    → two ≡ one ++ text_of (b ∷ [])
    → three ≡ two ++ text_of (c ∷ []) → four ≡ three ++ text_of (d ∷ []) → new ≡ four ++ text_of (e ∷ [])
    → new ≡ old ++ text_of (a ∷ b ∷ c ∷ d ∷ e ∷ [])
five_lines a b c d e old one two three four new first second third fourth fifth =
    fifth ∙ ap (λ (t : List ℕ). t ++ text_of (e ∷ [])) fourth
    ∙ ap (λ (t : List ℕ). (t ++ text_of (d ∷ [])) ++ text_of (e ∷ [])) third
    ∙ ap (λ (t : List ℕ). ((t ++ text_of (c ∷ [])) ++ text_of (d ∷ [])) ++ text_of (e ∷ [])) second
    ∙ ap (λ (t : List ℕ). (((t ++ text_of (b ∷ [])) ++ text_of (c ∷ [])) ++ text_of (d ∷ [])) ++ text_of (e ∷ [])) first
    ∙ together (a ∷ []) (b ∷ []) (c ∷ []) (d ∷ []) (e ∷ []) old
  where
    two_of : (x y : List ReportLine) (t : List ℕ) → (t ++ text_of x) ++ text_of y ≡ t ++ text_of (x ++ y)
    two_of x y t = append_assoc t (text_of x) (text_of y) ∙ ap (λ (u : List ℕ). t ++ u) (sym (text_of_append x y))

    together : (p q r s u : List ReportLine) (t : List ℕ)
        → ((((t ++ text_of p) ++ text_of q) ++ text_of r) ++ text_of s) ++ text_of u ≡ t ++ text_of
        ((((p ++ q) ++ r) ++ s) ++ u)
    together p q r s u t =
        ap (λ (v : List ℕ). ((v ++ text_of r) ++ text_of s) ++ text_of u) (two_of p q t)
        ∙ ap (λ (v : List ℕ). (v ++ text_of s) ++ text_of u) (two_of (p ++ q) r t)
        ∙ ap (λ (v : List ℕ). v ++ text_of u) (two_of ((p ++ q) ++ r) s t)
        ∙ two_of (((p ++ q) ++ r) ++ s) u t

-- what the code tells is what the report says
pub same_lines : (m : Drilled) (d : code.Drilled) (verdict : Told) → d.events ≡ m.events → d.refused ≡ m.refused
    → d.live ≡ m.live
    → d.spaces ≡ m.spaces → told d.verdict ≡ verdict
    → text_of (drilled_lines d) ≡ text_of (drill_report m verdict).lines
same_lines m d verdict events refused live spaces is = rw (events, refused, live, spaces, is)

-- the lines of what the code tells, each as it was written
pub drilled_written : {T E : Type 0} (res : Result T E) (d : code.Drilled) (old one two three four new : List ℕ)
    (events refused live spaces : ℕ)
    → events ≡ d.events → refused ≡ d.refused → live ≡ d.live → spaces ≡ d.spaces
    → one ≡ old ++ text_of (Plain (at_line (codes "events ") events) ∷ [])
    → two ≡ one ++ text_of (Plain (at_line (codes "refused ") refused) ∷ [])
    → three ≡ two ++ text_of (Plain (at_line (codes "live ") live) ∷ [])
    → four ≡ three ++ text_of (Plain (at_line (codes "spaces ") spaces) ∷ [])
    → IfOk res (λ _. new ≡ four ++ text_of (Plain (codes "verdict " ++ verdict_word (told d.verdict)) ∷ []))
    → IfOk res (λ _. new ≡ old ++ text_of (drilled_lines d))
drilled_written (Err e) d old one two three four new events refused live spaces a b c s first second third fourth
    last = tt
drilled_written (Ok x) d old one two three four new events refused live spaces a b c s first second third fourth last =
    let line : List ℕ → ℕ → List ReportLine = λ words number. Plain (at_line words number) ∷ [] in
    five_lines (Plain (at_line (codes "events ") d.events)) (Plain (at_line (codes "refused ") d.refused))
    (Plain (at_line (codes "live ") d.live)) (Plain (at_line (codes "spaces ") d.spaces))
    (Plain (codes "verdict " ++ verdict_word (told d.verdict))) old one two three four new
    (first ∙ ap (λ (n : ℕ). old ++ text_of (line (codes "events ") n)) a)
    (second ∙ ap (λ (n : ℕ). one ++ text_of (line (codes "refused ") n)) b)
    (third ∙ ap (λ (n : ℕ). two ++ text_of (line (codes "live ") n)) c)
    (fourth ∙ ap (λ (n : ℕ). three ++ text_of (line (codes "spaces ") n)) s) last

-- What comes of a run's text, in which lines alone have a limit, is what comes of its lines one by one.
use Rattle.std.proofs.Common.{◌≡◌, ◌≤◌, ℕ, suc, ◌+◌, ◌-◌, ◌==◌, min, Bool, true, false, List, [], ◌∷◌, length, refl, ap, ◌∙◌, cond, arith, inl, inr}
use Rattle.std.proofs.lemmas.Bool.{lt-ltb, le-ltb}
use Rattle.cm_base.specs.Limited.{limit_number}
use Rattle.cm_base.specs.declared.limited.Limited.TheVariants as limit
use Rattle.cm_confirm.specs.Lines.{line_before, lines_come}
use Rattle.cm_lines.proofs.PastLimits.{PastLine, PastWhole, Within, limits, past_line, past_none}
use Rattle.cm_lines.specs.Cut.{Cut, cut_by, cut_lines, past_of}
use Rattle.cm_lines.specs.Lines.{grown, lines_of}
use Rattle.model_text.specs.Reading.{line_cut}

-- how many bytes lines have with their LFs
abbrev all_bytes : List (List ℕ) → ℕ
all_bytes [] = 0
all_bytes (line ∷ lines) = length line + 1 + all_bytes lines

grown_bytes : (byte : ℕ) (lines : List (List ℕ)) (n : ℕ) → all_bytes lines ≤ n + 1 → all_bytes (grown byte lines) ≤ n + 2
grown_bytes byte [] n few = omega (arith, few)
grown_bytes byte (line ∷ lines) n few = omega (arith, few)

-- the last one may have none
lines_bytes : (text : List ℕ) → all_bytes (lines_of text) ≤ length text + 1
lines_bytes [] = omega arith
lines_bytes (byte ∷ text) =
    let rest : all_bytes (lines_of text) ≤ length text + 1 = lines_bytes text in
    elim (byte == 10)
    as (λ (b : Bool). all_bytes (cond b ([] ∷ lines_of text) (grown byte (lines_of text))) ≤ suc (length text) + 1) [
      | true ↦ omega (arith, rest)
      | false ↦ omega (arith, grown_bytes byte (lines_of text) (length text) rest)
    ]

-- a line that ends within the text is past the limit of lines, or past none
one_comes : (most whole place : ℕ) (line : List ℕ) (rest : Cut) → place + length line ≤ whole
    → cut_by (past_of most whole place (length line) (min (length line + 1) (whole - place))) line rest ≡ line_before most line rest
one_comes most whole place line rest fits = elim (limits most whole place (length line) (min (length line + 1) (whole - place))) [
  | PastLine long first ↦
      rw (past_line most whole place (length line) (min (length line + 1) (whole - place)) long first, lt-ltb most (length line) long) refl
  | PastWhole not more ↦ absurd (omega (arith, more, fits))
  | Within not within ↦
      let short : length line ≤ most = elim not [ inl short ↦ short | inr later ↦ omega (arith, later, fits) ] in
      rw (past_none most whole place (length line) (min (length line + 1) (whole - place)) not within, le-ltb most (length line) short) refl
]

come : (most whole place : ℕ) (lines : List (List ℕ)) → place + all_bytes lines ≤ whole + 1 → cut_lines most whole whole place lines ≡ lines_come most lines
come most whole place [] fits = refl
come most whole place (line ∷ lines) fits =
    let bytes : place + (length line + 1 + all_bytes lines) ≤ whole + 1 = fits in
    one_comes most whole place line (cut_lines most whole whole (place + length line + 1) lines) (omega (arith, bytes))
    ∙ ap (line_before most line) (come most whole (place + length line + 1) lines (omega (arith, bytes)))

pub run_comes : (text : List ℕ) → line_cut text ≡ lines_come (limit_number limit.Line) (lines_of text)
run_comes text = come (limit_number limit.Line) (length text) 0 (lines_of text) (omega (arith, lines_bytes text))

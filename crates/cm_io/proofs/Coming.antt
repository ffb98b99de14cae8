-- What comes next, and what comes after it, are all that comes.
use Rattle.std.proofs.Common.{◌≡◌, ℕ, ◌+◌, ◌-◌, length, List, [], ◌∷◌, take, drop, refl, ◌∙◌, sym, ap, ap₂, arith, length-drop}
use Rattle.std.proofs.Common.{Option, None, Some, Result, Ok, Err}
use Rattle.std.proofs.lemmas.List.{drop-drop}
use Rattle.cm_lines.specs.Lines.{line_len, line_size, lines_of}
use Rattle.cm_lines.specs.Cut.{Cut, before, ends_by, cut_by, cut_lines, past_of}
use Rattle.cm_lines.specs.declared.limits.Past.{Past}
use Rattle.cm_lines.specs.declared.limits.Past.TheVariants.{Line, Whole}
use Rattle.cm_lines.proofs.FirstCut.{first_comes}
use Rattle.cm_io.specs.Cutter.{Cutting, left_of, next_of, next_cut, unless_past, error_of}
use Rattle.cm_io.specs.declared.cutter.CutError.{CutError}

-- by what comes next
comes_by : (past : Option Past) (line : List ℕ) (rest : Cut) (next : Result (Option (List ℕ)) CutError) → unless_past past line ≡ next
    → (given : List ℕ) → next ≡ Ok (Some given) → cut_by past line rest ≡ before given rest
comes_by None line rest next is given then = let same : line ≡ given = cc in ap (λ l. before l rest) same
comes_by (Some past) line rest next is given then = absurd (cc)

stops_by : (found : Option Past) (line : List ℕ) (rest : Cut) (past : Past) → unless_past found line ≡ Err (error_of past)
    → cut_by found line rest ≡ ends_by (Some past)
stops_by (Some Line) line rest Line is = refl
stops_by (Some Whole) line rest Whole is = refl
stops_by _ line rest _ is = absurd (cc)

-- A line comes.
pub line_comes : (line whole size place : ℕ) (left given : List ℕ) → size - place ≡ length left → next_cut line whole place left ≡ Ok (Some given)
    → cut_lines line whole size place (lines_of left)
    ≡ before given (cut_lines line whole size (place + line_size left) (lines_of (drop (line_size left) left)))
line_comes line whole size place [] given is next = absurd (cc)
line_comes line whole size place (b ∷ bs) given is next =
    first_comes line whole size place (b ∷ bs) (omega arith) is
    ∙ comes_by (past_of line whole place (line_len (b ∷ bs)) (line_size (b ∷ bs))) (take (line_len (b ∷ bs)) (b ∷ bs)) _ _ refl given next

-- A limit.
pub limit_comes : (line whole size place : ℕ) (left : List ℕ) (past : Past) → size - place ≡ length left → next_cut line whole place left ≡ Err (error_of past)
    → cut_lines line whole size place (lines_of left) ≡ ends_by (Some past)
limit_comes line whole size place [] past is next = absurd (cc)
limit_comes line whole size place (b ∷ bs) past is next =
    first_comes line whole size place (b ∷ bs) (omega arith) is
    ∙ stops_by (past_of line whole place (line_len (b ∷ bs)) (line_size (b ∷ bs))) (take (line_len (b ∷ bs)) (b ∷ bs)) _ past next

-- The end.
pub end_comes : (line whole size place : ℕ) (left : List ℕ) → next_cut line whole place left ≡ Ok None
    → cut_lines line whole size place (lines_of left) ≡ ends_by None
end_comes line whole size place [] next = refl
end_comes line whole size place (b ∷ bs) next = absurd (never (past_of line whole place (line_len (b ∷ bs)) (line_size (b ∷ bs))) _ next)
  where
    never : (past : Option Past) (l : List ℕ) → unless_past past l ≡ Ok None → ⊥
    never None l is = cc
    never (Some past) l is = cc

-- ---- cutters
left_size : (c : Cutting) (text : List ℕ) → length text - c.place ≡ length (drop c.place text)
left_size c text = sym (length-drop c.place text)

pub gives_line : (old new : Cutting) (text given : List ℕ) → new.line ≡ old.line → new.whole ≡ old.whole
    → new.place ≡ old.place + line_size (drop old.place text) → next_of old text ≡ Ok (Some given) → left_of old text ≡ before given (left_of new text)
gives_line old new text given line whole place next =
    line_comes old.line old.whole (length text) old.place (drop old.place text) given (left_size old text) next
    ∙ ap (before given) (
    ap (λ t. cut_lines old.line old.whole (length text) (old.place + line_size (drop old.place text)) (lines_of t))
    (drop-drop (line_size (drop old.place text)) old.place text)
    ∙ ap (λ p. cut_lines old.line old.whole (length text) p (lines_of (drop p text))) (sym place)
    ∙ ap₂ (λ (l : ℕ) (w : ℕ). cut_lines l w (length text) new.place (lines_of (drop new.place text))) (sym line) (sym whole))

pub gives_limit : (c : Cutting) (text : List ℕ) (past : Past) → next_of c text ≡ Err (error_of past) → left_of c text ≡ ends_by (Some past)
gives_limit c text past next = limit_comes c.line c.whole (length text) c.place (drop c.place text) past (left_size c text) next

pub gives_end : (c : Cutting) (text : List ℕ) → next_of c text ≡ Ok None → left_of c text ≡ ends_by None
gives_end c text next = end_comes c.line c.whole (length text) c.place (drop c.place text) next

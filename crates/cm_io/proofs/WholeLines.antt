-- The lines of a text that have their LF, as a cutter gives them.
use Rattle.std.proofs.Common.{◌≡◌, ◌≤◌, ◌<◌, ℕ, ◌+◌, ◌==◌, List, [], ◌∷◌, ◌++◌, length, take, drop, length-take, true, false, refl, sym, zero, suc}
use Rattle.std.proofs.Common.{ap, ◌∙◌, append-nil, append_assoc, add-one, arith, inl, inr, Option, None, Some, Result, Ok}
use Rattle.std.proofs.Math.Seq.{take-add}
use Rattle.std.proofs.lemmas.Bool.{cases_Bool}
use Rattle.cm_lines.proofs.Lengths.{len_within}
use Rattle.cm_lines.specs.Cut.{Cut, before, past_of}
use Rattle.cm_lines.specs.Lines.{line_len, line_size}
use Rattle.cm_lines.specs.declared.limits.Past.{Past}
use Rattle.cm_io.specs.Cutter.{next_cut, unless_past}
use Rattle.cm_io.specs.WholeLines.{after_lines, grown_line, whole_lines}
use Rattle.cm_io.specs.declared.cutter.CutError.{CutError}

-- a byte more is taken
take_more : (n byte : ℕ) (text : List ℕ) → take (n + 1) (byte ∷ text) ≡ byte ∷ take n text
take_more n byte text = ap (λ (k : ℕ). take k (byte ∷ text)) (add-one n)

len_here : (byte : ℕ) (text : List ℕ) → (byte == 10) ≡ true → line_len (byte ∷ text) ≡ 0
len_here byte text is = rw is refl

len_on : (byte : ℕ) (text : List ℕ) → (byte == 10) ≡ false → line_len (byte ∷ text) ≡ line_len text + 1
len_on byte text isnt = rw isnt refl

lf_first : (byte : ℕ) (text : List ℕ) → (byte == 10) ≡ true → whole_lines (byte ∷ text) ≡ [] ∷ whole_lines text
lf_first byte text is = rw is refl

no_lf_first : (byte : ℕ) (text : List ℕ) → (byte == 10) ≡ false → whole_lines (byte ∷ text) ≡ grown_line byte (whole_lines text)
no_lf_first byte text isnt = rw isnt refl

-- a line with its LF, and more
first_whole : (text rest_ : List ℕ) → line_len text < length text
    → whole_lines (take (line_len text + 1) text ++ rest_) ≡ take (line_len text) text ∷ whole_lines rest_
first_whole [] rest_ below = absurd (omega (arith, below))
first_whole (byte ∷ text) rest_ below = elim (cases_Bool (byte == 10)) [
  | inl is ↦
      let here = len_here byte text is in
      ap (λ (n : ℕ). whole_lines (take (n + 1) (byte ∷ text) ++ rest_)) here ∙ lf_first byte rest_ is
      ∙ sym (ap (λ (n : ℕ). take n (byte ∷ text) ∷ whole_lines rest_) here)
  | inr isnt ↦
      let on = len_on byte text isnt in
      ap (λ (n : ℕ). whole_lines (take (n + 1) (byte ∷ text) ++ rest_)) on
      ∙ ap (λ (t : List ℕ). whole_lines (t ++ rest_)) (take_more (line_len text + 1) byte text)
      ∙ no_lf_first byte (take (line_len text + 1) text ++ rest_) isnt
      ∙ ap (grown_line byte) (first_whole text rest_ (omega (arith, below, on)))
      ∙ sym (ap (λ (l : List ℕ). l ∷ whole_lines rest_) (ap (λ (n : ℕ). take n (byte ∷ text)) on ∙ take_more (line_len text) byte text))
]

-- none, where no LF comes
none_whole : (text : List ℕ) (k : ℕ) → k ≤ line_len text → whole_lines (take k text) ≡ []
none_whole [] zero within = refl
none_whole (byte ∷ text) (suc k) within = elim (cases_Bool (byte == 10)) [
  | inl is ↦ absurd (let here = len_here byte text is in omega (arith, within, here))
  | inr isnt ↦
      let on = len_on byte text isnt in
      no_lf_first byte (take k text) isnt ∙ ap (grown_line byte) (none_whole text k (omega (arith, within, on)))
]
none_whole _ _ within = refl

-- a line that comes is the first of what is left
given_is : (past : Option Past) (line given : List ℕ) (e : Result (Option (List ℕ)) CutError) → unless_past past line ≡ e → e ≡ Ok (Some given)
    → given ≡ line
given_is None line given e is same = let one : line ≡ given = cc in sym one
given_is (Some past) line given e is same = absurd (cc)

pub next_given : (line whole place : ℕ) (left_ given : List ℕ) → next_cut line whole place left_ ≡ Ok (Some given)
    → given ≡ take (line_len left_) left_
next_given line whole place [] given is = absurd (cc)
next_given line whole place (b ∷ bs) given is =
    given_is (past_of line whole place (line_len (b ∷ bs)) (line_size (b ∷ bs))) (take (line_len (b ∷ bs)) (b ∷ bs)) given _ refl is

-- The lines of a text up to a place, whatever comes after it.
abbrev pub LinesTo : List ℕ → ℕ → List (List ℕ) → Type 0
LinesTo text place lines = (more : List ℕ) → whole_lines (take place text ++ more) ≡ lines ++ whole_lines more

-- a line more
pub lines_more : (text line : List ℕ) (place more : ℕ) (lines : List (List ℕ)) → LinesTo text place lines
    → more ≡ line_size (drop place text) → line ≡ take (line_len (drop place text)) (drop place text) → length line < more
    → LinesTo text (place + more) (lines ++ line ∷ [])
lines_more text line place more lines before_ more_is line_is lf rest =
    let left_ = drop place text in
    let within = len_within left_ in
    let len : length line ≡ line_len left_ = omega (arith, ap length line_is, length-take (line_len left_) left_, within) in
    let below : line_len left_ < length left_ = omega (arith, len, more_is, lf) in
    let size : more ≡ line_len left_ + 1 = omega (arith, more_is, below) in
    ap (λ (n : ℕ). whole_lines (take (place + n) text ++ rest)) size
    ∙ ap (λ (t : List ℕ). whole_lines (t ++ rest)) (take-add place (line_len left_ + 1) text)
    ∙ ap whole_lines (append_assoc (take place text) (take (line_len left_ + 1) left_) rest)
    ∙ before_ (take (line_len left_ + 1) left_ ++ rest)
    ∙ ap (λ (ls : List (List ℕ)). lines ++ ls) (first_whole left_ rest below)
    ∙ ap (λ (l : List ℕ). lines ++ l ∷ whole_lines rest) (sym line_is)
    ∙ sym (append_assoc lines (line ∷ []) (whole_lines rest))

-- those among the bytes before the next LF
pub lines_seen : (text : List ℕ) (place : ℕ) (lines : List (List ℕ)) → LinesTo text place lines
    → whole_lines (take (place + line_len (drop place text)) text) ≡ lines
lines_seen text place lines before_ =
    let left_ = drop place text in
    ap whole_lines (take-add place (line_len left_) text) ∙ before_ (take (line_len left_) left_)
    ∙ ap (λ (ls : List (List ℕ)). lines ++ ls) (none_whole left_ (line_len left_) (omega arith)) ∙ append-nil lines

-- lines, and a line more
pub more_lines : (lines : List (List ℕ)) (line : List ℕ) (cut : Cut) → after_lines (lines ++ line ∷ []) cut ≡ after_lines lines (before line cut)
more_lines lines line cut =
    ap (λ (ls : List (List ℕ)). let c : Cut = record { lines = ls; stop = cut.stop } in c) (append_assoc lines (line ∷ []) cut.lines)

-- What comes of a text, by its first line.
use Rattle.std.proofs.Common.{◌≡◌, ℕ, ◌+◌, ◌-◌, ◌<◌, min, length, List, [], take, drop, refl, ◌∙◌, ap, ap₂, arith, inl, inr}
use Rattle.std.proofs.lemmas.Bool.{cases_lt}
use Rattle.std.proofs.lemmas.List.{drop_all, length-take-le}
use Rattle.cm_lines.specs.Lines.{line_len, line_size, lines_of}
use Rattle.cm_lines.specs.Cut.{cut_by, cut_lines, past_of}
use Rattle.cm_lines.proofs.Lengths.{len_within}
use Rattle.cm_lines.proofs.FirstLine.{first_line}

-- the lines after a line come from the place after it on, whether or not an LF ends it
lines_after : (line whole size place : ℕ) (left : List ℕ) → 0 < length left
    → cut_lines line whole size (place + line_len left + 1) (lines_of (drop (line_size left) left))
    ≡ cut_lines line whole size (place + line_size left) (lines_of (drop (line_size left) left))
lines_after line whole size place left some =
    let within = len_within left in
    elim (cases_lt (line_len left) (length left)) [
      | inl below ↦
          let same : place + line_len left + 1 ≡ place + line_size left = omega (arith, below) in
          ap (λ p. cut_lines line whole size p (lines_of (drop (line_size left) left))) same
      | inr last ↦
          let none : drop (line_size left) left ≡ [] = drop_all (line_size left) left (omega (arith, last, within)) in
          rw none refl
    ]

-- all that comes of what is left, by its first line
pub first_comes : (line whole size place : ℕ) (left : List ℕ) → 0 < length left → size - place ≡ length left
    → cut_lines line whole size place (lines_of left)
    ≡ cut_by (past_of line whole place (line_len left) (line_size left)) (take (line_len left) left)
    (cut_lines line whole size (place + line_size left) (lines_of (drop (line_size left) left)))
first_comes line whole size place left some is =
    let len : length (take (line_len left) left) ≡ line_len left = length-take-le (line_len left) left (len_within left) in
    ap (λ ls. cut_lines line whole size place ls) (first_line left some)
    ∙ ap₂ (λ (n : ℕ) (m : ℕ). cut_by (past_of line whole place n (min (n + 1) m)) (take (line_len left) left)
    (cut_lines line whole size (place + n + 1) (lines_of (drop (line_size left) left)))) len is
    ∙ ap (λ r. cut_by (past_of line whole place (line_len left) (line_size left)) (take (line_len left) left) r)
    (lines_after line whole size place left some)

-- The first line of a text.
use Rattle.std.proofs.Common.{◌≡◌, ℕ, zero, suc, ◌+◌, ◌-◌, ◌<◌, ◌≤◌, ◌==◌, min, length, List, [], ◌∷◌, refl, ◌∙◌, sym, ap, ap₂, arith, add-one, take, drop, length-drop, false, inl, inr}
use Rattle.std.proofs.lemmas.Bool.{cases_Bool}
use Rattle.std.proofs.lemmas.List.{take_all, drop_all}
use Rattle.cm_lines.specs.Lines.{grown, lines_of, line_len, line_size}

-- a byte before a line is its first byte
longer : (b : ℕ) (bs : List ℕ) (n s : ℕ) → (b == 10) ≡ false → lines_of bs ≡ take n bs ∷ lines_of (drop s bs)
    → lines_of (b ∷ bs) ≡ take (suc n) (b ∷ bs) ∷ lines_of (drop (suc s) (b ∷ bs))
longer b bs n s isnt rest = rw isnt (ap (grown b) rest)

len_more : (b : ℕ) (bs : List ℕ) → (b == 10) ≡ false → line_len (b ∷ bs) ≡ suc (line_len bs)
len_more b bs isnt = rw isnt (add-one (line_len bs))

size_more : (b : ℕ) (bs : List ℕ) → (b == 10) ≡ false → line_size (b ∷ bs) ≡ suc (line_size bs)
size_more b bs isnt = let more = len_more b bs isnt in omega (arith, more)

-- The first line, and the lines after it.
pub first_line : (text : List ℕ) → 0 < length text → lines_of text ≡ take (line_len text) text ∷ lines_of (drop (line_size text) text)
first_line [] some = absurd (omega arith)
first_line (b ∷ []) some = elim (cases_Bool (b == 10)) [ inl is ↦ rw is refl | inr isnt ↦ rw isnt refl ]
first_line (b ∷ c ∷ cs) some = elim (cases_Bool (b == 10)) [
  | inl is ↦ let one : min (0 + 1) (length (b ∷ c ∷ cs)) ≡ 1 = omega arith in rw (is, one) refl
  | inr isnt ↦
      longer b (c ∷ cs) (line_len (c ∷ cs)) (line_size (c ∷ cs)) isnt (first_line (c ∷ cs) (omega arith))
      ∙ ap₂ (λ (n : ℕ) (s : ℕ). take n (b ∷ c ∷ cs) ∷ lines_of (drop s (b ∷ c ∷ cs))) (sym (len_more b (c ∷ cs) isnt)) (sym (size_more b (c ∷ cs) isnt))
]

-- a text that is cut where its first line ends, without an LF after it
pub first_line_whole : (text line rest : List ℕ) → 0 < length text → line ≡ take (line_len text) text → rest ≡ drop (line_len text) text
    → length rest < 1 → lines_of text ≡ line ∷ lines_of rest
first_line_whole text line rest some front back ends =
    let all : length text ≤ line_len text = omega (arith, ap length back, length-drop (line_len text) text) in
    let none : drop (line_size text) text ≡ drop (line_len text) text =
    drop_all (line_size text) text (omega arith) ∙ sym (drop_all (line_len text) text all) in
    first_line text some ∙ ap₂ (λ (l : List ℕ) (r : List ℕ). l ∷ lines_of r) (sym front) (none ∙ sym back)

-- and with one
pub first_line_cut : (text line rest : List ℕ) → line ≡ take (line_len text) text → rest ≡ drop (line_len text) text
    → 1 ≤ length rest → lines_of text ≡ line ∷ lines_of (take (length rest - 1) (drop 1 rest))
first_line_cut text line rest front back some =
    let within : line_len text < length text = omega (arith, ap length back, length-drop (line_len text) text) in
    let size : line_size text ≡ line_len text + 1 = omega arith in
    let whole : take (length rest - 1) (drop 1 rest) ≡ drop 1 rest = take_all (length rest - 1) (drop 1 rest) (omega (arith, length-drop 1 rest)) in
    let after : drop 1 rest ≡ drop (line_size text) text = ap (drop 1) back ∙ drop_after (line_len text) text ∙ ap (λ n. drop n text) (sym size) in
    first_line text (omega arith) ∙ ap₂ (λ (l : List ℕ) (r : List ℕ). l ∷ lines_of r) (sym front) (sym (whole ∙ after))
  where
    drop_after : (n : ℕ) (xs : List ℕ) → drop 1 (drop n xs) ≡ drop (n + 1) xs
    drop_after zero xs = refl
    drop_after (suc n) [] = rw add-one refl
    drop_after (suc n) (x ∷ xs) = rw add-one (drop_after n xs ∙ rw add-one refl)

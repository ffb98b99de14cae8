-- How long the first line of a text is.
use Rattle.std.proofs.Common.{◌≡◌, ◌≢◌, ℕ, zero, suc, ◌+◌, ◌<◌, ◌≤◌, ◌==◌, min, length, List, [], ◌∷◌, refl, ap, arith, get_or, take, drop, inl, inr}
use Rattle.std.proofs.lemmas.Bool.{cases_Bool}
use Rattle.cm_lines.specs.Lines.{line_len}

-- it is no longer than the text
pub len_within : (text : List ℕ) → line_len text ≤ length text
len_within [] = omega arith
len_within (b ∷ bs) = elim (cases_Bool (b == 10)) [ inl is ↦ rw is (omega arith) | inr isnt ↦ rw isnt (omega (arith, len_within bs)) ]

-- the place of the first LF, or the text's end
pub len_at : (text : List ℕ) (n : ℕ) → n ≤ length text → ((k : ℕ) → k < n → get_or text k 0 ≢ 10)
    → (n < length text → get_or text n 0 ≡ 10) → n ≡ line_len text
len_at [] n within plain ended = omega arith
len_at (b ∷ bs) zero within plain ended = rw (ended (omega arith)) refl
len_at (b ∷ bs) (suc n) within plain ended =
    let rest : n ≡ line_len bs = len_at bs n (omega arith) (λ k lt. plain (suc k) (omega arith)) (λ lt. ended (omega arith)) in
    elim (cases_Bool (b == 10)) [ inl is ↦ absurd (grind (arith, is, plain 0)) | inr isnt ↦ rw isnt (omega (arith, rest)) ]

-- where the LF stands in a front of the text
pub len_front : (text : List ℕ) (n : ℕ) → line_len (take n text) < length (take n text) → line_len text ≡ line_len (take n text)
len_front text zero within = absurd (omega arith)
len_front [] (suc n) within = absurd (omega arith)
len_front (b ∷ bs) (suc n) within = elim (cases_Bool (b == 10)) [
  | inl is ↦ rw is refl
  | inr isnt ↦ let below = rw isnt at within in rw isnt (ap (λ k. k + 1) (len_front bs n (omega arith)))
]

-- where it doesn't
pub len_past : (text : List ℕ) (n : ℕ) → n ≤ length text → line_len (take n text) ≡ n → n ≤ line_len text
len_past text zero within none = omega arith
len_past [] (suc n) within none = omega arith
len_past (b ∷ bs) (suc n) within none = elim (cases_Bool (b == 10)) [
  | inl is ↦ absurd (let never = rw is at none in omega arith)
  | inr isnt ↦ let rest = rw isnt at none in rw isnt (omega (arith, len_past bs n (omega arith) (omega arith)))
]

-- from a place on before which there is no LF
pub len_from : (text : List ℕ) (n : ℕ) → n ≤ line_len text → line_len text ≡ n + line_len (drop n text)
len_from text zero below = omega arith
len_from [] (suc n) below = absurd (omega arith)
len_from (b ∷ bs) (suc n) below = elim (cases_Bool (b == 10)) [
  | inl is ↦ absurd (let never = rw is at below in omega arith)
  | inr isnt ↦ let rest = rw isnt at below in rw isnt (omega (arith, len_from bs n (omega arith)))
]

-- and of so many of its bytes
pub len_take : (text : List ℕ) (n : ℕ) → line_len (take n text) ≡ min n (line_len text)
len_take text zero = omega arith
len_take [] (suc n) = omega arith
len_take (b ∷ bs) (suc n) = elim (cases_Bool (b == 10)) [
  | inl is ↦ rw is (omega arith)
  | inr isnt ↦ rw isnt (omega (arith, len_take bs n))
]

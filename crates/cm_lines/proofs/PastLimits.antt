-- Which limit a line is past.
use Rattle.std.proofs.Common.{◌≡◌, ◌⊎◌, ℕ, ◌+◌, ◌<◌, ◌≤◌, ◌&&◌, nat_lt, refl, ◌∙◌, sym, arith}
use Rattle.std.proofs.Common.{false, inl, inr, None, Some}
use Rattle.std.proofs.lemmas.Bool.{cases_lt, lt-ltb, le-ltb}
use Rattle.cm_lines.specs.Cut.{past_of}
use Rattle.cm_lines.specs.declared.limits.Past.{Past}
use Rattle.cm_lines.specs.declared.limits.Past.TheVariants.{Line, Whole}

-- past the limit of lines
pub past_line : (line whole place len size : ℕ) → line < len → place + line < whole → past_of line whole place len size ≡ Some Line
past_line line whole place len size long first = rw (lt-ltb line len long, lt-ltb (place + line) whole first) refl

-- not past it
not_line : (line whole place len : ℕ) → (len ≤ line) ⊎ (whole ≤ place + line) → (nat_lt line len && nat_lt (place + line) whole) ≡ false
not_line line whole place len (inl short) = rw (le-ltb line len short) refl
not_line line whole place len (inr later) = elim (cases_lt line len) [
  | inl long ↦ rw (lt-ltb line len long, le-ltb (place + line) whole later) refl
  | inr short ↦ rw (le-ltb line len short) refl
]

pub past_whole : (line whole place len size : ℕ) → (len ≤ line) ⊎ (whole ≤ place + line) → whole < place + size
    → past_of line whole place len size ≡ Some Whole
past_whole line whole place len size not more = rw (not_line line whole place len not, lt-ltb whole (place + size) more) refl

pub past_none : (line whole place len size : ℕ) → (len ≤ line) ⊎ (whole ≤ place + line) → place + size ≤ whole
    → past_of line whole place len size ≡ None
past_none line whole place len size not within = rw (not_line line whole place len not, le-ltb whole (place + size) within) refl

-- which limit a line is past, or none
pub data Limits (line whole place len size : ℕ) : Type 0 where
  PastLine : line < len → place + line < whole → Limits line whole place len size
  PastWhole : (len ≤ line) ⊎ (whole ≤ place + line) → whole < place + size → Limits line whole place len size
  Within : (len ≤ line) ⊎ (whole ≤ place + line) → place + size ≤ whole → Limits line whole place len size

limits_not : (line whole place len size : ℕ) → (len ≤ line) ⊎ (whole ≤ place + line) → Limits line whole place len size
limits_not line whole place len size not = elim (cases_lt whole (place + size)) [ inl more ↦ PastWhole not more | inr within ↦ Within not within ]

pub limits : (line whole place len size : ℕ) → Limits line whole place len size
limits line whole place len size = elim (cases_lt line len) [
  | inl long ↦ elim (cases_lt (place + line) whole) [
    | inl first ↦ PastLine long first
    | inr later ↦ limits_not line whole place len size (inr later)
  ]
  | inr short ↦ limits_not line whole place len size (inl short)
]

-- A line that so many bytes of which are past a limit is past it.
pub past_more : (line whole place n len size : ℕ) (past : Past) → n ≤ len → n ≤ size → past_of line whole place n n ≡ Some past
    → past_of line whole place len size ≡ Some past
past_more line whole place n len size past few fewer is = elim (limits line whole place n n) [
  | PastLine long first ↦
      past_line line whole place len size (omega (arith, long, few)) first ∙ sym (past_line line whole place n n long first) ∙ is
  | PastWhole not more ↦
      let later : whole ≤ place + line = elim not [ inl short ↦ omega (arith, short, more) | inr later ↦ later ] in
      past_whole line whole place len size (inr later) (omega (arith, more, fewer)) ∙ sym (past_whole line whole place n n not more) ∙ is
  | Within not within ↦ absurd (let none = past_none line whole place n n not within in cc)
]

-- a byte more than the file may have
pub some_past : (line whole place : ℕ) (past : Past) → place ≤ whole → past_of line whole place 0 0 ≡ Some past → ⊥
some_past line whole place past within is =
    let none = past_none line whole place 0 0 (inl (omega arith)) (omega (arith, within)) in cc

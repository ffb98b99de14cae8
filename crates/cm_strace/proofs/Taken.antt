-- Held lines of which some were taken: one that is taken, and those that are left.
use Rattle.std.proofs.Common.{◌≡◌, ℕ, zero, suc, ◌<◌, ◌≤◌, Bool, true, false, cond, find, length, List, [], ◌∷◌}
use Rattle.std.proofs.Common.{◌++◌, refl, sym, ◌∙◌, ap, arith, get_or, slice_get, slice_set, take, replicate}
use Rattle.std.specs.List.{list_any}
use Rattle.std.proofs.lemmas.Bool.{or_parts}
use Rattle.std.proofs.lemmas.List.{take_all}
use Rattle.std.proofs.lemmas.List.Folds.{list_any-append}
use Rattle.model_strace.specs.Lines.{Line, is_line_of}
use Rattle.model_strace.specs.Rest.{without_first}
use Rattle.cm_strace.specs.Taken.{untaken, waits_before}

-- ---- what is left
-- where none was taken, all are left
pub untaken_all : (lines : List Line) → untaken lines (replicate (length lines) false) ≡ lines
untaken_all [] = refl
untaken_all (x ∷ lines) = ap (λ l. x ∷ l) (untaken_all lines)

-- one line more
pub untaken_more : (lines : List Line) (taken : List Bool) (at : ℕ) (l : Line) (t : Bool) → at < length lines
    → length taken ≡ length lines
    → untaken (take (suc at) lines) taken ≡ untaken (take at lines) taken
    ++ cond (get_or taken at t) [] (get_or lines at l ∷ [])
untaken_more [] taken at l t within flags = absurd (omega arith)
untaken_more (x ∷ lines) [] at l t within flags = absurd (omega arith)
untaken_more (x ∷ lines) (b ∷ taken) zero l t within flags = elim b as (λ b. untaken (x ∷ []) (b ∷ taken) ≡ cond b [] (x ∷ [])) [
  | true ↦ refl
  | false ↦ refl
]
untaken_more (x ∷ lines) (b ∷ taken) (suc at) l t within flags =
    let rest = untaken_more lines taken at l t (omega arith) (omega arith) in
    elim b as (λ b. untaken (x ∷ take (suc at) lines) (b ∷ taken) ≡ untaken (x ∷ take at lines) (b ∷ taken)
    ++ cond (get_or taken at t) [] (get_or lines at l ∷ [])) [
      | true ↦ rest
      | false ↦ ap (λ r. x ∷ r) rest
    ]

-- ---- the lines of a pid
-- where none is left of those before a place, the first one that is left is taken
pub taken_first : (pid : ℕ) (lines : List Line) (taken : List Bool) (at : ℕ) (l : Line) (t : Bool) → at < length lines
    → length taken ≡ length lines → get_or taken at t ≡ false → l ≡ get_or lines at l → is_line_of pid l ≡ true
    → waits_before pid at lines taken ≡ false
    → (slice_get lines at ≡ find (is_line_of pid) (untaken lines taken)) × (untaken lines (slice_set taken at true)
    ≡ without_first pid (untaken lines taken)) × (waits_before pid (suc at) lines (slice_set taken at true) ≡ false)
taken_first pid [] taken at l t within flags free is own none = absurd (omega arith)
taken_first pid (x ∷ lines) [] at l t within flags free is own none = absurd (omega arith)
taken_first pid (x ∷ lines) (b ∷ taken) zero l t within flags free is own none =
    let here : is_line_of pid x ≡ true = ap (is_line_of pid) (sym is) ∙ own in
    rw (free, here) (refl, refl, refl)
taken_first pid (x ∷ lines) (b ∷ taken) (suc at) l t within flags free is own none =
    (elim b as (λ b. waits_before pid (suc at) (x ∷ lines) (b ∷ taken) ≡ false
    → (slice_get lines at ≡ find (is_line_of pid) (untaken (x ∷ lines) (b ∷ taken)))
    × (untaken (x ∷ lines) (b ∷ slice_set taken at true) ≡ without_first pid (untaken (x ∷ lines) (b ∷ taken)))
    × (waits_before pid (suc (suc at)) (x ∷ lines) (b ∷ slice_set taken at true) ≡ false)) [
      | true ↦ λ none. taken_first pid lines taken at l t (omega arith) (omega arith) free is own none
      | false ↦ λ none. let h = or_parts (is_line_of pid x) (waits_before pid at lines taken) none in
          let rest = taken_first pid lines taken at l t (omega arith) (omega arith) free is own h.1 in
          let other : is_line_of pid x ≡ false = h.0 in
          rw other (rest.0, ap (λ r. x ∷ r) rest.1, rest.2)
    ]) none

-- where none is left, none is left after another one was taken
pub still_none : (pid : ℕ) (lines : List Line) (taken : List Bool) (at : ℕ) → list_any (is_line_of pid)
    (untaken lines taken) ≡ false
    → list_any (is_line_of pid) (untaken lines (slice_set taken at true)) ≡ false
still_none pid [] taken at none = refl
still_none pid (x ∷ lines) [] at none = none
still_none pid (x ∷ lines) (b ∷ taken) zero none =
    (elim b as (λ b. list_any (is_line_of pid) (untaken (x ∷ lines) (b ∷ taken)) ≡ false → list_any (is_line_of pid)
    (untaken lines taken) ≡ false) [
      | true ↦ λ none. none
      | false ↦ λ none. (or_parts (is_line_of pid x) (list_any (is_line_of pid) (untaken lines taken)) none).1
    ]) none
still_none pid (x ∷ lines) (b ∷ taken) (suc at) none =
    (elim b as (λ b. list_any (is_line_of pid) (untaken (x ∷ lines) (b ∷ taken)) ≡ false → list_any (is_line_of pid)
    (untaken (x ∷ lines) (b ∷ slice_set taken at true)) ≡ false) [
      | true ↦ λ none. still_none pid lines taken at none
      | false ↦ λ none. let h = or_parts (is_line_of pid x) (list_any (is_line_of pid) (untaken lines taken)) none in
          rw (h.0) (still_none pid lines taken at h.1)
    ]) none

-- where none is left before a place, and the line there was taken or is another's, none is left before the next place
one_more : (pid : ℕ) (lines : List Line) (taken : List Bool) (at : ℕ) (l : Line) (t : Bool) → at < length lines
    → length taken ≡ length lines → waits_before pid at lines taken ≡ false
    → list_any (is_line_of pid) (cond (get_or taken at t) [] (get_or lines at l ∷ [])) ≡ false
    → waits_before pid (suc at) lines taken ≡ false
one_more pid lines taken at l t within flags none here =
    ap (list_any (is_line_of pid)) (untaken_more lines taken at l t within flags)
    ∙ list_any-append (is_line_of pid) (untaken (take at lines) taken) (cond (get_or taken at t) [] (get_or lines at l ∷ []))
    ∙ rw (none, here) refl

pub past_taken : (pid : ℕ) (lines : List Line) (taken : List Bool) (at : ℕ) (t : Bool) → at < length lines
    → length taken ≡ length lines → waits_before pid at lines taken ≡ false → get_or taken at t ≡ true
    → waits_before pid (suc at) lines taken ≡ false
past_taken pid [] taken at t within flags none is = absurd (omega arith)
past_taken pid (x ∷ lines) taken at t within flags none is =
    one_more pid (x ∷ lines) taken at x t within flags none (rw is refl)

pub past_other : (pid : ℕ) (lines : List Line) (taken : List Bool) (at : ℕ) (l : Line) (t : Bool) → at < length lines
    → length taken ≡ length lines → waits_before pid at lines taken ≡ false → l ≡ get_or lines at l
    → is_line_of pid l ≡ false
    → waits_before pid (suc at) lines taken ≡ false
past_other pid lines taken at l t within flags none is other =
    one_more pid lines taken at l t within flags none
    (elim (get_or taken at t) as (λ b. list_any (is_line_of pid) (cond b [] (get_or lines at l ∷ [])) ≡ false) [
      | true ↦ refl
      | false ↦ rw (← is) (rw other refl)
    ])

-- where none is left before the end, none is found
pub none_left : (pid : ℕ) (lines : List Line) (taken : List Bool) (at : ℕ) → length lines ≤ at
    → waits_before pid at lines taken ≡ false → list_any (is_line_of pid) (untaken lines taken) ≡ false
none_left pid lines taken at past none = rw (← take_all at lines past) none

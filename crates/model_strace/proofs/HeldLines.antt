-- The held lines, which are those that weren't read, as lines come and are read.
use Rattle.std.proofs.Common.{◌≡◌, ◌≤◌, ◌<◌, ℕ, ◌+◌, ◌==◌, ◌||◌, Bool, true, false, cond, not, List, [], ◌∷◌, ◌++◌}
use Rattle.std.proofs.Common.{find, Option, Some, None, refl, sym, ap, ◌∙◌, append-nil, subst, arith, inl, inr}
use Rattle.std.proofs.lemmas.Bool.{cases_Bool, ne_eqb, eq-eqb, eqb-true}
use Rattle.std.proofs.lemmas.List.Elements.{filter-append}
use Rattle.std.proofs.lemmas.Option.{same_Some}
use Rattle.std.specs.Option.{option_or}
use Rattle.model_strace.specs.Lines.{Line, Next, is_among, held, is_line_of, next_with, next_line}
use Rattle.model_strace.specs.Parts.{Parts, is_known}
use Rattle.model_strace.specs.Rest.{without_first}

-- The numbers of the lines rise, from `low` on and below `next`.
abbrev pub Rise : ℕ → ℕ → List Line → Type 0
Rise low next [] = low ≤ next
Rise low next (l ∷ lines) = (low ≤ l.number) × Rise (l.number + 1) next lines

-- each of the numbers is below that one
abbrev pub Below : ℕ → List ℕ → Type 0
Below next [] = Unit {0}
Below next (n ∷ numbers) = (n < next) × Below next numbers

-- no line has that number
abbrev pub Lack : ℕ → List Line → Type 0
Lack number [] = Unit {0}
Lack number (l ∷ lines) = ((number == l.number) ≡ false) × Lack number lines

-- ---- numbers
pub rise_ends : (low next : ℕ) (lines : List Line) → Rise low next lines → low ≤ next
rise_ends low next [] rise = rise
rise_ends low next (l ∷ lines) rise =
    let here : low ≤ l.number = rise.0 in
    let later : l.number + 1 ≤ next = rise_ends (l.number + 1) next lines rise.1 in
    omega (arith, here, later)

-- one line more, of the next number
pub rise_more : (low next : ℕ) (lines : List Line) (l : Line) → l.number ≡ next → Rise low next lines → Rise low (next + 1) (lines ++ l ∷ [])
rise_more low next [] l is rise = (omega (arith, is, rise), omega (arith, is))
rise_more low next (x ∷ lines) l is rise = (rise.0, rise_more (x.number + 1) next lines l is rise.1)

-- lines below a number are below the next one
pub rise_later : (low next : ℕ) (lines : List Line) → Rise low next lines → Rise low (next + 1) lines
rise_later low next [] rise = omega (arith, rise)
rise_later low next (l ∷ lines) rise = (rise.0, rise_later (l.number + 1) next lines rise.1)

pub below_more : (next : ℕ) (numbers : List ℕ) → Below next numbers → Below (next + 1) numbers
below_more next [] below = tt
below_more next (n ∷ numbers) below = (let here : n < next = below.0 in omega (arith, here), below_more next numbers below.1)

-- a later number isn't among those
pub later_not_among : (next : ℕ) (numbers : List ℕ) → Below next numbers → is_among next numbers ≡ false
later_not_among next [] below = refl
later_not_among next (n ∷ numbers) below =
    let other : (n == next) ≡ false = ne_eqb n next (λ same. let here : n < next = below.0 in absurd (omega (arith, here, same))) in
    rw other (later_not_among next numbers below.1)

-- rising lines lack the numbers before and after them
pub lack_before : (low next number : ℕ) (lines : List Line) → number < low → Rise low next lines → Lack number lines
lack_before low next number [] below rise = tt
lack_before low next number (l ∷ lines) below rise =
    let here : low ≤ l.number = rise.0 in (
      ne_eqb number l.number (λ same. absurd (omega (arith, below, here, same))),
      lack_before (l.number + 1) next number lines (omega (arith, below, here)) rise.1,
    )

pub lack_after : (low next number : ℕ) (lines : List Line) → next ≤ number → Rise low next lines → Lack number lines
lack_after low next number [] above rise = tt
lack_after low next number (l ∷ lines) above rise =
    let later : l.number + 1 ≤ next = rise_ends (l.number + 1) next lines rise.1 in (
      ne_eqb number l.number (λ same. absurd (omega (arith, above, later, same))),
      lack_after (l.number + 1) next number lines above rise.1,
    )

-- ---- held lines
-- another number that was read holds none of them back
pub held_other : (number : ℕ) (read : List ℕ) (lines : List Line) → Lack number lines → held lines (number ∷ read) ≡ held lines read
held_other number read [] lack = refl
held_other number read (l ∷ lines) lack =
    rw (lack.0) (ap (λ (rest : List Line). cond (not (is_among l.number read)) (l ∷ rest) rest) (held_other number read lines lack.1))

-- a line that comes and isn't read is held, the last of all
pub held_more : (read : List ℕ) (lines : List Line) (l : Line) → is_among l.number read ≡ false → held (lines ++ l ∷ []) read ≡ held lines read ++ l ∷ []
held_more read lines l new =
    filter-append (λ (x : Line). not (is_among x.number read)) lines (l ∷ []) ∙ rw new refl

-- a line that comes and is read leaves the held ones as they are
pub held_as_read : (low next : ℕ) (read : List ℕ) (lines : List Line) (l : Line) → Rise low next lines → l.number ≡ next
    → held (lines ++ l ∷ []) (l.number ∷ read) ≡ held lines read
held_as_read low next read lines l rise is =
    let itself : (l.number == l.number) ≡ true = eq-eqb l.number l.number refl in
    let apart : Lack l.number lines = lack_after low next l.number lines (omega (arith, is)) rise in
    filter-append (λ (x : Line). not (is_among x.number (l.number ∷ read))) lines (l ∷ [])
    ∙ rw itself (append-nil (held lines (l.number ∷ read)) ∙ held_other l.number read lines apart)

-- ---- the first held line of a pid
-- it is of that pid
pub found_pid : (pid : ℕ) (lines : List Line) (l : Line) → find (is_line_of pid) lines ≡ Some l → l.pid ≡ pid
found_pid pid [] l is = absurd (cc)
found_pid pid (x ∷ lines) l is =
    (elim (cases_Bool (x.pid == pid)) as (λ _. find (is_line_of pid) (x ∷ lines) ≡ Some l → l.pid ≡ pid) [
      | inl e ↦ rw e (λ same. let this : x ≡ l = same_Some x l same in ap (λ (y : Line). y.pid) (sym this) ∙ eqb-true x.pid pid e)
      | inr e ↦ rw e (λ later. found_pid pid lines l later)
    ]) is

-- its number is within those of all lines
pub found_within : (low next pid : ℕ) (read : List ℕ) (lines : List Line) (l : Line) → Rise low next lines
    → find (is_line_of pid) (held lines read) ≡ Some l → (low ≤ l.number) × (l.number < next)
found_within low next pid read [] l rise is = absurd (cc)
found_within low next pid read (x ∷ lines) l rise is =
    let here : low ≤ x.number = rise.0 in
    let after : x.number + 1 ≤ next = rise_ends (x.number + 1) next lines rise.1 in
    let later : find (is_line_of pid) (held lines read) ≡ Some l → (low ≤ l.number) × (l.number < next) =
    λ found. let within : (x.number + 1 ≤ l.number) × (l.number < next) = found_within (x.number + 1) next pid read lines l rise.1 found in
    let above : x.number + 1 ≤ l.number = within.0 in (omega (arith, here, above), within.1) in
    (elim (cases_Bool (is_among x.number read)) as (λ _. find (is_line_of pid) (held (x ∷ lines) read) ≡ Some l → (low ≤ l.number) × (l.number < next)) [
      | inl e ↦ rw e later
      | inr e ↦ rw e (elim (cases_Bool (x.pid == pid)) as (λ _. find (is_line_of pid) (x ∷ held lines read) ≡ Some l → (low ≤ l.number) × (l.number < next)) [
        | inl same ↦ rw same (λ found. let this : x ≡ l = same_Some x l found in rw (sym this) (here, omega (arith, after)))
        | inr other ↦ rw other later
      ])
    ]) is

-- a number that was read stays one
among_more : (number other : ℕ) (read : List ℕ) → is_among number read ≡ true → is_among number (other ∷ read) ≡ true
among_more number other read is = elim (other == number) as (λ (b : Bool). (b || is_among number read) ≡ true) [ true ↦ refl | false ↦ is ]

-- the held lines after that line was read too, the first of which wasn't read before
abbrev without_read : Line → List Line → List ℕ → Line → List Line
without_read x lines read l =
    let rest = held lines (l.number ∷ read) in cond (not ((l.number == x.number) || false)) (x ∷ rest) rest

-- reading it leaves the others held
pub held_without : (low next pid : ℕ) (read : List ℕ) (lines : List Line) (l : Line) → Rise low next lines
    → find (is_line_of pid) (held lines read) ≡ Some l → held lines (l.number ∷ read) ≡ without_first pid (held lines read)
held_without low next pid read [] l rise is = absurd (cc)
held_without low next pid read (x ∷ lines) l rise is =
    let itself : (x.number == x.number) ≡ true = eq-eqb x.number x.number refl in
    let apart : Lack x.number lines = lack_before (x.number + 1) next x.number lines (omega (arith)) rise.1 in
    let later : find (is_line_of pid) (held lines read) ≡ Some l → held lines (l.number ∷ read) ≡ without_first pid (held lines read) =
    held_without (x.number + 1) next pid read lines l rise.1 in
    let differs : find (is_line_of pid) (held lines read) ≡ Some l → (l.number == x.number) ≡ false =
    λ found. let above : x.number + 1 ≤ l.number = (found_within (x.number + 1) next pid read lines l rise.1 found).0 in
    ne_eqb l.number x.number (λ same. absurd (omega (arith, above, same))) in
    (elim (cases_Bool (is_among x.number read)) as (λ _. find (is_line_of pid) (held (x ∷ lines) read) ≡ Some l
    → held (x ∷ lines) (l.number ∷ read) ≡ without_first pid (held (x ∷ lines) read)) [
      | inl e ↦ rw (among_more x.number l.number read e) (rw e later)
      | inr e ↦ elim (cases_Bool (x.pid == pid)) as (λ _. find (is_line_of pid) (held (x ∷ lines) read) ≡ Some l
          → held (x ∷ lines) (l.number ∷ read) ≡ without_first pid (held (x ∷ lines) read)) [
            | inl same ↦ rw e (rw same (λ found. let this : x ≡ l = same_Some x l found in
                subst (λ (y : Line). without_read x lines read y ≡ held lines read) this (rw itself (held_other x.number read lines apart))))
            | inr other ↦ rw e (rw other (λ found. rw (differs found) (ap (λ (rest : List Line). x ∷ rest) (later found))))
          ]
    ]) is

-- ---- the next line to be read
-- what is found for the first pid is the line, and what is found else is one of the others'
first_found : (p : Parts) (lines : List Line) (pid : ℕ) (others : List ℕ) (x : Next)
    → (next_line p lines others ≡ Some x → find (is_line_of x.line.pid) lines ≡ Some x.line)
    → (found : Option Line) → find (is_line_of pid) lines ≡ found
    → option_or (next_with (pid ∷ others) found) (next_line p lines others) ≡ Some x → find (is_line_of x.line.pid) lines ≡ Some x.line
first_found p lines pid others x rest None is next = rest next
first_found p lines pid others x rest (Some l) is next =
    let this : record { line = l; pids = pid ∷ others } ≡ x = same_Some (record { line = l; pids = pid ∷ others }) x next in
    let line : l ≡ x.line = ap (λ (n : Next). n.line) this in
    let own : find (is_line_of l.pid) lines ≡ Some l = subst (λ (n : ℕ). find (is_line_of n) lines ≡ Some l) (sym (found_pid pid lines l is)) is in
    subst (λ (y : Line). find (is_line_of y.pid) lines ≡ Some y) line own

-- the next line of some pids is the first held one of its own
pub next_found : (p : Parts) (lines : List Line) (pids : List ℕ) (x : Next) → next_line p lines pids ≡ Some x → find (is_line_of x.line.pid) lines ≡ Some x.line
next_found p lines [] x is = absurd (cc)
next_found p lines (pid ∷ pids) x is =
    (elim (cases_Bool (is_known pid p)) as (λ _. next_line p lines (pid ∷ pids) ≡ Some x → find (is_line_of x.line.pid) lines ≡ Some x.line) [
      | inl e ↦ rw e (first_found p lines pid pids x (next_found p lines pids x) (find (is_line_of pid) lines) refl)
      | inr e ↦ rw e (next_found p lines pids x)
    ]) is

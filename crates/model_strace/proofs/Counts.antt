-- A session tells no more events than it holds lines and others come: each line is read once, and gives at most one.
use Rattle.std.proofs.Common.{◌≡◌, ◌≤◌, ℕ, zero, suc, ◌+◌, ◌==◌, Bool, true, false, List, [], ◌∷◌, ◌++◌, length, find, Option}
use Rattle.std.proofs.Common.{Some, None, refl, cond, length-append, arith, inl, inr}
use Rattle.std.proofs.lemmas.Bool.{cases_lt, le-ltb}
use Rattle.std.specs.Prelude.{nat_lt, if◌then◌else◌}
use Rattle.cm_base.specs.declared.limited.Limited.TheVariants as limit
use Rattle.cm_base.specs.Limited.{limit_number}
use Rattle.cm_lines.specs.declared.limits.Past.{Past}
use Rattle.model_cred.specs.World.{World}
use Rattle.model_strace.proofs.HeldLines.{next_found}
use Rattle.model_strace.specs.After.{After, Goes, Halts, preceded, and_then}
use Rattle.model_strace.specs.Body.{PidLine, Blank, NoPid, Of, row_of}
use Rattle.model_strace.specs.Counts.{EventsWithinLines, EventsOfLine, EventsOfEnd, HeldIsLimited, LinesAreCounted}
use Rattle.model_strace.specs.Counts.{EndsAreNotCounted, held_count}
use Rattle.model_strace.specs.Lines.{Line, Read, Next, is_line_of, given_at, read_line, next_line, at_end, at_end_turn, ended}
use Rattle.model_strace.specs.Parts.{Parts, is_known, without_any_kept}
use Rattle.model_strace.specs.Rest.{Work, Going, Stopped, Finished, without_first, then_released, released, read_fed}
use Rattle.model_strace.specs.Rest.{held_fed, line_fed, row_fed, fed, all_fed, work_end, work_ended, answer_of}
use Rattle.model_strace.specs.Rest.{lines_fed, session_of, session_ended, after_line}
use Rattle.model_strace.specs.Turn.{Turn, Quiet, turn}
use Rattle.model_text.specs.Reading.{Placed, Limit, End, AtEnd, Stops, Reading}

-- So many events, and what is known then counts so many more, are at most this.
abbrev Within : {S : Type 0} → (S → ℕ) → ℕ → After S → Type 0
Within count most (Goes es s) = length es + count s ≤ most
Within count most (Halts es stop) = length es ≤ most

-- the held lines are what counts
abbrev holds : Work → ℕ
holds t = length t.held

-- nothing counts
abbrev none : Read → ℕ
none r = 0

within_preceded : {S : Type 0} (count : S → ℕ) (most : ℕ) (es : List Placed) (a : After S) → Within count most a
    → Within count (length es + most) (preceded es a)
within_preceded count most es (Goes fs s) is =
    let long : length (es ++ fs) ≡ length es + length fs = length-append es fs in
    let fits : length fs + count s ≤ most = is in
    omega (arith, long, fits)
within_preceded count most es (Halts fs stop) is =
    let long : length (es ++ fs) ≡ length es + length fs = length-append es fs in
    let fits : length fs ≤ most = is in
    omega (arith, long, fits)

within_more : {S : Type 0} (count : S → ℕ) (most more : ℕ) (a : After S) → most ≤ more → Within count most a → Within count more a
within_more count most more (Goes es s) up is = let fits : length es + count s ≤ most = is in omega (arith, up, fits)
within_more count most more (Halts es stop) up is = let fits : length es ≤ most = is in omega (arith, up, fits)

-- one thing gives so many events, and the next one as many as it counts and a number more
within_then : {S T : Type 0} (count : S → ℕ) (later : T → ℕ) (most more : ℕ) (a : After S) (next : S → After T) → Within count most a
    → ((s : S) → Within later (count s + more) (next s)) → Within later (most + more) (and_then a next)
within_then count later most more (Goes es s) next is rest =
    let fits : length es + count s ≤ most = is in
    within_more later (length es + (count s + more)) (most + more) (preceded es (next s)) (omega (arith, fits))
    (within_preceded later (count s + more) es (next s) (rest s))
within_then count later most more (Halts es stop) next is rest = let fits : length es ≤ most = is in omega (arith, fits)

-- ---- one line
given_once : (number : ℕ) (t : Turn) → Within none 1 (given_at number t)
given_once number (Quiet p) = omega arith
given_once number _ = omega arith

read_once : (w : World) (l : Line) (p : Parts) → Within none 1 (read_line w l p)
read_once w l p = given_once l.number (turn w l.pid l.body p)

after_once : (most : ℕ) (r : Read) (a : After Work) → Within holds most a → Within holds (none r + most) a
after_once most r a is = within_more holds most (none r + most) a (omega arith) is

-- ---- held lines
-- without the one that is found there is one less
pub one_less : (pid : ℕ) (lines : List Line) (l : Line) → find (is_line_of pid) lines ≡ Some l → length (without_first pid lines) + 1 ≡ length lines
one_less pid [] l found = absurd (cc)
one_less pid (x ∷ lines) l found =
    let later : find (is_line_of pid) lines ≡ Some l → length (without_first pid lines) + 1 ≡ length lines = one_less pid lines l in
    (elim (x.pid == pid) as (λ (b : Bool). cond b (Some x) (find (is_line_of pid) lines) ≡ Some l
    → length (cond b lines (x ∷ without_first pid lines)) + 1 ≡ suc (length lines)) [
      | true ↦ λ same. omega arith
      | false ↦ λ rest. let less : length (without_first pid lines) + 1 ≡ length lines = later rest in omega (arith, less)
    ]) found

next_within : (w : World) (left : ℕ) (t : Work) (x : Option Next) → ((n : Next) → x ≡ Some n → length (without_first n.line.pid t.held) + 1 ≡ length t.held)
    → ((pids : List ℕ) (t' : Work) → Within holds (length t'.held) (released w left pids t'))
    → Within holds (length t.held) (then_released w x t (λ pids t'. released w left pids t'))
next_within w left t None less later = omega arith
next_within w left t (Some x) less later =
    let fewer : length (without_first x.line.pid t.held) + 1 ≡ length t.held = less x refl in
    within_more holds (1 + length (without_first x.line.pid t.held)) (length t.held)
    (and_then (read_line w x.line t.parts)
    (λ r. released w left (r.born ++ x.pids) (record t { parts = r.parts; held = without_first x.line.pid t.held })))
    (omega (arith, fewer))
    (within_then none holds 1 (length (without_first x.line.pid t.held)) (read_line w x.line t.parts)
    (λ r. released w left (r.born ++ x.pids) (record t { parts = r.parts; held = without_first x.line.pid t.held }))
    (read_once w x.line t.parts)
    (λ r. after_once (length (without_first x.line.pid t.held)) r
    (released w left (r.born ++ x.pids) (record t { parts = r.parts; held = without_first x.line.pid t.held }))
    (later (r.born ++ x.pids) (record t { parts = r.parts; held = without_first x.line.pid t.held }))))

released_within : (w : World) (left : ℕ) (pids : List ℕ) (t : Work) → Within holds (length t.held) (released w left pids t)
released_within w zero pids t = omega arith
released_within w (suc left) pids t =
    next_within w left t (next_line t.parts t.held pids)
    (λ n is. one_less n.line.pid t.held n.line (next_found t.parts t.held pids n is))
    (λ pids' t'. released_within w left pids' t')

-- ---- lines
now_within : (w : World) (l : Line) (t : Work) → Within holds (1 + length t.held) (read_fed w l t)
now_within w l t =
    within_then none holds 1 (length t.held) (read_line w l t.parts) (λ r. released w (length t.held) r.born (record t { parts = r.parts }))
    (read_once w l t.parts)
    (λ r. after_once (length t.held) r (released w (length t.held) r.born (record t { parts = r.parts }))
    (released_within w (length t.held) r.born (record t { parts = r.parts })))

hold_within : (l : Line) (t : Work) → Within holds (1 + length t.held) (held_fed l t)
hold_within l t =
    let more : length (t.held ++ l ∷ []) ≡ length t.held + 1 = length-append t.held (l ∷ []) in
    elim (nat_lt (limit_number limit.Held) (length (t.held ++ l ∷ []))) as (λ (b : Bool). Within holds (1 + length t.held)
    (if b then Halts [] (Limit limit.Held) else Goes [] (record t { held = t.held ++ l ∷ [] }))) [
      | true ↦ omega arith
      | false ↦ omega (arith, more)
    ]

line_within : (w : World) (l : Line) (t : Work) → Within holds (1 + length t.held) (line_fed w l t)
line_within w l t =
    elim (is_known l.pid t.parts) as (λ (b : Bool). Within holds (1 + length t.held) (if b then read_fed w l t else held_fed l t)) [
      | true ↦ now_within w l t
      | false ↦ hold_within l t
    ]

row_within : (w : World) (row : PidLine) (t : Work) → Within holds (1 + length t.held) (row_fed w row t)
row_within w (Of pid body) t = line_within w (record { number = t.count; pid = pid; body = body }) t
row_within w _ t = omega arith

fed_within : (w : World) (line : List ℕ) (t : Work) → Within holds (1 + length t.held) (fed w line t)
fed_within w line t = row_within w (row_of line) (record t { count = t.count + 1 })

all_within : (w : World) (lines : List (List ℕ)) (t : Work) → Within holds (length t.held + length lines) (all_fed w lines t)
all_within w [] t = omega arith
all_within w (line ∷ lines) t =
    within_more holds ((1 + length t.held) + length lines) (length t.held + suc (length lines))
    (and_then (fed w line t) (λ t'. all_fed w lines t')) (omega arith)
    (within_then holds holds (1 + length t.held) (length lines) (fed w line t) (λ t'. all_fed w lines t')
    (fed_within w line t) (λ t'. all_within w lines t'))

-- ---- the log's end
end_turn_once : (number : ℕ) (t : Turn) (more : ℕ) (later : Parts → Reading) → ((p : Parts) → length (later p).events ≤ more)
    → length (at_end_turn number t later).events ≤ suc more
end_turn_once number (Quiet p) more later rest = let fits : length (later p).events ≤ more = rest p in omega (arith, fits)
end_turn_once number _ more later rest = omega arith

end_within : (w : World) (lines : List Line) (p : Parts) → length (at_end w lines p).events ≤ length lines
end_within w [] p = omega arith
end_within w (l ∷ lines) p =
    end_turn_once l.number (turn w l.pid l.body p) (length lines) (λ p'. at_end w lines p') (λ p'. end_within w lines p')

-- at a limit it tells none
stop_within : (w : World) (stop : Option Past) (t : Work) → length (work_ended w stop t).events ≤ length t.held
stop_within w None t = end_within w t.held (without_any_kept t.parts)
stop_within w (Some past) t = omega arith

ended_within : (w : World) (stop : Option Past) (most : ℕ) (a : After Work) → Within holds most a → length (ended (work_ended w stop) a).events ≤ most
ended_within w stop most (Goes es t) is =
    let long : length (es ++ (work_ended w stop t).events) ≡ length es + length (work_ended w stop t).events =
    length-append es (work_ended w stop t).events in
    let end : length (work_ended w stop t).events ≤ length t.held = stop_within w stop t in
    let fits : length es + length t.held ≤ most = is in
    omega (arith, long, end, fits)
ended_within w stop most (Halts es other) is = is

pub events_within_lines : EventsWithinLines
unfolding EventsWithinLines
events_within_lines w (Going t) cut =
    ended_within w cut.stop (length t.held + length cut.lines) (all_fed w cut.lines t) (all_within w cut.lines t)
events_within_lines w _ cut = omega arith

-- ---- one line, and the end
answer_within : (most count : ℕ) (a : After Work) → Within holds most a → length (answer_of a).events + held_count (session_of count a) ≤ most
answer_within most count (Goes es t) is = is
answer_within most count (Halts es stop) is = let fits : length es ≤ most = is in omega (arith, fits)

pub events_of_line : EventsOfLine
unfolding EventsOfLine
events_of_line w (Going t) line =
    let fits : length (answer_of (fed w line t)).events + held_count (session_of (t.count + 1) (fed w line t)) ≤ 1 + length t.held =
    answer_within (1 + length t.held) (t.count + 1) (fed w line t) (fed_within w line t) in
    omega (arith, fits)
events_of_line w _ line = omega arith

pub events_of_end : EventsOfEnd
unfolding EventsOfEnd
events_of_end w (Going t) = end_within w t.held (without_any_kept t.parts)
events_of_end w _ = omega arith

-- ---- how many are held
-- where it goes on, it holds no more than this
abbrev HoldsFew : ℕ → After Work → Type 0
HoldsFew most (Goes es t) = length t.held ≤ most
HoldsFew most (Halts es stop) = Unit {0}

few_then : (most : ℕ) (a : After Read) (next : Read → After Work) → ((r : Read) → HoldsFew most (next r)) → HoldsFew most (and_then a next)
few_then most (Goes es r) next each = few_preceded (next r) (each r)
  where
    few_preceded : (a : After Work) → HoldsFew most a → HoldsFew most (preceded es a)
    few_preceded (Goes fs t) few = few
    few_preceded (Halts fs stop) few = tt
few_then most (Halts es stop) next each = tt

few_of_within : (most : ℕ) (a : After Work) → Within holds most a → HoldsFew most a
few_of_within most (Goes es t) is = let fits : length es + length t.held ≤ most = is in omega (arith, fits)
few_of_within most (Halts es stop) is = tt

hold_few : (l : Line) (t : Work) → HoldsFew (limit_number limit.Held) (held_fed l t)
hold_few l t = elim (cases_lt (limit_number limit.Held) (length (t.held ++ l ∷ []))) [
  | inl over ↦ let past : nat_lt (limit_number limit.Held) (length (t.held ++ l ∷ [])) ≡ true = grind (arith, over) in rw past tt
  | inr few ↦ rw (le-ltb (limit_number limit.Held) (length (t.held ++ l ∷ [])) few) few
]

line_few : (w : World) (l : Line) (t : Work) → length t.held ≤ limit_number limit.Held → HoldsFew (limit_number limit.Held) (line_fed w l t)
line_few w l t few =
    elim (is_known l.pid t.parts) as (λ (b : Bool). HoldsFew (limit_number limit.Held) (if b then read_fed w l t else held_fed l t)) [
      | true ↦ few_then (limit_number limit.Held) (read_line w l t.parts)
          (λ r. released w (length t.held) r.born (record t { parts = r.parts }))
          (λ r. few_more (length t.held) (released w (length t.held) r.born (record t { parts = r.parts })) few
          (few_of_within (length t.held) (released w (length t.held) r.born (record t { parts = r.parts }))
          (released_within w (length t.held) r.born (record t { parts = r.parts }))))
      | false ↦ hold_few l t
    ]
  where
    few_more : (n : ℕ) (a : After Work) → n ≤ limit_number limit.Held → HoldsFew n a → HoldsFew (limit_number limit.Held) a
    few_more n (Goes es t) up is = let fits : length t.held ≤ n = is in omega (arith, fits, up)
    few_more n (Halts es stop) up is = tt

row_few : (w : World) (row : PidLine) (t : Work) → length t.held ≤ limit_number limit.Held → HoldsFew (limit_number limit.Held) (row_fed w row t)
row_few w Blank t few = few
row_few w NoPid t few = tt
row_few w (Of pid body) t few = line_few w (record { number = t.count; pid = pid; body = body }) t few

session_few : (count : ℕ) (a : After Work) → HoldsFew (limit_number limit.Held) a → held_count (session_of count a) ≤ limit_number limit.Held
session_few count (Goes es t) few = few
session_few count (Halts es stop) few = omega arith

pub held_is_limited : HeldIsLimited
unfolding HeldIsLimited
held_is_limited w (Going t) line few =
    session_few (t.count + 1) (fed w line t) (row_few w (row_of line) (record t { count = t.count + 1 }) few)
held_is_limited w (Stopped count stop) line few = omega arith
held_is_limited w (Finished count) line few = omega arith

-- ---- how many lines are counted
-- where it goes on, it has counted so many
abbrev Counted : ℕ → After Work → Type 0
Counted n (Goes es t) = t.count ≡ n
Counted n (Halts es stop) = Unit {0}

counted_preceded : (n : ℕ) (es : List Placed) (a : After Work) → Counted n a → Counted n (preceded es a)
counted_preceded n es (Goes fs t) is = is
counted_preceded n es (Halts fs stop) is = tt

counted_then : {S : Type 0} (n : ℕ) (a : After S) (next : S → After Work) → ((s : S) → Counted n (next s)) → Counted n (and_then a next)
counted_then n (Goes es s) next later = counted_preceded n es (next s) (later s)
counted_then n (Halts es stop) next later = tt

next_counted : (w : World) (left : ℕ) (t : Work) (x : Option Next)
    → ((pids : List ℕ) (t' : Work) → Counted t'.count (released w left pids t'))
    → Counted t.count (then_released w x t (λ pids t'. released w left pids t'))
next_counted w left t None later = refl
next_counted w left t (Some x) later =
    counted_then t.count (read_line w x.line t.parts)
    (λ r. released w left (r.born ++ x.pids) (record t { parts = r.parts; held = without_first x.line.pid t.held }))
    (λ r. later (r.born ++ x.pids) (record t { parts = r.parts; held = without_first x.line.pid t.held }))

released_counted : (w : World) (left : ℕ) (pids : List ℕ) (t : Work) → Counted t.count (released w left pids t)
released_counted w zero pids t = refl
released_counted w (suc left) pids t =
    next_counted w left t (next_line t.parts t.held pids) (λ pids' t'. released_counted w left pids' t')

hold_counted : (l : Line) (t : Work) → Counted t.count (held_fed l t)
hold_counted l t =
    elim (nat_lt (limit_number limit.Held) (length (t.held ++ l ∷ []))) as (λ (b : Bool). Counted t.count
    (if b then Halts [] (Limit limit.Held) else Goes [] (record t { held = t.held ++ l ∷ [] }))) [
      | true ↦ tt
      | false ↦ refl
    ]

line_counted : (w : World) (l : Line) (t : Work) → Counted t.count (line_fed w l t)
line_counted w l t =
    elim (is_known l.pid t.parts) as (λ (b : Bool). Counted t.count (if b then read_fed w l t else held_fed l t)) [
      | true ↦ counted_then t.count (read_line w l t.parts) (λ r. released w (length t.held) r.born (record t { parts = r.parts }))
          (λ r. released_counted w (length t.held) r.born (record t { parts = r.parts }))
      | false ↦ hold_counted l t
    ]

row_counted : (w : World) (row : PidLine) (t : Work) → Counted t.count (row_fed w row t)
row_counted w Blank t = refl
row_counted w NoPid t = tt
row_counted w (Of pid body) t = line_counted w (record { number = t.count; pid = pid; body = body }) t

session_counted : (n : ℕ) (a : After Work) → Counted n a → lines_fed (session_of n a) ≡ n
session_counted n (Goes es t) is = is
session_counted n (Halts es stop) is = refl

-- the line is counted
pub line_is_counted : (w : World) (t : Work) (line : List ℕ) → lines_fed (after_line w (Going t) line) ≡ t.count + 1
line_is_counted w t line =
    session_counted (t.count + 1) (fed w line t) (row_counted w (row_of line) (record t { count = t.count + 1 }))

pub lines_are_counted : LinesAreCounted
unfolding LinesAreCounted
lines_are_counted w (Going t) line = let is : lines_fed (after_line w (Going t) line) ≡ t.count + 1 = line_is_counted w t line in omega (arith, is)
lines_are_counted w _ line = omega arith

ended_counted : (count : ℕ) (ending : End) → lines_fed (session_ended count ending) ≡ count
ended_counted count AtEnd = refl
ended_counted count (Stops stop) = refl

pub ends_are_not_counted : EndsAreNotCounted
unfolding EndsAreNotCounted
ends_are_not_counted w (Going t) = ended_counted t.count (work_end w t).ending
ends_are_not_counted w _ = refl

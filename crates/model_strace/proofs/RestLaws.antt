-- A session that has just begun gives the reading: line by line it knows what the reading knows, and holds the lines that the
-- reading hasn't read.
use Rattle.std.proofs.Common.{◌≡◌, ℕ, zero, suc, ◌+◌, Bool, true, false, List, [], ◌∷◌, ◌++◌, length, find, Option}
use Rattle.std.proofs.Common.{Some, None, refl, sym, ap, ap₂, ◌∙◌, subst, append_assoc, append-nil, arith}
use Rattle.std.specs.Prelude.{nat_lt, if◌then◌else◌}
use Rattle.cm_base.specs.declared.limited.Limited.TheVariants as limit
use Rattle.cm_base.specs.Limited.{limit_number}
use Rattle.cm_lines.specs.Cut.{Cut}
use Rattle.cm_lines.specs.declared.limits.Past.{Past}
use Rattle.model_cred.specs.World.{World}
use Rattle.model_strace.proofs.HeldLines.{Rise, Below, rise_more, rise_later, below_more, later_not_among, held_more}
use Rattle.model_strace.proofs.HeldLines.{held_as_read, found_within, held_without, next_found}
use Rattle.model_strace.specs.After.{After, Goes, Halts, preceded, and_then}
use Rattle.model_strace.specs.Body.{PidLine, Blank, NoPid, Of, row_of}
use Rattle.model_strace.specs.Lines.{Line, Read, Moment, Next, Progress, is_among, held, is_line_of, read_line}
use Rattle.model_strace.specs.Lines.{next_line, moment_after, then_rest, read_born, read_now, hold, arrives}
use Rattle.model_strace.specs.Lines.{row_read, rows_read, beginning, ended, log_end}
use Rattle.model_strace.specs.Parts.{is_known}
use Rattle.model_strace.specs.Rest.{Work, first_work, without_first, then_released, released, read_fed, held_fed}
use Rattle.model_strace.specs.Rest.{line_fed, row_fed, fed, all_fed, work_end, work_ended, Going, session_of, answer_of}
use Rattle.model_strace.specs.Rest.{answered_then, rest, BeginsWithReading, LinesGoOn, EndsForGood, session_ended}
use Rattle.model_text.specs.Reading.{Placed, Stop, Limit, End, AtEnd, Stops, Reading, ends_at}

-- The same events, and the same stop, or what is known on both sides is so related.
abbrev Same : {S T : Type 0} → (S → T → Type 0) → After S → After T → Type 0
Same related (Goes es s) (Goes fs t) = (es ≡ fs) × related s t
Same related (Halts es stop) (Halts fs other) = (es ≡ fs) × (stop ≡ other)
Same related _ _ = ⊥

-- what is the same stays so after the same events
same_preceded : {S T : Type 0} (related : S → T → Type 0) (es : List Placed) (a : After S) (b : After T)
    → Same related a b → Same related (preceded es a) (preceded es b)
same_preceded related es (Goes fs s) (Goes gs t) same = (ap (λ (l : List Placed). es ++ l) same.0, same.1)
same_preceded related es (Halts fs s) (Halts gs t) same = (ap (λ (l : List Placed). es ++ l) same.0, same.1)
same_preceded related es _ _ same = absurd same

-- one thing after another is the same where both are
same_then : {S T X Y : Type 0} (related : S → T → Type 0) (later : X → Y → Type 0) (a : After S) (b : After T) (f : S → After X) (g : T → After Y)
    → Same related a b → ((s : S) (t : T) → related s t → Same later (f s) (g t)) → Same later (and_then a f) (and_then b g)
same_then related later (Goes es s) (Goes fs t) f g same next =
    subst (λ (l : List Placed). Same later (preceded es (f s)) (preceded l (g t))) same.0
    (same_preceded later es (f s) (g t) (next s t same.1))
same_then related later (Halts es s) (Halts fs t) f g same next = same
same_then related later _ _ f g same next = absurd same

-- a thing is the same as itself
same_self : {S : Type 0} (a : After S) → Same (λ (s t : S). s ≡ t) a a
same_self (Goes es s) = (refl, refl)
same_self (Halts es stop) = (refl, refl)

-- ---- held lines of births
-- a session's work at a moment of the reading, so many lines having come
abbrev work_at : ℕ → List Line → Moment → Work
work_at count lines m = record { parts = m.parts; held = held lines m.read; count = count }

-- the session is at that moment, and the numbers read are those of lines so far
abbrev At : ℕ → List Line → Moment → Work → Type 0
At count lines m t = (t ≡ work_at count lines m) × Below (count + 1) m.read

-- the moment after the next line is read
at_next : (count : ℕ) (lines : List Line) (pids : List ℕ) (m : Moment) (x : Next) (r : Read) → Rise 1 (count + 1) lines → Below (count + 1) m.read
    → next_line m.parts (held lines m.read) pids ≡ Some x
    → At count lines (moment_after x.line r m) (record { parts = r.parts; held = without_first x.line.pid (held lines m.read); count = count })
at_next count lines pids m x r rise below is =
    let found : find (is_line_of x.line.pid) (held lines m.read) ≡ Some x.line = next_found m.parts (held lines m.read) pids x is in
    let others : held lines (x.line.number ∷ m.read) ≡ without_first x.line.pid (held lines m.read) =
    held_without 1 (count + 1) x.line.pid m.read lines x.line rise found in (
      ap (λ (h : List Line). let t : Work = record { parts = r.parts; held = h; count = count } in t) (sym others),
      ((found_within 1 (count + 1) x.line.pid m.read lines x.line rise found).1, below),
    )

-- the next line is read alike, where what comes after it is
born_next : (w : World) (count left : ℕ) (lines : List Line) (pids : List ℕ) (m : Moment) → Rise 1 (count + 1) lines → Below (count + 1) m.read
    → ((pids' : List ℕ) (m' : Moment) → Below (count + 1) m'.read
    → Same (At count lines) (read_born w left lines pids' m') (released w left pids' (work_at count lines m')))
    → (x : Option Next) → next_line m.parts (held lines m.read) pids ≡ x
    → Same (At count lines) (then_rest w x m (λ pids' m'. read_born w left lines pids' m'))
    (then_released w x (work_at count lines m) (λ pids' t'. released w left pids' t'))
born_next w count left lines pids m rise below later None is = (refl, (refl, below))
born_next w count left lines pids m rise below later (Some x) is =
    let fed : Read → After Work =
    λ r. released w left (r.born ++ x.pids) (record { parts = r.parts; held = without_first x.line.pid (held lines m.read); count = count }) in
    let after : (r : Read) → Same (At count lines) (read_born w left lines (r.born ++ x.pids) (moment_after x.line r m)) (fed r) =
    λ r. let at : At count lines (moment_after x.line r m) (record { parts = r.parts; held = without_first x.line.pid (held lines m.read); count = count }) =
    at_next count lines pids m x r rise below is in
    subst (λ (t : Work). Same (At count lines) (read_born w left lines (r.born ++ x.pids) (moment_after x.line r m)) (released w left (r.born ++ x.pids) t))
    (sym at.0) (later (r.born ++ x.pids) (moment_after x.line r m) at.1) in
    same_then (λ (r s : Read). r ≡ s) (At count lines) (read_line w x.line m.parts) (read_line w x.line m.parts)
    (λ r. read_born w left lines (r.born ++ x.pids) (moment_after x.line r m)) fed (same_self (read_line w x.line m.parts))
    (λ r s same. subst (λ (q : Read). Same (At count lines) (read_born w left lines (r.born ++ x.pids) (moment_after x.line r m)) (fed q)) same (after r))

-- the held lines of the same pids are read alike
born_alike : (w : World) (count left : ℕ) (lines : List Line) (pids : List ℕ) (m : Moment) → Rise 1 (count + 1) lines → Below (count + 1) m.read
    → Same (At count lines) (read_born w left lines pids m) (released w left pids (work_at count lines m))
born_alike w count zero lines pids m rise below = (refl, (refl, below))
born_alike w count (suc left) lines pids m rise below =
    born_next w count left lines pids m rise below (λ pids' m' below'. born_alike w count left lines pids' m' rise below')
    (next_line m.parts (held lines m.read) pids) refl

-- ---- a line that comes
-- the line of the next number is read alike, and so are the held lines after it
now_alike : (w : World) (count : ℕ) (lines : List Line) (l : Line) (m : Moment) → l.number ≡ count → Rise 1 count lines → Below count m.read
    → Same (At count (lines ++ l ∷ [])) (read_now w (lines ++ l ∷ []) l m) (read_fed w l (work_at count lines m))
now_alike w count lines l m is rise below =
    let kept : held (lines ++ l ∷ []) (l.number ∷ m.read) ≡ held lines m.read = held_as_read 1 count m.read lines l rise is in
    let rises : Rise 1 (count + 1) (lines ++ l ∷ []) = rise_more 1 count lines l is rise in
    let among : Below (count + 1) (l.number ∷ m.read) = (omega (arith, is), below_more count m.read below) in
    let fed : Read → After Work =
    λ r. released w (length (held lines m.read)) r.born (record { parts = r.parts; held = held lines m.read; count = count }) in
    let told : Read → After Moment =
    λ r. read_born w (length (held (lines ++ l ∷ []) (l.number ∷ m.read))) (lines ++ l ∷ []) r.born (moment_after l r m) in
    let after : (r : Read) → Same (At count (lines ++ l ∷ [])) (told r) (fed r) =
    λ r. subst (λ (h : List Line). Same (At count (lines ++ l ∷ [])) (told r)
    (released w (length h) r.born (record { parts = r.parts; held = h; count = count })))
    kept (born_alike w count (length (held (lines ++ l ∷ []) (l.number ∷ m.read))) (lines ++ l ∷ []) r.born (moment_after l r m) rises among) in
    same_then (λ (r s : Read). r ≡ s) (At count (lines ++ l ∷ [])) (read_line w l m.parts) (read_line w l m.parts) told fed
    (same_self (read_line w l m.parts))
    (λ r s same. subst (λ (q : Read). Same (At count (lines ++ l ∷ [])) (told r) (fed q)) same (after r))

-- the line of the next number is held alike
hold_alike : (count : ℕ) (lines : List Line) (l : Line) (m : Moment) → l.number ≡ count → Rise 1 count lines → Below count m.read
    → Same (At count (lines ++ l ∷ [])) (hold (lines ++ l ∷ []) m) (held_fed l (work_at count lines m))
hold_alike count lines l m is rise below =
    let new : is_among l.number m.read ≡ false = subst (λ (n : ℕ). is_among n m.read ≡ false) (sym is) (later_not_among count m.read below) in
    let more : held (lines ++ l ∷ []) m.read ≡ held lines m.read ++ l ∷ [] = held_more m.read lines l new in
    subst (λ (h : List Line). Same (At count (lines ++ l ∷ [])) (hold (lines ++ l ∷ []) m)
    (if nat_lt (limit_number limit.Held) (length h) then Halts [] (Limit limit.Held) else Goes [] (record { parts = m.parts; held = h; count = count })))
    more (elim (nat_lt (limit_number limit.Held) (length (held (lines ++ l ∷ []) m.read))) as (λ (b : Bool).
    Same (At count (lines ++ l ∷ [])) (if b then Halts [] (Limit limit.Held) else Goes [] m)
    (if b then Halts [] (Limit limit.Held) else Goes [] (work_at count (lines ++ l ∷ []) m))) [
      | true ↦ (refl, refl)
      | false ↦ (refl, (refl, below_more count m.read below))
    ])

-- the line of the next number comes alike
line_alike : (w : World) (count : ℕ) (lines : List Line) (l : Line) (m : Moment) → l.number ≡ count → Rise 1 count lines → Below count m.read
    → Same (At count (lines ++ l ∷ [])) (arrives w (lines ++ l ∷ []) l m) (line_fed w l (work_at count lines m))
line_alike w count lines l m is rise below =
    elim (is_known l.pid m.parts) as (λ (b : Bool). Same (At count (lines ++ l ∷ []))
    (if b then read_now w (lines ++ l ∷ []) l m else hold (lines ++ l ∷ []) m)
    (if b then read_fed w l (work_at count lines m) else held_fed l (work_at count lines m))) [
      | true ↦ now_alike w count lines l m is rise below
      | false ↦ hold_alike count lines l m is rise below
    ]

-- ---- lines
-- the session is where the reading is, so many lines having come
record Together (count : ℕ) (at : Progress) (t : Work) : Type 0 where
  work : t ≡ work_at count at.lines at.now
  rise : Rise 1 (count + 1) at.lines
  below : Below (count + 1) at.now.read

-- where what came is the same, so is what is made of it on the one side
same_made : {S T X : Type 0} (related : S → T → Type 0) (later : X → T → Type 0) (make : S → X) (a : After S) (b : After T)
    → Same related a b → ((s : S) (t : T) → related s t → later (make s) t) → Same later (and_then a (λ s. Goes [] (make s))) b
same_made related later make (Goes es s) (Goes fs t) same made = (append-nil es ∙ same.0, made s t same.1)
same_made related later make (Halts es s) (Halts fs t) same made = same
same_made related later make _ _ same made = absurd same

-- a row of the next number comes alike
row_alike : (w : World) (count : ℕ) (row : PidLine) (at : Progress) → Rise 1 (count + 1) at.lines → Below (count + 1) at.now.read
    → Same (Together (count + 1)) (row_read w (count + 1) row at) (row_fed w row (work_at (count + 1) at.lines at.now))
row_alike w count Blank at rise below =
    (refl, record { work = refl; rise = rise_later 1 (count + 1) at.lines rise; below = below_more (count + 1) at.now.read below })
row_alike w count NoPid at rise below = (refl, refl)
row_alike w count (Of pid body) at rise below =
    let l : Line = record { number = count + 1; pid = pid; body = body } in
    same_made (At (count + 1) (at.lines ++ l ∷ [])) (Together (count + 1)) (λ m. record { lines = at.lines ++ l ∷ []; now = m })
    (arrives w (at.lines ++ l ∷ []) l at.now) (line_fed w l (work_at (count + 1) at.lines at.now))
    (line_alike w (count + 1) at.lines l at.now refl rise below)
    (λ m t same. record { work = same.0; rise = rise_more 1 (count + 1) at.lines l refl rise; below = same.1 })

-- the session has what the reading has, however many lines came
abbrev Alike : Progress → Work → Type 0
Alike at t = (count : ℕ) × (t ≡ work_at count at.lines at.now)

-- lines come alike
rows_alike : (w : World) (count : ℕ) (lines : List (List ℕ)) (at : Progress) → Rise 1 (count + 1) at.lines → Below (count + 1) at.now.read
    → Same Alike (rows_read w (count + 1) lines at) (all_fed w lines (work_at count at.lines at.now))
rows_alike w count [] at rise below = (refl, (count, refl))
rows_alike w count (line ∷ lines) at rise below =
    same_then (Together (count + 1)) Alike (row_read w (count + 1) (row_of line) at) (row_fed w (row_of line) (work_at (count + 1) at.lines at.now))
    (λ at'. rows_read w (count + 1 + 1) lines at') (λ t'. all_fed w lines t')
    (row_alike w count (row_of line) at rise below)
    (λ at' t' same. subst (λ (t : Work). Same Alike (rows_read w (count + 1 + 1) lines at') (all_fed w lines t)) (sym same.work)
    (rows_alike w (count + 1) lines at' same.rise same.below))

-- ---- the end
-- a session ends as the reading does
end_alike : (w : World) (stop : Option Past) (count : ℕ) (at : Progress) → work_ended w stop (work_at count at.lines at.now) ≡ log_end w stop at
end_alike w None count at = refl
end_alike w (Some past) count at = refl

-- what has come alike ends alike
ends_alike : (w : World) (stop : Option Past) (a : After Progress) (b : After Work) → Same Alike a b → ended (work_ended w stop) b ≡ ended (log_end w stop) a
ends_alike w stop (Goes es at) (Goes fs t) same =
    sym (ap₂ (λ (events : List Placed) (t' : Work). ended (work_ended w stop) (Goes events t')) same.0 (sym same.1.1))
    ∙ ap (λ (end : Reading). let r : Reading = record { events = es ++ end.events; ending = end.ending } in r) (end_alike w stop same.1.0 at)
ends_alike w stop (Halts es one) (Halts fs other) same =
    sym (ap₂ (λ (events : List Placed) (s : Stop). ended (work_ended w stop) (Halts events s)) same.0 same.1)
ends_alike w stop _ _ same = absurd same

-- A session that has just begun gives the reading.
pub begins_with_reading : BeginsWithReading
unfolding BeginsWithReading
begins_with_reading w cut =
    ends_alike w cut.stop (rows_read w 1 cut.lines (beginning w)) (all_fed w cut.lines (first_work w))
    (rows_alike w 0 cut.lines (beginning w) (omega arith) tt)

-- ---- one line
-- what a line gave, and then what later ones give
goes_on : (w : World) (count : ℕ) (a : After Work) (cut : Cut)
    → ended (work_ended w cut.stop) (and_then a (λ t. all_fed w cut.lines t)) ≡ answered_then (answer_of a) (rest w (session_of count a) cut)
goes_on w count (Goes es t) cut = after_events (all_fed w cut.lines t)
  where
    after_events : (b : After Work) → ended (work_ended w cut.stop) (preceded es b)
        ≡ answered_then (record { events = es; ending = AtEnd }) (ended (work_ended w cut.stop) b)
    after_events (Goes fs t') =
        ap (λ (events : List Placed). let r : Reading = record { events = events; ending = (work_ended w cut.stop t').ending } in r)
        (append_assoc es fs (work_ended w cut.stop t').events)
    after_events (Halts fs stop) = refl
goes_on w count (Halts es stop) cut = refl

-- What a line answers, and then what the session after it still gives, is what the session gave before.
pub lines_go_on : LinesGoOn
unfolding LinesGoOn
lines_go_on w (Going t) line cut = goes_on w (t.count + 1) (fed w line t) cut
lines_go_on w _ line cut = refl

-- ---- the log's end
-- a session that ended so gives nothing, and ends so
gives_no_more : (w : World) (count : ℕ) (ending : End) (cut : Cut) → rest w (session_ended count ending) cut ≡ ends_at ending
gives_no_more w count AtEnd cut = refl
gives_no_more w count (Stops stop) cut = refl

-- After the log's end a session gives nothing more, and ends as it ended.
pub ends_for_good : EndsForGood
unfolding EndsForGood
ends_for_good w (Going t) cut = gives_no_more w t.count (work_end w t).ending cut
ends_for_good w _ cut = refl

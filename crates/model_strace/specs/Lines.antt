-- What a log of strace(1) reads as (choice). A line of a pid that isn't known is held, and read when a birth answers its
-- pid: after the birth's event, in the order of the lines, each with its own number. A birth among them is followed at once
-- by the held lines of its child. The held lines are no list of their own: they are the lines so far that weren't read.
use Rattle.std.specs.Prelude.{ℕ, zero, suc, ◌+◌, ◌==◌, Bool, not, nat_lt, filter, find, length, List, [], ◌∷◌, ◌++◌}
use Rattle.std.specs.Prelude.{Option, Some, None, if◌then◌else◌}
use Rattle.std.specs.List.{list_any}
use Rattle.std.specs.Option.{option_or}
use Rattle.cm_base.specs.Limited.{limit_number}
use Rattle.cm_base.specs.declared.faults.LineFault.TheVariants as fault
use Rattle.cm_base.specs.declared.limited.Limited.TheVariants as limit
use Rattle.model_cred.specs.World.{World}
use Rattle.model_strace.specs.After.{After, Goes, Halts, and_then}
use Rattle.model_strace.specs.Body.{PidLine, Blank, NoPid, Of, row_of}
use Rattle.model_strace.specs.Parts.{Parts, first_parts, is_known, without_any_kept}
use Rattle.model_strace.specs.Turn.{Turn, Quiet, Gives, Refused, Exceeds, turn}
use Rattle.cm_lines.specs.Cut.{Cut}
use Rattle.cm_lines.specs.declared.limits.Past.{Past}
use Rattle.model_text.specs.Reading.{Fault, Limit, AtEnd, Stops, Reading, ends_at, cut_ending, log_cut}

-- ---- one line
-- A line that has a pid: its number in the log, from 1 on, its pid and its body.
pub record Line : Type 0 where
  pub number : ℕ
  pub pid : ℕ
  pub body : List ℕ

-- What is known after a line that was read, and the pids that it gave birth to.
pub record Read : Type 0 where
  pub parts : Parts
  pub born : List ℕ

-- what a turn gives in the line of that number
abbrev pub given_at : ℕ → Turn → After Read
given_at number (Quiet p) = Goes [] (record { parts = p; born = [] })
given_at number (Gives p e born) = Goes (record { line = number; event = e } ∷ []) (record { parts = p; born = born })
given_at number (Refused why) = Halts [] (Fault number why)
given_at number (Exceeds limit) = Halts [] (Limit limit)

-- what a line gives where it is read
abbrev pub read_line : World → Line → Parts → After Read
read_line w l p = given_at l.number (turn w l.pid l.body p)

-- ---- held lines
-- What is known at a moment, and the numbers of the lines that were read so far.
pub record Moment : Type 0 where
  pub parts : Parts
  pub read : List ℕ

-- the number is one of them
abbrev pub is_among : ℕ → List ℕ → Bool
is_among number numbers = list_any (λ n. n == number) numbers

-- the held lines: those so far whose numbers aren't among the numbers read
abbrev pub held : List Line → List ℕ → List Line
held lines numbers = filter (λ l. not (is_among l.number numbers)) lines

-- the line is one of that pid
abbrev pub is_line_of : ℕ → Line → Bool
is_line_of pid l = l.pid == pid

-- the moment after a line was read
abbrev pub moment_after : Line → Read → Moment → Moment
moment_after l r m = record { parts = r.parts; read = l.number ∷ m.read }

-- ---- births
-- The next line to be read, and the pids whose held lines come after it, its own pid the first.
pub record Next : Type 0 where
  pub line : Line
  pub pids : List ℕ

-- that line, where there is one, before the held lines of these pids
abbrev pub next_with : List ℕ → Option Line → Option Next
next_with pids None = None
next_with pids (Some l) = Some (record { line = l; pids = pids })

-- the next line of these pids: the first held one of the first pid that is known and has one
abbrev pub next_line : Parts → List Line → List ℕ → Option Next
next_line p lines [] = None
next_line p lines (pid ∷ pids) =
    if is_known pid p then option_or (next_with (pid ∷ pids) (find (is_line_of pid) lines)) (next_line p lines pids)
    else next_line p lines pids

-- the next line is read, and then the rest, the held lines of those that it gave birth to before all others
abbrev pub then_rest : World → Option Next → Moment → (List ℕ → Moment → After Moment) → After Moment
then_rest w None m rest = Goes [] m
then_rest w (Some x) m rest = and_then (read_line w x.line m.parts) (λ r. rest (r.born ++ x.pids) (moment_after x.line r m))

-- the held lines of these pids are read, of the lines so far, at most so many: each is read once
abbrev pub read_born : World → ℕ → List Line → List ℕ → Moment → After Moment
read_born w zero lines pids m = Goes [] m
read_born w (suc left) lines pids m =
    then_rest w (next_line m.parts (held lines m.read) pids) m (λ pids' m'. read_born w left lines pids' m')

-- the line is read, and after it the held lines of those that it gave birth to
abbrev pub read_now : World → List Line → Line → Moment → After Moment
read_now w lines l m =
    and_then (read_line w l m.parts)
    (λ r. read_born w (length (held lines (l.number ∷ m.read))) lines r.born (moment_after l r m))

-- the line is held, unless the held ones, which it is among, exceed their limit
abbrev pub hold : List Line → Moment → After Moment
hold lines m =
    if nat_lt (limit_number limit.Held) (length (held lines m.read)) then Halts [] (Limit limit.Held) else Goes [] m

-- a line comes, the last of those so far
abbrev pub arrives : World → List Line → Line → Moment → After Moment
arrives w lines l m = if is_known l.pid m.parts then read_now w lines l m else hold lines m

-- ---- the log
-- The lines so far that have a pid, and what is known.
pub record Progress : Type 0 where
  pub lines : List Line
  pub now : Moment

-- what was known, after a line came
abbrev pub progress_after : List Line → After Moment → After Progress
progress_after lines after = and_then after (λ m. Goes [] (record { lines = lines; now = m }))

-- a line that has a pid comes
abbrev pub line_read : World → List Line → Line → Moment → After Progress
line_read w lines l m = progress_after (lines ++ l ∷ []) (arrives w (lines ++ l ∷ []) l m)

-- the line of that number comes
abbrev pub row_read : World → ℕ → PidLine → Progress → After Progress
row_read w number Blank at = Goes [] at
row_read w number NoPid at = Halts [] (Fault number fault.Pid)
row_read w number (Of pid body) at = line_read w at.lines (record { number = number; pid = pid; body = body }) at.now

-- lines come, the first with that number
abbrev pub rows_read : World → ℕ → List (List ℕ) → Progress → After Progress
rows_read w number [] at = Goes [] at
rows_read w number (line ∷ lines) at =
    and_then (row_read w number (row_of line) at) (λ at'. rows_read w (number + 1) lines at')

-- nothing has come
abbrev pub beginning : World → Progress
beginning w = record { lines = []; now = record { parts = first_parts w; read = [] } }

-- ---- the log's end
-- a held line of that number, and then the later ones, where it tells nothing
abbrev pub at_end_turn : ℕ → Turn → (Parts → Reading) → Reading
at_end_turn number (Quiet p) later = later p
at_end_turn number (Gives p e born) later = record { events = record { line = number; event = e } ∷ []; ending = AtEnd }
at_end_turn number (Refused why) later = ends_at (Stops (Fault number why))
at_end_turn number (Exceeds limit) later = ends_at (Stops (Limit limit))

-- the held lines are read in their order, as far as the first that tells anything
abbrev pub at_end : World → List Line → Parts → Reading
at_end w [] p = ends_at AtEnd
at_end w (l ∷ lines) p = at_end_turn l.number (turn w l.pid l.body p) (λ p'. at_end w lines p')

-- the events of lines, and then the end of the log, whose calls that aren't finished tell nothing
abbrev pub ended : {S : Type 0} → (S → Reading) → After S → Reading
ended end (Goes events s) = record { events = events ++ (end s).events; ending = (end s).ending }
ended end (Halts events stop) = record { events = events; ending = Stops stop }

-- The end, where so much has come: that of the log, or, where the line that comes then is past a limit, that limit, and the
-- held lines tell nothing more.
abbrev pub log_end : World → Option Past → Progress → Reading
log_end w None at = at_end w (held at.lines at.now.read) (without_any_kept at.now.parts)
log_end w (Some past) at = ends_at (cut_ending (Some past))

-- ---- the reading
-- the reading of what is cut from a log
abbrev pub strace_of_cut : World → Cut → Reading
strace_of_cut w cut = ended (log_end w cut.stop) (rows_read w 1 cut.lines (beginning w))

-- the reading of a log that has these lines, whatever their length
abbrev pub reading : World → List (List ℕ) → Reading
reading w lines = strace_of_cut w (record { lines = lines; stop = None })

-- the reading of a log
abbrev pub strace_reading : World → List ℕ → Reading
strace_reading w text = strace_of_cut w (log_cut text)

-- A reading stops at the limit of a log's bytes, or of a line's, only where the line after those that come is past it: what
-- lines tell exceeds other limits alone.
use Rattle.std.proofs.Common.{◌≡◌, ℕ, zero, suc, ◌+◌, Bool, true, false, List, [], ◌∷◌, ◌++◌, length, nat_lt}
use Rattle.std.proofs.Common.{Option, Some, None, refl, sym, ◌∙◌, ap, subst, inl, inr, if◌then◌else◌}
use Rattle.cm_base.specs.Limited.{limit_number}
use Rattle.cm_base.specs.declared.limited.Limited.TheVariants as limit
use Rattle.cm_lines.specs.declared.limits.Past.{Past}
use Rattle.cm_lines.specs.declared.limits.Past.TheVariants as past
use Rattle.model_cred.specs.World.{World, Script, Strace}
use Rattle.model_strace.specs.After.{After, Goes, Halts, preceded, and_then}
use Rattle.model_strace.specs.Body.{PidLine, Of, row_of}
use Rattle.model_strace.specs.Lines.{Line, Moment, Next, Progress, arrives, at_end, at_end_turn, beginning, ended, given_at, held, hold}
use Rattle.model_strace.specs.Lines.{log_end, moment_after, next_line, read_born, read_line, read_now, row_read, rows_read, then_rest}
use Rattle.model_strace.specs.Parts.{Parts, is_known, without_any_kept}
use Rattle.model_strace.specs.Stops.{EndsAsCut, StopsAsCut}
use Rattle.model_strace.specs.Turn.{Turn, Quiet, Exceeds, turn}
use Rattle.model_text.proofs.Numbers.{numbers_are_lines}
use Rattle.model_text.specs.Numbers.{NumbersAreLines}
use Rattle.model_text.specs.Reading.{End, AtEnd, Fault, Limit, Placed, Reading, Stop, Stops, cut_ending, limit_past}
use Rattle.model_strace.proofs.ToldLimits.{IsOther, not_past, script_stops}
use Rattle.model_strace.proofs.TurnLimits.{TurnStops, turn_stops}

-- ---- one thing after another
-- a stop is at a fault, or at another limit
abbrev pub StopStops : Stop → Type 0
StopStops (Fault number why) = Unit {0}
StopStops (Limit l) = IsOther l

-- what halts, halts at such a stop
abbrev pub AfterStops : {S : Type 0} → After S → Type 0
AfterStops (Goes events s) = Unit {0}
AfterStops (Halts events stop) = StopStops stop

preceded_stops : {S : Type 0} (events : List Placed) (a : After S) → AfterStops a → AfterStops (preceded events a)
preceded_stops events (Goes later s) stops = tt
preceded_stops events (Halts later stop) stops = stops

and_then_stops : {S T : Type 0} (a : After S) (next : S → After T) → AfterStops a → ((s : S) → AfterStops (next s)) → AfterStops (and_then a next)
and_then_stops (Goes events s) next stops each = preceded_stops events (next s) (each s)
and_then_stops (Halts events stop) next stops each = stops

if_after : {S : Type 0} (b : Bool) (x y : After S) → AfterStops x → AfterStops y → AfterStops (if b then x else y)
if_after true x y first second = first
if_after false x y first second = second

given_stops : (number : ℕ) (t : Turn) → TurnStops t → AfterStops (given_at number t)
given_stops number (Exceeds l) stops = stops
given_stops number _ stops = tt

-- ---- ends
-- an end is that of the log, or such a stop
abbrev pub EndStops : End → Type 0
EndStops AtEnd = Unit {0}
EndStops (Stops stop) = StopStops stop

end_turn_stops : (number : ℕ) (t : Turn) (later : Parts → Reading) → TurnStops t → ((p : Parts) → EndStops (later p).ending)
    → EndStops (at_end_turn number t later).ending
end_turn_stops number (Quiet p) later stops each = each p
end_turn_stops number (Exceeds l) later stops each = stops
end_turn_stops number _ later stops each = tt

-- such an end is at neither limit
no_such_end : (past : Past) (ending : End) → EndStops ending → ending ≡ Stops (Limit (limit_past past)) → ⊥
no_such_end past ending stops is = not_past past (limit_past past) (subst EndStops is stops) refl

-- the limit at which what comes ends
cut_end : (stop : Option Past) (past : Past) → cut_ending stop ≡ Stops (Limit (limit_past past)) → stop ≡ Some past
cut_end (Some past.Line) past.Line is = refl
cut_end (Some past.Whole) past.Whole is = refl
cut_end _ _ is = absurd (cc)

module _ (w : World) where
  read_stops : (l : Line) (p : Parts) → AfterStops (read_line w l p)
  read_stops l p = given_stops l.number (turn w l.pid l.body p) (turn_stops w l.pid l.body p)

  rest_stops : (x : Option Next) (m : Moment) (rest : List ℕ → Moment → After Moment) → ((pids : List ℕ) (m' : Moment) → AfterStops (rest pids m'))
      → AfterStops (then_rest w x m rest)
  rest_stops None m rest each = tt
  rest_stops (Some x) m rest each =
      and_then_stops (read_line w x.line m.parts) (λ r. rest (r.born ++ x.pids) (moment_after x.line r m)) (read_stops x.line m.parts)
      (λ r. each (r.born ++ x.pids) (moment_after x.line r m))

  born_stops : (left : ℕ) (lines : List Line) (pids : List ℕ) (m : Moment) → AfterStops (read_born w left lines pids m)
  born_stops zero lines pids m = tt
  born_stops (suc left) lines pids m =
      rest_stops (next_line m.parts (held lines m.read) pids) m (λ pids' m'. read_born w left lines pids' m')
      (λ pids' m'. born_stops left lines pids' m')

  now_stops : (lines : List Line) (l : Line) (m : Moment) → AfterStops (read_now w lines l m)
  now_stops lines l m =
      and_then_stops (read_line w l m.parts)
      (λ r. read_born w (length (held lines (l.number ∷ m.read))) lines r.born (moment_after l r m)) (read_stops l m.parts)
      (λ r. born_stops (length (held lines (l.number ∷ m.read))) lines r.born (moment_after l r m))

  hold_stops : (lines : List Line) (m : Moment) → AfterStops (hold lines m)
  hold_stops lines m =
      if_after (nat_lt (limit_number limit.Held) (length (held lines m.read))) (Halts [] (Limit limit.Held)) (Goes [] m) tt tt

  arrives_stops : (lines : List Line) (l : Line) (m : Moment) → AfterStops (arrives w lines l m)
  arrives_stops lines l m =
      if_after (is_known l.pid m.parts) (read_now w lines l m) (hold lines m) (now_stops lines l m) (hold_stops lines m)

  row_stops : (number : ℕ) (row : PidLine) (at : Progress) → AfterStops (row_read w number row at)
  row_stops number (Of pid body) at =
      let l : Line = record { number = number; pid = pid; body = body } in
      and_then_stops (arrives w (at.lines ++ l ∷ []) l at.now) (λ m. Goes [] (record { lines = at.lines ++ l ∷ []; now = m }))
      (arrives_stops (at.lines ++ l ∷ []) l at.now) (λ m. tt)
  row_stops number _ at = tt

  rows_stops : (number : ℕ) (lines : List (List ℕ)) (at : Progress) → AfterStops (rows_read w number lines at)
  rows_stops number [] at = tt
  rows_stops number (line ∷ lines) at =
      and_then_stops (row_read w number (row_of line) at) (λ at'. rows_read w (number + 1) lines at') (row_stops number (row_of line) at)
      (λ at'. rows_stops (number + 1) lines at')

  -- the end of the log
  at_end_stops : (lines : List Line) (p : Parts) → EndStops (at_end w lines p).ending
  at_end_stops [] p = tt
  at_end_stops (l ∷ lines) p =
      end_turn_stops l.number (turn w l.pid l.body p) (λ p'. at_end w lines p') (turn_stops w l.pid l.body p) (λ p'. at_end_stops lines p')

  log_end_stops : (stop : Option Past) (past : Past) (at : Progress) → (log_end w stop at).ending ≡ Stops (Limit (limit_past past)) → stop ≡ Some past
  log_end_stops None past at is =
      absurd (no_such_end past (log_end w None at).ending
      (at_end_stops (held at.lines at.now.read) (without_any_kept at.now.parts)) is)
  log_end_stops (Some other) past at is = cut_end (Some other) past is

  ended_stops : (stop : Option Past) (past : Past) (a : After Progress) → AfterStops a
      → (ended (log_end w stop) a).ending ≡ Stops (Limit (limit_past past)) → stop ≡ Some past
  ended_stops stop past (Goes events at) stops is = log_end_stops stop past at is
  ended_stops stop past (Halts events halt) stops is = absurd (no_such_end past (Stops halt) stops is)

-- ---- the laws
pub stops_as_cut : StopsAsCut
unfolding StopsAsCut NumbersAreLines
stops_as_cut Script w cut past is = elim ((numbers_are_lines w cut).limit (limit_past past) is) [
  | inl (number, breaks) ↦ absurd (script_stops w breaks.stands.line past breaks.stands.means)
  | inr short ↦ cut_end cut.stop past (ap cut_ending short.stop ∙ ap (λ l. Stops (Limit l)) (sym short.is))
]
stops_as_cut Strace w cut past is =
    ended_stops w cut.stop past (rows_read w 1 cut.lines (beginning w)) (rows_stops w 1 cut.lines (beginning w)) is

end_is_whole : (w : World) (stop : Option Past) (a : After Progress) → (ended (log_end w stop) a).ending ≡ AtEnd → stop ≡ None
end_is_whole w None a is = refl
end_is_whole w (Some past) (Goes events at) is = absurd (cc)
end_is_whole w (Some past) (Halts events stop) is = absurd (cc)

pub ends_as_cut : EndsAsCut
unfolding EndsAsCut NumbersAreLines
ends_as_cut Script w cut is = ((numbers_are_lines w cut).end is).0
ends_as_cut Strace w cut is = end_is_whole w cut.stop (rows_read w 1 cut.lines (beginning w)) is

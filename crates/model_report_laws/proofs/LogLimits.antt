-- The limits of a log's bytes and of its lines: a reading stops at them only where they are exceeded, and an accepted log is
-- within both.
use Rattle.std.proofs.Common.{◌≡◌, ℕ, zero, suc, ◌+◌, ◌-◌, ◌<◌, ◌≤◌, min, List, [], ◌∷◌, ◌++◌, length, drop, length-drop, Option, Some, None}
use Rattle.std.proofs.Common.{refl, sym, ◌∙◌, ap, subst, arith, append-nil, All, Any}
use Rattle.cm_base.specs.Limited.{limit_number}
use Rattle.cm_base.specs.declared.limited.Limited.TheVariants as limit
use Rattle.cm_lines.proofs.FirstCut.{first_comes}
use Rattle.cm_lines.proofs.PastLimits.{PastLine, PastWhole, Within, limits, past_line, past_none, past_whole}
use Rattle.cm_lines.specs.Cut.{Cut, cut_by, cut_lines, cut_of, past_of}
use Rattle.cm_lines.specs.Lines.{line_len, line_size, lines_of}
use Rattle.cm_lines.specs.declared.limits.Past.{Past}
use Rattle.cm_lines.specs.declared.limits.Past.TheVariants as past
use Rattle.model_cred.specs.World.{World}
use Rattle.model_report.specs.Causes.{IsStopped}
use Rattle.model_report_laws.specs.Laws.{AcceptedIsWithin, LogLimitsAreExceeded}
use Rattle.model_strace.proofs.Stops.{ends_as_cut, stops_as_cut}
use Rattle.model_strace.specs.Logs.{log_reading}
use Rattle.model_strace.specs.Stops.{EndsAsCut, StopsAsCut}
use Rattle.model_text.proofs.Fronts.{cuts_are_fronts}
use Rattle.model_text.specs.Fronts.{CutsAreFronts, IsFrontOf}
use Rattle.model_text.specs.Reading.{AtEnd, Limit, Reading, limit_past, log_cut}

-- ---- texts all of whose lines come
-- what comes of a line and the rest, where none is past a limit
by_first : (line whole place len size end : ℕ) (l : List ℕ) (rest : Cut) → (cut_by (past_of line whole place len size) l rest).stop ≡ None
    → (rest.stop ≡ None → place + size ≤ whole → end ≤ whole) → end ≤ whole
by_first line whole place len size end l rest is later = elim (limits line whole place len size) [
  | PastLine long first ↦ absurd (let none = stops_by (Some past.Line) (past_line line whole place len size long first) in cc)
  | PastWhole not more ↦ absurd (let none = stops_by (Some past.Whole) (past_whole line whole place len size not more) in cc)
  | Within not within ↦ later (stops_by None (past_none line whole place len size not within)) within
]
  where
    stops_by : (found : Option Past) → past_of line whole place len size ≡ found → (cut_by found l rest).stop ≡ None
    stops_by found so = sym (ap (λ (p : Option Past). (cut_by p l rest).stop) so) ∙ is

-- the text ends within its limit, where what is left of it begins there
fits_from : (fuel line whole place : ℕ) (left : List ℕ) → length left ≤ fuel → place ≤ whole
    → (cut_lines line whole (place + length left) place (lines_of left)).stop ≡ None → place + length left ≤ whole
fits_from fuel line whole place [] enough begins is = omega (arith, begins)
fits_from zero line whole place (byte ∷ text) enough begins is = absurd (omega arith)
fits_from (suc fuel) line whole place (byte ∷ text) enough begins is =
    let left : List ℕ = byte ∷ text in
    let end : ℕ = place + length left in
    let size : ℕ = line_size left in
    let rest : List ℕ = drop size left in
    let sized : size ≡ min (line_len left + 1) (length left) = refl in
    let kept : length rest ≡ length left - size = length-drop size left in
    let same : place + size + length rest ≡ end = omega (arith, kept, sized) in
    by_first line whole place (line_len left) size end _ (cut_lines line whole end (place + size) (lines_of rest))
    (sym (ap (λ (cut : Cut). cut.stop) (first_comes line whole end place left (omega arith) (omega arith))) ∙ is)
    (λ none within. subst (λ (e : ℕ). e ≤ whole) same
    (fits_from fuel line whole (place + size) rest (omega (arith, kept, sized, enough)) within
    (subst (λ (e : ℕ). (cut_lines line whole e (place + size) (lines_of rest)).stop ≡ None) (sym same) none)))

whole_fits : (line whole : ℕ) (text : List ℕ) → (cut_of line whole text).stop ≡ None → length text ≤ whole
whole_fits line whole text is =
    let nothing : 0 + length text ≡ length text = omega arith in
    let fits : 0 + length text ≤ whole = fits_from (length text) line whole 0 text (omega arith) (omega arith)
    (subst (λ (e : ℕ). (cut_lines line whole e 0 (lines_of text)).stop ≡ None) (sym nothing) is) in
    omega (arith, fits)

-- ---- the log
-- one of the later lines is one of all
any_later : (P : List ℕ → Type 0) (before later : List (List ℕ)) → Any P later → Any P (before ++ later)
any_later P [] later any = any
any_later P (line ∷ before) later any =
    let there : Any P (before ++ later) = any_later P before later any in
    (suc there.0, there.1, omega (arith, there.2), there.3, there.4)

front_of : (log : List ℕ) → IsFrontOf (limit_number limit.Line) (limit_number limit.Log) log (log_cut log)
unfolding CutsAreFronts
front_of log = cuts_are_fronts (limit_number limit.Line) (limit_number limit.Log) log

-- which limit the line after those that come is past
past_is : (words : List (List ℕ)) (bytes : List ℕ → List ℕ) (past : Past) (is : IsStopped words bytes (Limit (limit_past past)))
    → (log_cut (bytes is.comes.begins.log)).stop ≡ Some past
unfolding StopsAsCut
past_is words bytes past is =
    stops_as_cut is.world.form is.world (log_cut (bytes is.comes.begins.log)) past (ap (λ (r : Reading). r.ending) is.comes.begins.reads)

pub log_limits_are_exceeded : LogLimitsAreExceeded
unfolding LogLimitsAreExceeded
log_limits_are_exceeded words bytes = (
  λ is. (front_of (bytes is.comes.begins.log)).large (past_is words bytes past.Whole is),
  λ is. long_line (bytes is.comes.begins.log) (past_is words bytes past.Line is),
)
  where
    long_line : (log : List ℕ) → (log_cut log).stop ≡ Some past.Line → Any (λ line. limit_number limit.Line < length line) (lines_of log)
    long_line log stop =
        let front : IsFrontOf (limit_number limit.Line) (limit_number limit.Log) log (log_cut log) = front_of log in
        let long = front.long stop in
        let Long : List ℕ → Type 0 = λ line. limit_number limit.Line < length line in
        subst (Any Long) (sym (front.front ∙ ap (λ (later : List (List ℕ)). (log_cut log).lines ++ later) long.2))
        (any_later Long (log_cut log).lines (long.0 ∷ long.1) (0, long.0, omega arith, refl, long.3))

-- a log whose reading comes to its end is within both limits
pub whole_is_within : (w : World) (log : List ℕ) → (log_reading w log).ending ≡ AtEnd
    → (length log ≤ limit_number limit.Log) × All (λ line. length line ≤ limit_number limit.Line) (lines_of log)
unfolding EndsAsCut
whole_is_within w log is =
    let all : (log_cut log).stop ≡ None = ends_as_cut w.form w (log_cut log) is in
    let front : IsFrontOf (limit_number limit.Line) (limit_number limit.Log) log (log_cut log) = front_of log in
    let lines : lines_of log ≡ (log_cut log).lines
    = front.front ∙ ap (λ (later : List (List ℕ)). (log_cut log).lines ++ later) (front.all all) ∙ append-nil (log_cut log).lines in (
      whole_fits (limit_number limit.Line) (limit_number limit.Log) log all,
      subst (All (λ (line : List ℕ). length line ≤ limit_number limit.Line)) (sym lines) front.short,
    )

pub accepted_is_within : AcceptedIsWithin
unfolding AcceptedIsWithin
accepted_is_within words bytes is =
    whole_is_within is.world (bytes is.comes.begins.log) (ap (λ (r : Reading). r.ending) is.comes.begins.reads)

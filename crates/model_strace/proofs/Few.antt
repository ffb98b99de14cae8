-- A log reads as no more events than it has lines.
use Rattle.std.proofs.Common.{◌≡◌, ◌≤◌, ℕ, ◌+◌, ◌++◌, List, length, length-append, ap, arith}
use Rattle.cm_base.specs.Limited.{limit_number}
use Rattle.cm_base.specs.declared.limited.Limited.TheVariants as limit
use Rattle.cm_lines.specs.Cut.{Cut}
use Rattle.cm_lines.specs.Lines.{lines_of}
use Rattle.model_cred.specs.World.{World}
use Rattle.model_strace.proofs.Counts.{events_within_lines}
use Rattle.model_strace.proofs.RestLaws.{begins_with_reading}
use Rattle.model_strace.specs.Counts.{EventsWithinLines}
use Rattle.model_strace.specs.Lines.{strace_of_cut, strace_reading}
use Rattle.model_strace.specs.Rest.{BeginsWithReading, first_session, rest}
use Rattle.model_text.proofs.Fronts.{cuts_are_fronts}
use Rattle.model_text.specs.Fronts.{CutsAreFronts, IsFrontOf}
use Rattle.model_text.specs.Reading.{Reading, log_cut}

-- what is cut from a log reads as no more events than it has lines
pub cut_few : (w : World) (cut : Cut) → length (strace_of_cut w cut).events ≤ length cut.lines
unfolding EventsWithinLines BeginsWithReading
cut_few w cut =
    let within : length (rest w (first_session w) cut).events ≤ 0 + length cut.lines = events_within_lines w (first_session w) cut in
    let same : length (rest w (first_session w) cut).events ≡ length (strace_of_cut w cut).events =
    ap (λ (r : Reading). length r.events) (begins_with_reading w cut) in
    omega (arith, within, same)

pub strace_few : (w : World) (text : List ℕ) → length (strace_reading w text).events ≤ length (lines_of text)
unfolding CutsAreFronts
strace_few w text =
    let cut : Cut = log_cut text in
    let f : IsFrontOf (limit_number limit.Line) (limit_number limit.Log) text cut =
    cuts_are_fronts (limit_number limit.Line) (limit_number limit.Log) text in
    let all = ap length f.front in
    let sum : length (cut.lines ++ f.later) ≡ length cut.lines + length f.later = length-append cut.lines f.later in
    omega (arith, all, sum, cut_few w cut)

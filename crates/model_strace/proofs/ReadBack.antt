-- Each event that a log of strace tells is writable, and what is written of it is read again as it.
use Rattle.std.proofs.Common.{◌≡◌, ℕ, ◌+◌, ◌≤◌, List, [], ◌∷◌, length, arith, All}
use Rattle.std.proofs.lemmas.List.Elements.{All-nil, All-cons, All-head, All-tail, All-weaker}
use Rattle.cm_base.specs.Limited.{limit_number}
use Rattle.cm_base.specs.Limits.{greatest_number}
use Rattle.cm_base.specs.declared.limited.Limited.TheVariants as limit
use Rattle.model_strace.proofs.Few.{strace_few}
use Rattle.model_strace.proofs.LineNumbers.{numbers_are_lines}
use Rattle.model_strace.proofs.NamedSpaces.{EventWithin, log_within, spaces_more}
use Rattle.model_strace.proofs.ToldEvents.{line_can_write}
use Rattle.model_strace.specs.LineNumbers.{NumbersAreLines, StandsFor}
use Rattle.model_strace.specs.Lines.{strace_reading}
use Rattle.model_strace.specs.ReadBack.{ToldAreWritable, ToldReadBack}
use Rattle.model_text.proofs.Keeping.{start_keeps}
use Rattle.model_text.proofs.ReadBack.{lines_read_back}
use Rattle.model_text.proofs.Starts.{start_spaces}
use Rattle.model_text.proofs.ToldEvents.{AreFew, few_names}
use Rattle.model_text.specs.Arguments.{arguments_of}
use Rattle.cm_lines.specs.Lines.{lines_of}
use Rattle.model_text.specs.Line.{Tells, script_line}
use Rattle.model_text.specs.Print.{event_text}
use Rattle.model_text.specs.Reading.{Placed}
use Rattle.model_text.specs.Written.{IsWritable, LinesReadBack}

-- what holds of each by two things that hold of each
all_both : {A : Type 0} (P Q R : A → Type 0) → ((x : A) → P x → Q x → R x) → (xs : List A) → All P xs → All Q xs
    → All R xs
all_both P Q R both [] first second = All-nil R
all_both P Q R both (x ∷ xs) first second =
    All-cons R x xs (both x (All-head P x xs first) (All-head Q x xs second))
    (all_both P Q R both xs (All-tail P x xs first) (All-tail Q x xs second))

-- ---- the events of a log
pub told_are_writable : ToldAreWritable
unfolding ToldAreWritable NumbersAreLines
told_are_writable bytes w text reads size =
    let few : AreFew w = few_names bytes w reads in
    let events : List Placed = (strace_reading w text).events in
    let most : ℕ = length w.start.spaces + length events in
    let spaces : length w.start.spaces ≤ limit_number limit.Spaces = start_spaces bytes w reads in
    let count : length events ≤ length (lines_of text) = strace_few w text in
    let low : most ≤ greatest_number = omega (arith, spaces, count, size) in
    all_both (λ (e : Placed). StandsFor w (lines_of text) e.line (Tells e.event)) (λ e. EventWithin most e.event)
    (λ e. IsWritable w e.event)
    (λ e stands within. line_can_write w (lines_of text) e.line e.event few stands
    (spaces_more most greatest_number low (arguments_of e.event.call) within))
    events (numbers_are_lines w text).events (log_within w few text (start_keeps bytes w reads).start.stands)

pub told_read_back : ToldReadBack
unfolding ToldReadBack ToldAreWritable LinesReadBack
told_read_back bytes w text reads size =
    All-weaker (λ e. IsWritable w e.event) (λ e. script_line w (event_text w e.event) ≡ Tells e.event)
    (λ e can. lines_read_back bytes w e.event reads can) (strace_reading w text).events
    (told_are_writable bytes w text reads size)

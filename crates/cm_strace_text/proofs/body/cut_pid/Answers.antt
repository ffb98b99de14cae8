use Rattle.std.proofs.Common.{◌∙◌, ◌+◌, ◌*◌, ℕ, List, ap, sym}
use Rattle.cm_strace_text.proofs.Cuts.{blank_rest, blank_word}
use Rattle.cm_strace_text.proofs.PidDigits.{pid_ends, pid_on, pid_goes_on, rest_goes_on}
use Rattle.cm_strace_text.proofs.body.cut_pid.Goals as goal
use Rattle.model_strace.specs.Marks.{first_word, after_first_word}

pub loop-digit-preserved : goal.loop-digit-preserved
loop-digit-preserved c =
    let number = c.loop-digit.number in
    let after = c.in-Some.after.now in
    record {
      pid =
          c.loop-digit.invariant.pid
          ∙ ap (λ (text : List ℕ). pid_on number (first_word text)) c.in-Some.ensures.digit
          ∙ pid_goes_on number c.in-Some.digit after c.in-Some.ensures.low
          ∙ ap (λ (digit : ℕ). pid_on (10 * number + digit) (first_word after)) (sym c.from.ensures);
      rest =
          c.loop-digit.invariant.rest
          ∙ ap after_first_word c.in-Some.ensures.digit
          ∙ rest_goes_on c.in-Some.digit after c.in-Some.ensures.low;
    }

pub returns-clause-pid : goal.returns-clause-pid
returns-clause-pid c =
    let rest = c.loop-digit.rest.now in
    let none = blank_word rest c.in-len1-up.len_at_least (sym c.if-not-is_blank.ensures) in
    c.loop-digit.invariant.pid
    ∙ pid_ends c.loop-digit.number c.in_ok-pid.pid rest none c.in_ok-pid.ensures.0 c.in_ok-pid.ensures.1

pub returns-clause-rest : goal.returns-clause-rest
returns-clause-rest c =
    c.loop-digit.invariant.rest
    ∙ blank_rest c.loop-digit.rest.now c.in-len1-up.len_at_least (sym c.if-not-is_blank.ensures)
    ∙ sym c.without_front.ensures

use Rattle.std.proofs.Common.{◌≡◌, length}
use Rattle.cm_strace_text.proofs.PidDigits.{pid_on}
use Rattle.cm_strace_text.proofs.body.cut_pid.Given as goal
use Rattle.model_strace.specs.Marks.{first_word, after_first_word}
use Rattle.model_text.specs.Token.{pid_token}

-- the digits so far spell the number, with what is left of the first word
abbrev pub invariant-loop-digit : goal.invariant-loop-digit
invariant-loop-digit l = record {
  pid : pid_token (first_word l.fn.text) ≡ pid_on l.number (first_word l.rest);
  rest : after_first_word l.fn.text ≡ after_first_word l.rest;
}

abbrev pub decreases-loop-digit : goal.decreases-loop-digit
decreases-loop-digit l = length l.rest

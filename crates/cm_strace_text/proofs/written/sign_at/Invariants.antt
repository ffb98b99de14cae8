use Rattle.std.proofs.Common.{◌≡◌}
use Rattle.cm_strace_text.proofs.written.sign_at.Given as goal
use Rattle.cm_strace_text.specs.Places.{sign_from}
use Rattle.model_strace.specs.Written.{Plain, After}

-- the parenthesis and the blanks that were passed over give no sign yet
abbrev pub invariant-loop-sign : goal.invariant-loop-sign
invariant-loop-sign l = sign_from Plain l.at l.text ≡ sign_from (After l.at) l.sign l.text

use Rattle.std.proofs.Common.{◌≡◌, ◌≤◌, length}
use Rattle.cm_tokens.proofs.tokens.skip_blanks.Given as goal
use Rattle.model_text.specs.Cut.{tokens_of}

-- what is left has the tokens of all, and no more bytes
abbrev pub invariant-loop-rest : goal.invariant-loop-rest
invariant-loop-rest l = record { same : tokens_of l.rest ≡ tokens_of l.fn.text; shorter : length l.rest ≤ length l.fn.text }

abbrev pub decreases-loop-rest : goal.decreases-loop-rest
decreases-loop-rest l = length l.rest

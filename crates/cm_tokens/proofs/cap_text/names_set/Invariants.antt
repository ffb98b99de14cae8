use Rattle.std.proofs.Common.{◌≡◌, ◌==◌, length}
use Rattle.std.specs.List.{slice_split}
use Rattle.model_text.specs.CapText.{names_with, names_set}
use Rattle.cm_tokens.proofs.cap_text.names_set.Given as goal

abbrev pub invariant-loop-name : goal.invariant-loop-name
invariant-loop-name l = names_with l.set (slice_split (λ byte. byte == 44) l.rest) ≡ names_set l.text

abbrev pub decreases-loop-name : goal.decreases-loop-name
decreases-loop-name l = length l.rest

use Rattle.std.proofs.Common.{◌≡◌, map}
use Rattle.cm_io.proofs.Counting.{fresh}
use Rattle.cm_io.proofs.counts.Counts.new.Given as goal

-- each name that was passed has a row, and nothing is counted in it
abbrev pub invariant-loop-name : goal.invariant-loop-name
invariant-loop-name l = l.rows.items ≡ map fresh l.yielded

use Rattle.std.proofs.Common.{◌≡◌, ℕ, List, All, length}
use Rattle.cm_credentials.specs.Kept.{KeepsLine}
use Rattle.cm_credentials.proofs.kept.KeptLines.new.Given as goal

abbrev pub invariant-loop : goal.invariant-loop
invariant-loop l = (length l.lines.items ≡ l.counter) × ((names : List (List ℕ)) → All (KeepsLine names) l.lines.items)

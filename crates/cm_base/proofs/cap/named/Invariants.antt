use Rattle.std.proofs.Common.{◌≡◌, drop}
use Rattle.std.specs.Prelude.{bytes_eq, find}
use Rattle.cm_base.specs.Names.{cap_name_or}
use Rattle.cm_base.proofs.cap.named.Given as goal

abbrev pub invariant-loop-number : goal.invariant-loop-number
invariant-loop-number l =
    find (λ cap. bytes_eq (cap_name_or cap) l.name) (drop l.number-index l.numbers)
    ≡ find (λ cap. bytes_eq (cap_name_or cap) l.name) l.numbers

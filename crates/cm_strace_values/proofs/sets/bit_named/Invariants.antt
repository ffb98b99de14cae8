use Rattle.std.proofs.Common.{◌≡◌, drop}
use Rattle.std.specs.Prelude.{find, bytes_eq}
use Rattle.cm_strace_values.proofs.sets.bit_named.Given as goal
use Rattle.cm_strace_values.specs.Tables.{rows_of}

-- no bit before this place has the name
abbrev pub invariant-loop-bit : goal.invariant-loop-bit
invariant-loop-bit l =
    find (λ bit. bytes_eq bit.0 l.name) (rows_of (λ bit. bit) (drop l.bit-index l.table))
    ≡ find (λ bit. bytes_eq bit.0 l.name) (rows_of (λ bit. bit) l.table)

use Rattle.std.proofs.Common.{◌≡◌, drop}
use Rattle.cm_strace_calls.proofs.call.row_named.Given as goal
use Rattle.cm_strace_calls.specs.Names.{named_in}
use Rattle.cm_strace_calls.specs.Told.{read_for_is}
use Rattle.cm_strace_values.specs.Tables.{rows_of}

-- no row before this place has the name
abbrev pub invariant-loop-row : goal.invariant-loop-row
invariant-loop-row l =
    named_in (rows_of read_for_is (drop l.row-index l.rows)) l.name ≡ named_in (rows_of read_for_is l.rows) l.name

use Rattle.std.proofs.Common.{◌∙◌}
use Rattle.cm_strace_calls.proofs.FirstBytes.{named_begun, short_names_none}
use Rattle.cm_strace_calls.proofs.call.named_call.Goals as goal
use Rattle.cm_strace_calls.specs.Told.{read_for_is}
use Rattle.cm_strace_values.specs.Tables.{rows_of}

pub returns-in_default-text : goal.returns-in_default-text
returns-in_default-text c = short_names_none c.args.text.now c.in_default-text.len_below

pub returns-in-len2-up : goal.returns-in-len2-up
returns-in-len2-up c =
    c.row_named.ensures
    ∙ named_begun (rows_of read_for_is c.begun.result.now) c.args.text.now c.in-len2-up.len_at_least
    c.begun.ensures.long c.begun.ensures.same

use Rattle.std.proofs.Common.{[], arith}
use Rattle.cm_base.specs.declared.faults.Table.TheVariants as table
use Rattle.cm_base.specs.declared.limited.Limited.TheVariants as limit
use Rattle.model_text.specs.ProcessText.{process_row}
use Rattle.cm_world.proofs.Rows.{past_limit, read_all, read_refused}
use Rattle.cm_world.proofs.processes.read_processes.Goals as goal

pub returns-then-rows-number-clause-answers : goal.returns-then-rows-number-clause-answers
returns-then-rows-number-clause-answers c =
    past_limit table.Process (process_row c.args.declared.now.names) [] c.args.rows.now limit.Processes 0 (omega arith)

pub returns-in-Err-clause-answers : goal.returns-in-Err-clause-answers
returns-in-Err-clause-answers c =
    read_refused table.Process (process_row c.args.declared.now.names) [] c.args.rows.now limit.Processes 0 c.loop-i.i c.loop-i.procs c.index-rows-i.result
    c.in-Err.e c.in_row.result (omega arith) c.loop-i.invariant.rest c.loop-i-test.true c.index-rows-i.is c.in-Err.ensures.gives c.in_row.ensures

pub returns-clause-answers : goal.returns-clause-answers
returns-clause-answers c =
    read_all table.Process (process_row c.args.declared.now.names) [] c.args.rows.now limit.Processes 0 c.loop-i.i c.loop-i.procs (omega arith)
    c.loop-i.invariant.rest c.loop-i-test.false

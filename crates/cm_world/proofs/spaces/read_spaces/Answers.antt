use Rattle.std.proofs.Common.{arith}
use Rattle.cm_base.specs.declared.faults.Table.TheVariants as table
use Rattle.cm_base.specs.declared.limited.Limited.TheVariants as limit
use Rattle.model_text.specs.SpaceText.{none_declared, space_row}
use Rattle.cm_world.proofs.Rows.{past_limit, read_all, read_refused}
use Rattle.cm_world.proofs.spaces.read_spaces.Goals as goal

pub returns-then-rows-number : goal.returns-then-rows-number
returns-then-rows-number c = past_limit table.Space space_row none_declared c.args.rows.now limit.Spaces 1 (omega arith)

pub returns-in-Err : goal.returns-in-Err
returns-in-Err c =
    read_refused table.Space space_row none_declared c.args.rows.now limit.Spaces 1
    c.loop-i.i c.loop-i.declared c.index-rows-i.result c.in-Err.e c.in_row.result
    (omega arith) c.loop-i.invariant.rest c.loop-i-test.true c.index-rows-i.is c.in-Err.ensures.gives c.in_row.ensures

pub returns : goal.returns
returns c =
    read_all table.Space space_row none_declared c.args.rows.now limit.Spaces 1 c.loop-i.i c.loop-i.declared (omega arith)
    c.loop-i.invariant.rest c.loop-i-test.false

use Rattle.std.proofs.Common.{arith}
use Rattle.cm_base.specs.declared.faults.Table.TheVariants as table
use Rattle.cm_base.specs.declared.limited.Limited.TheVariants as limit
use Rattle.model_text.specs.MountText.{mount_row, root_alone}
use Rattle.cm_world.proofs.Rows.{past_limit, read_all, read_refused}
use Rattle.cm_world.proofs.mounts.read_mounts.Goals as goal

pub returns-then-rows-number : goal.returns-then-rows-number
returns-then-rows-number c = past_limit table.Mount (mount_row c.args.names.now) root_alone c.args.rows.now limit.Mounts 1 (omega arith)

pub returns-in-Err : goal.returns-in-Err
returns-in-Err c =
    read_refused table.Mount (mount_row c.args.names.now) root_alone c.args.rows.now limit.Mounts 1 c.loop-i.i c.loop-i.mounts c.index-rows-i.result
    c.in-Err.e c.in_row.result (omega arith) c.loop-i.invariant.rest c.loop-i-test.true c.index-rows-i.is c.in-Err.ensures.gives c.in_row.ensures

pub returns : goal.returns
returns c =
    read_all table.Mount (mount_row c.args.names.now) root_alone c.args.rows.now limit.Mounts 1 c.loop-i.i c.loop-i.mounts (omega arith)
    c.loop-i.invariant.rest c.loop-i-test.false

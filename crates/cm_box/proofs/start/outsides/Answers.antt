use Rattle.cm_idset.proofs.Images.{outside_fits}
use Rattle.cm_box_rows.proofs.OutsideIds.{outside_step}
use Rattle.cm_box.proofs.start.outsides.Goals as goal

pub outside_range-requires : goal.outside_range-requires
outside_range-requires c = outside_fits c.args.list.now c.loop-extent.extent-index c.extent-item.result c.requires c.loop-extent-test.true
    c.extent-item.is

pub loop-extent-preserved : goal.loop-extent-preserved
loop-extent-preserved c = outside_step c.args.list.now c.loop-extent.extent-index c.extent-item.result c.loop-extent.ids c.in_ok-more.more
    c.in_ok-ids.ids c.loop-extent-test.true c.extent-item.is c.loop-extent.invariant c.in_ok-more.ensures c.in_ok-ids.ensures

use Rattle.std.proofs.Common.{ap, arith}
use Rattle.cm_idset.specs.Size.{ids_count}
use Rattle.cm_idset.proofs.Elements.{of_ids_at}
use Rattle.cm_idset.proofs.Rests.{next_of}
use Rattle.cm_idset.proofs.Sizes.{few}
use Rattle.cm_idset.proofs.counting.count.Goals as goal

pub count-count-requires : goal.count-count-requires
count-count-requires c = (of_ids_at c.args.list.now c.loop-ids.ids-index c.ids-item.result c.requires c.loop-ids-test.true c.ids-item.is).full

pub overflow_add-count : goal.overflow_add-count
overflow_add-count c =
    let left = ap ids_count (next_of c.args.list.now c.loop-ids.ids-index c.ids-item.result c.loop-ids-test.true c.ids-item.is) in
    omega (arith, left, few c.args.list.now c.requires, c.loop-ids.invariant, c.count-count.ensures)

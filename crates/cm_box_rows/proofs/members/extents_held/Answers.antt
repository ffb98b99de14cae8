use Rattle.cm_idset.specs.Held.{Held}
use Rattle.cm_idset.proofs.Images.{outside_fits}
use Rattle.std.proofs.lemmas.Bool.{iff_false}
use Rattle.cm_box_rows.proofs.MapLines.{lines_more, lines_out}
use Rattle.cm_box_rows.proofs.members.extents_held.Goals as goal

pub extent_held-requires : goal.extent_held-requires
extent_held-requires c = outside_fits c.args.list.now c.loop-extent.extent-index c.extent-item.result c.requires c.loop-extent-test.true
    c.extent-item.is

pub returns-then-not-extent_held : goal.returns-then-not-extent_held
returns-then-not-extent_held c = lines_out (Held c.args.set.now) c.args.list.now c.loop-extent.extent-index c.extent-item.result
    c.loop-extent-test.true c.extent-item.is (iff_false c.extent_held.ensures c.if-not-extent_held.true)

pub loop-extent-preserved : goal.loop-extent-preserved
loop-extent-preserved c = lines_more (Held c.args.set.now) c.args.list.now c.loop-extent.extent-index c.extent-item.result
    c.loop-extent-test.true c.extent-item.is c.loop-extent.invariant (c.extent_held.ensures.0 c.if-not-extent_held.false)

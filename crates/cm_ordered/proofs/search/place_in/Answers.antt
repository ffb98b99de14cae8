use Rattle.std.proofs.Common.{arith}
use Rattle.cm_ordered.specs.Order.{below_by}
use Rattle.cm_ordered.proofs.Parted.{parted_by, counted, cut_counted}
use Rattle.cm_ordered.proofs.search.place_in.Goals as goal

pub loop-place-preserved : goal.loop-place-preserved
loop-place-preserved g c =
    counted (below_by g.T.Numbered.number c.args.number) c.args.list.now c.loop-place.at c.loop-place.place c.args.end
    c.lower-at.result (parted_by g.T.Numbered.number c.args.number c.args.list.now c.requires.ascends)
    (omega (arith, c.requires.within)) c.lower-at.ensures.few c.lower-at.ensures.one c.loop-place.invariant

pub returns : goal.returns
returns g c =
    cut_counted (below_by g.T.Numbered.number c.args.number) c.args.list.now c.loop-place.at c.loop-place.place c.args.end
    (omega arith) c.requires.within c.loop-place.invariant

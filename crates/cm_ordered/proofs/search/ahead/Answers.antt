use Rattle.cm_ordered.specs.Order.{below_by}
use Rattle.cm_ordered.proofs.Parted.{parted_by, narrowed}
use Rattle.cm_ordered.proofs.search.ahead.Goals as goal

pub returns-clause-between : goal.returns-clause-between
returns-clause-between g c left gap old =
    narrowed (below_by g.T.Numbered.number c.args.number) c.args.list.now c.args.from c.args.step left
    (parted_by g.T.Numbered.number c.args.number c.args.list.now c.requires.ascends) c.requires.within gap old
    c.lower-first.result c.lower-second.result c.lower-third.result c.lower-first.ensures.one
    c.lower-second.ensures.one c.lower-third.ensures.one

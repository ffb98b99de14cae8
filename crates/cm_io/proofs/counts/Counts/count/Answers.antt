use Rattle.std.proofs.Common.{rules}
use Rattle.cm_io.proofs.Counting.{counts_read, counts_none}
use Rattle.cm_io.proofs.counts.Counts.count.Goals as goal

pub returns-then-place-len : goal.returns-then-place-len
returns-then-place-len c =
    let same = c.count.ensures.counts in
    let place = c.place_of-place.ensures.place in
    counts_read c.args.self.now _ c.args.name.now c.index_mut.result.now c.args.read.now (search rules) (search rules) (cc) (rw (← same) c.count.ensures.later)

pub returns-else-place-len : goal.returns-else-place-len
returns-else-place-len c = counts_none c.args.self.now _ c.args.name.now c.args.read.now (search rules) (search rules)

use Rattle.std.proofs.Common.{sym, rules}
use Rattle.cm_io.proofs.Tallies.{tally_at, tally_past}
use Rattle.cm_io.proofs.counts.Counts.tally.Goals as goal

pub returns-then-place-len : goal.returns-then-place-len
returns-then-place-len c =
    let same = c.place_of-place.ensures.place in
    let at = tally_at c.args.self.now c.args.name.now c.index.result.now (search rules) in
    cc

pub returns-else-place-len : goal.returns-else-place-len
returns-else-place-len c = sym (tally_past c.args.self.now c.args.name.now (search rules))

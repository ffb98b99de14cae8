use Rattle.std.proofs.Common.{arith}
use Rattle.cm_filter.specs.Filters.{permits}
use Rattle.cm_maker.proofs.Runs.{run_visits}
use Rattle.cm_maker.proofs.running.run_as.Goals as goal

pub returns : goal.returns
returns c =
    rw c.put.ensures (run_visits (permits c.args.setting.now.filter) c.args.setting.now.files.now c.args.setting.now.state.now.spaces
    c.args.bounds.now c.args.row c.args.bit.kind c.in-Some.id c.in_ok-wider.wider (omega (arith, c.requires.there, c.requires.rows)) c.requires.there
    c.in-Some.ensures.comes (rw c.row_at.ensures at c.in_ok-wider.ensures))

use Rattle.std.proofs.Common.{arith}
use Rattle.cm_box.specs.Rules.{rule_of}
use Rattle.cm_filter.specs.Filters.{permits}
use Rattle.cm_maker.proofs.Widenings.{wider_visits}
use Rattle.cm_maker.proofs.resting.try_rule.Goals as goal

pub returns-in-Some-clause-visits : goal.returns-in-Some-clause-visits
returns-in-Some-clause-visits c =
    rw c.put.ensures (wider_visits (permits c.args.setting.now.filter) c.args.setting.now.files.now c.args.setting.now.state.now.spaces
    (rule_of c.args.rule) c.args.row c.args.bounds.now c.in-Some.wider (omega (arith, c.requires.there, c.requires.rows)) c.requires.there
    (rw c.in-Some.is at c.in_ok-wider.ensures.open) (rw c.in-Some.is at c.in_ok-wider.ensures.wider))

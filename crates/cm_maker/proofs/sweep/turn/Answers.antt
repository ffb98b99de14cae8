use Rattle.std.proofs.Common.{arith}
use Rattle.cm_box.specs.Rules.{rule_of}
use Rattle.cm_filter.specs.Filters.{permits}
use Rattle.cm_maker.proofs.Turns.{wider_sweeps, closed_sweeps}
use Rattle.cm_maker.proofs.sweep.turn.Goals as goal

pub returns-in-Some-clause-swept : goal.returns-in-Some-clause-swept
returns-in-Some-clause-swept c =
    rw c.put.ensures (wider_sweeps (permits c.args.setting.now.filter) c.args.setting.now.files.now c.args.setting.now.state.now
    (rule_of c.args.rule) c.args.row
    c.args.bounds.now c.in-Some.wider (omega (arith, c.requires.there, c.requires.rows)) c.requires.there
    (rw c.in-Some.is at c.in_ok-wider.ensures.wider))

pub returns-in-None-clause-swept : goal.returns-in-None-clause-swept
returns-in-None-clause-swept c =
    closed_sweeps (permits c.args.setting.now.filter) c.args.setting.now.files.now c.args.setting.now.state.now (rule_of c.args.rule) c.args.row
    c.args.bounds.now c.requires.there (rw c.in-None.is at c.in_ok-wider.ensures.closed)

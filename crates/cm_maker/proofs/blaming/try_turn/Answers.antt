use Rattle.std.proofs.Common.{refl, sym, ◌∙◌, arith}
use Rattle.std.proofs.lemmas.Bool.{false≢true}
use Rattle.cm_box.specs.Rules.{rule_of}
use Rattle.cm_filter.specs.Filters.{permits}
use Rattle.cm_maker.proofs.Stops.{put_apart, wider_stops}
use Rattle.cm_maker.proofs.Turns.{wider_sweeps, closed_sweeps}
use Rattle.cm_maker.proofs.blaming.try_turn.Goals as goal
use Rattle.cm_state.specs.Right.{right_of}

pub returns-then-meets_by-clause-stops : goal.returns-then-meets_by-clause-stops
returns-then-meets_by-clause-stops c _ = (
  refl,
  wider_stops (permits c.args.setting.now.filter) c.args.setting.now.files.now c.args.setting.now.state.now (right_of c.args.right.now)
      (rule_of c.args.rule) c.args.row
      c.args.bounds.now c.in-Some.wider (omega (arith, c.requires.ready.there, c.requires.ready.rows)) c.requires.ready.there
      (rw c.in-Some.is at c.in_ok-widened.ensures.wider)
      (c.meets_by.ensures.0 c.if-meets_by.true),
)

pub returns-in-None-clause-goes : goal.returns-in-None-clause-goes
returns-in-None-clause-goes c _ =
    closed_sweeps (permits c.args.setting.now.filter) c.args.setting.now.files.now c.args.setting.now.state.now (rule_of c.args.rule) c.args.row
    c.args.bounds.now c.requires.ready.there (rw c.in-None.is at c.in_ok-widened.ensures.closed)

pub returns-else-meets_by-clause-apart : goal.returns-else-meets_by-clause-apart
returns-else-meets_by-clause-apart c =
    rw c.put.ensures (put_apart c.args.setting.now.state.now.spaces (right_of c.args.right.now) c.args.bounds.now c.args.row c.in-Some.wider
    (omega (arith, c.requires.ready.there, c.requires.ready.rows)) (λ met. false≢true (sym c.if-meets_by.false ∙ c.meets_by.ensures.1 met)))

pub returns-else-meets_by-clause-goes : goal.returns-else-meets_by-clause-goes
returns-else-meets_by-clause-goes c _ =
    rw c.put.ensures (wider_sweeps (permits c.args.setting.now.filter) c.args.setting.now.files.now c.args.setting.now.state.now
    (rule_of c.args.rule) c.args.row
    c.args.bounds.now c.in-Some.wider (omega (arith, c.requires.ready.there, c.requires.ready.rows)) c.requires.ready.there
    (rw c.in-Some.is at c.in_ok-widened.ensures.wider))

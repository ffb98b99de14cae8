use Rattle.std.proofs.Common.{ℕ, ◌+◌, ◌*◌, suc, ◌∙◌, ap, arith}
use Rattle.cm_box.specs.Rules.{rule_of}
use Rattle.cm_filter.specs.Filters.{permits}
use Rattle.cm_maker.proofs.Stops.{then_stopped}
use Rattle.cm_maker.proofs.Turns.{next_rule, round_end}
use Rattle.cm_maker.proofs.blaming.try_round.Goals as goal
use Rattle.cm_state.specs.Right.{right_of}
use Rattle.model_box.specs.Rule.{rule_number}
use Rattle.model_verdict.specs.Sweep.{row_count}

pub returns-in-Some-clause-some : goal.returns-in-Some-clause-some
returns-in-Some-clause-some c =
    let it = rw c.in-Some.is at c.in_ok-row.ensures.some in (
      it.0,
      λ round.
          let rows : ℕ = row_count c.args.setting.now.state.now.spaces in
          let n : ℕ = rule_number (rule_of c.of_number-rule.result) in
          then_stopped (permits c.args.setting.now.filter) c.args.setting.now.files.now c.args.setting.now.state.now
          (right_of c.args.right.now) (14 * round * rows)
          ((14 * round + n) * rows) ((14 * round + n) * rows + c.in-Some.row) c.args.bounds.now c.loop-k.bounds c.try_rows.new.bounds
          (c.loop-k.invariant.swept round ((14 * round + n) * rows) (ap (λ (m : ℕ). (14 * round + m) * rows) c.of_number-rule.ensures)) (it.1 round),
    )

pub loop-k-preserved : goal.loop-k-preserved
loop-k-preserved c = record {
  count = c.in_ok-row.ensures.count ∙ c.loop-k.invariant.count;
  apart = λ apart. c.in_ok-row.ensures.apart (c.loop-k.invariant.apart apart);
  swept = λ round k is.
      let went = rw c.in-None.is at c.in_ok-row.ensures.none in
      next_rule (permits c.args.setting.now.filter) c.args.setting.now.files.now c.args.setting.now.state.now round c.loop-k.k k
      c.args.bounds.now c.loop-k.bounds c.try_rows.new.bounds (c.loop-k.invariant.swept round)
      (rw c.of_number-rule.ensures at went round) is;
}

pub returns-clause-none : goal.returns-clause-none
returns-clause-none c round =
    c.loop-k.invariant.swept round (14 * suc round * row_count c.args.setting.now.state.now.spaces)
    (round_end round c.loop-k.k (row_count c.args.setting.now.state.now.spaces) (omega arith))

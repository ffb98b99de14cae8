use Rattle.std.proofs.Common.{◌*◌, suc, ◌∙◌, arith}
use Rattle.cm_filter.specs.Filters.{permits}
use Rattle.cm_maker.proofs.Turns.{next_rule, round_end}
use Rattle.cm_maker.proofs.sweep.round.Goals as goal
use Rattle.model_verdict.specs.Sweep.{row_count}

pub loop-k-preserved : goal.loop-k-preserved
loop-k-preserved c = record {
  count = c.in_ok-over_rows.ensures.count ∙ c.loop-k.invariant.count;
  swept = λ round k is.
      next_rule (permits c.args.setting.now.filter) c.args.setting.now.files.now c.args.setting.now.state.now round c.loop-k.k k
      c.args.bounds.now c.loop-k.bounds c.over_rows.new.bounds (c.loop-k.invariant.swept round)
      (rw c.of_number.ensures at c.in_ok-over_rows.ensures.swept round) is;
}

pub returns-clause-swept : goal.returns-clause-swept
returns-clause-swept c round =
    c.loop-k.invariant.swept round (14 * suc round * row_count c.args.setting.now.state.now.spaces)
    (round_end round c.loop-k.k (row_count c.args.setting.now.state.now.spaces) (omega arith))

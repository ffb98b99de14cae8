use Rattle.std.proofs.Common.{ℕ, ◌+◌, ◌*◌, suc, ◌∙◌, ap, arith, length}
use Rattle.cm_box.specs.Rules.{rule_of}
use Rattle.cm_filter.specs.Filters.{permits}
use Rattle.cm_maker.proofs.Turns.{next_turn, rule_end}
use Rattle.cm_maker.proofs.sweep.over_rows.Goals as goal
use Rattle.model_box.specs.Rule.{rule_number}
use Rattle.model_cred.specs.Process.{State}
use Rattle.model_verdict.specs.Sweep.{row_count}

pub loop-row-preserved : goal.loop-row-preserved
loop-row-preserved c = record {
  count = c.in_ok-turn.ensures.count ∙ c.loop-row.invariant.count;
  swept = λ round k is.
      let from : ℕ = (14 * round + rule_number (rule_of c.args.rule)) * row_count c.args.setting.now.state.now.spaces in
      next_turn (permits c.args.setting.now.filter) c.args.setting.now.files.now c.args.setting.now.state.now from c.loop-row.row k
      c.args.bounds.now c.loop-row.bounds c.turn.new.bounds (c.loop-row.invariant.swept round) (c.in_ok-turn.ensures.swept round) is;
}

pub returns-clause-swept : goal.returns-clause-swept
returns-clause-swept c round =
    let count = ap (λ (s : State). length s.spaces) c.st.view_is in
    let n = rule_number (rule_of c.args.rule) in
    c.loop-row.invariant.swept round ((14 * round + suc n) * row_count c.args.setting.now.state.now.spaces)
    (rule_end round n (row_count c.args.setting.now.state.now.spaces) c.loop-row.row (omega (arith, count)))

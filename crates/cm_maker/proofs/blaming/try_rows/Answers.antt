use Rattle.std.proofs.Common.{ℕ, ◌+◌, ◌*◌, suc, refl, ◌∙◌, ap, arith, length}
use Rattle.cm_box.specs.Rules.{rule_of}
use Rattle.cm_filter.specs.Filters.{permits}
use Rattle.cm_maker.proofs.Stops.{stopped_same}
use Rattle.cm_maker.proofs.Turns.{next_turn, rule_end}
use Rattle.cm_maker.proofs.blaming.try_rows.Goals as goal
use Rattle.cm_state.specs.Right.{right_of}
use Rattle.model_box.specs.Rule.{rule_number}
use Rattle.model_cred.specs.Process.{State}
use Rattle.model_verdict.specs.Sweep.{row_count}

pub returns-then-branch-clause-some : goal.returns-then-branch-clause-some
returns-then-branch-clause-some c =
    let count = ap (λ (s : State). length s.spaces) c.st.view_is in
    let it = c.in_ok-try_turn.ensures.stops c.if-branch.true in (
      omega (arith, count),
      λ round.
          let from : ℕ = (14 * round + rule_number (rule_of c.args.rule)) * row_count c.args.setting.now.state.now.spaces in
          stopped_same (permits c.args.setting.now.filter) c.args.setting.now.files.now c.args.setting.now.state.now (right_of c.args.right.now) from
          (from + c.loop-row.row) c.args.bounds.now c.loop-row.bounds c.try_turn.new.bounds
          (c.loop-row.invariant.swept round (from + c.loop-row.row) refl) it.0 (it.1 round),
    )

pub loop-row-preserved : goal.loop-row-preserved
loop-row-preserved c = record {
  count = c.in_ok-try_turn.ensures.count ∙ c.loop-row.invariant.count;
  apart = λ apart. c.in_ok-try_turn.ensures.apart (c.loop-row.invariant.apart apart);
  swept = λ round k is.
      let from : ℕ = (14 * round + rule_number (rule_of c.args.rule)) * row_count c.args.setting.now.state.now.spaces in
      next_turn (permits c.args.setting.now.filter) c.args.setting.now.files.now c.args.setting.now.state.now from c.loop-row.row k
      c.args.bounds.now c.loop-row.bounds c.try_turn.new.bounds (c.loop-row.invariant.swept round)
      (c.in_ok-try_turn.ensures.goes c.if-branch.false round) is;
}

pub returns-clause-none : goal.returns-clause-none
returns-clause-none c round =
    let count = ap (λ (s : State). length s.spaces) c.st.view_is in
    let n = rule_number (rule_of c.args.rule) in
    c.loop-row.invariant.swept round ((14 * round + suc n) * row_count c.args.setting.now.state.now.spaces)
    (rule_end round n (row_count c.args.setting.now.state.now.spaces) c.loop-row.row (omega (arith, count)))

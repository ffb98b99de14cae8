use Rattle.std.proofs.Common.{suc, ◌∙◌}
use Rattle.cm_box.specs.Rules.{rule_of}
use Rattle.cm_filter.specs.Filters.{permits}
use Rattle.model_box.specs.Bounds.{bounds_hold}
use Rattle.model_box.specs.Row.{row_at}
use Rattle.cm_maker.proofs.Turns.{start_swept}
use Rattle.model_verdict.proofs.Ends.{round_lacks_less}
use Rattle.cm_maker.proofs.Stops.{start_first, stopped_blamed, apart_open}
use Rattle.cm_maker.proofs.blaming.blame.Goals as goal
use Rattle.cm_state.specs.Right.{right_of}
use Rattle.model_verdict.specs.Sweep.{turns_before}

pub returns-in-Some-clause-blamed : goal.returns-in-Some-clause-blamed
returns-in-Some-clause-blamed c = (
  start_first c.args.st.now c.args.members.now (right_of c.args.right.now) c.in_ok-bounds.bounds (row_at c.in-Some.row)
      c.in_ok-bounds.ensures.holds c.in-Some.ensures.first,
  c.in_ok-bounds.ensures.holds,
)

pub loop-bounds-init : goal.loop-bounds-init
loop-bounds-init c = record {
  count = c.in_ok-bounds.ensures.count;
  swept = (
    0,
    start_swept (permits c.args.filter) c.args.files.now c.args.st.now c.args.members.now c.in_ok-bounds.bounds
        c.in_ok-bounds.ensures.holds,
  );
  apart = c.in-None.ensures.none;
}

pub returns-in-Some-2-clause-blamed : goal.returns-in-Some-2-clause-blamed
returns-in-Some-2-clause-blamed c =
    let swept = c.loop-bounds.invariant.swept in
    let it = rw c.in-Some-2.is at c.in_ok-rule.ensures.some in
    let stopped = it.1 swept.0 in
    stopped_blamed (permits c.args.filter) c.args.files.now c.args.st.now (right_of c.args.right.now) c.args.members.now (rule_of c.in-Some-2.rule)
    c.in-Some-2.row c.try_round.new.bounds swept.0 it.0 (stopped.sweeps c.args.members.now swept.1)
    (c.in_ok-rule.ensures.apart c.loop-bounds.invariant.apart) stopped.stops

pub loop-bounds-smaller : goal.loop-bounds-smaller
loop-bounds-smaller c =
    let swept = c.loop-bounds.invariant.swept in
    let went = rw c.in-None-2.is at c.in_ok-rule.ensures.none in
    round_lacks_less (permits c.args.filter) c.args.files.now c.args.st.now c.args.members.now c.see_state.ensures swept.0
    (bounds_hold c.loop-bounds.bounds)
    (bounds_hold c.try_round.new.bounds)
    swept.1 (went swept.0 c.args.members.now swept.1)
    (apart_open (permits c.args.filter) c.args.files.now c.args.st.now (right_of c.args.right.now) c.args.members.now
    (turns_before c.args.st.now.spaces swept.0) c.loop-bounds.bounds c.see_state.ensures c.requires.met swept.1 c.loop-bounds.invariant.apart)

pub loop-bounds-preserved : goal.loop-bounds-preserved
loop-bounds-preserved c =
    let swept = c.loop-bounds.invariant.swept in
    let went = rw c.in-None-2.is at c.in_ok-rule.ensures.none in
    record {
      count = c.in_ok-rule.ensures.count ∙ c.loop-bounds.invariant.count;
      swept = (suc swept.0, went swept.0 c.args.members.now swept.1);
      apart = c.in_ok-rule.ensures.apart c.loop-bounds.invariant.apart;
    }

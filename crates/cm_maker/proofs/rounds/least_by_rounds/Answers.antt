use Rattle.std.proofs.Common.{suc, ◌∙◌}
use Rattle.cm_box_rows.specs.Rows.{RowsHold}
use Rattle.cm_filter.specs.Filters.{permits}
use Rattle.model_box.specs.Bounds.{bounds_hold}
use Rattle.model_box.proofs.Worlds.{state_fits}
use Rattle.cm_maker.proofs.Turns.{start_swept, first_open}
use Rattle.model_verdict.proofs.Ends.{round_lacks_less}
use Rattle.cm_maker.proofs.rounds.least_by_rounds.Goals as goal
use Rattle.model_verdict.specs.Sweep.{turns_before}
use Rattle.model_verdict.proofs.Rounds.{says_least}

pub loop-setting-init : goal.loop-setting-init
loop-setting-init c = record {
  count = c.in_ok-bounds.ensures.count;
  swept = (
    0,
    start_swept (permits c.args.filter) c.args.files.now c.args.st.now c.args.members.now c.in_ok-bounds.bounds
        c.in_ok-bounds.ensures.holds,
  );
}

pub loop-setting-smaller : goal.loop-setting-smaller
loop-setting-smaller c =
    let swept = c.loop-setting.invariant.swept in
    round_lacks_less (permits c.args.filter) c.args.files.now c.args.st.now c.args.members.now c.see_state.ensures swept.0
    (bounds_hold c.loop-setting.bounds)
    (bounds_hold c.round.new.bounds)
    swept.1 (c.in_ok-round-in-Some.ensures.swept swept.0 c.args.members.now swept.1)
    (first_open (permits c.args.filter) c.args.files.now c.args.st.now.spaces (RowsHold c.loop-setting.bounds) _ _ c.in-Some.ensures.first)

pub loop-setting-preserved : goal.loop-setting-preserved
loop-setting-preserved c =
    let swept = c.loop-setting.invariant.swept in
    record {
      count = c.in_ok-round-in-Some.ensures.count ∙ c.loop-setting.invariant.count;
      swept = (suc swept.0, c.in_ok-round-in-Some.ensures.swept swept.0 c.args.members.now swept.1);
    }

pub returns-in-None-clause-least : goal.returns-in-None-clause-least
returns-in-None-clause-least c =
    let swept = c.loop-setting.invariant.swept in
    says_least (permits c.args.filter) c.args.files.now c.args.st.now c.args.members.now (state_fits c.args.st.now c.see_state.ensures)
    (bounds_hold c.loop-setting.bounds) (turns_before c.args.st.now.spaces swept.0) swept.1 c.in-None.ensures.none

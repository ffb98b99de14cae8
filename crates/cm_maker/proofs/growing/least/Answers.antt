use Rattle.std.proofs.Common.{◌∙◌, length, ap}
use Rattle.cm_filter.specs.Filters.{permits}
use Rattle.cm_maker.proofs.Looks.{low_start, start_within, none_said, then_within, all_rest, they_are_least}
use Rattle.cm_maker.proofs.Widenings.{low_kept, lacks_less}
use Rattle.cm_maker.proofs.growing.least.Goals as goal
use Rattle.model_box.proofs.Excludes.{fits_starts}
use Rattle.model_box.proofs.Worlds.{state_fits}

pub loop-waiting-init : goal.loop-waiting-init
loop-waiting-init c =
    let p = permits c.args.filter in
    let s = c.args.st.now in
    let rows = c.in_ok-bounds.bounds in
    let holds = c.in_ok-bounds.ensures.holds in
    let list = c.in_ok-waiting.ensures.count ∙ ap length c.items.ensures ∙ ap length c.bounds.view_is ∙ c.in_ok-bounds.ensures.count in
    record {
      count = c.in_ok-bounds.ensures.count;
      list = list;
      low = low_start s c.args.members.now rows c.see_state.ensures (λ row part x held. (holds row part x).0 held);
      rest = none_said p c.args.files.now s.spaces c.in_ok-waiting.waiting rows _ c.in_ok-waiting.ensures.all
          (ap length c.items.ensures ∙ ap length c.bounds.view_is ∙ c.in_ok-bounds.ensures.count);
      covers = λ row part x has. (holds row part x).1 has;
      within = start_within p c.args.files.now s c.args.members.now rows c.see_state.ensures (λ row part x held. (holds row part x).0 held);
    }

pub pass-requires-clause-waits : goal.pass-requires-clause-waits
pass-requires-clause-waits c =
    let before = c.loop-waiting.invariant in
    record {
      list = before.list;
      earlier = (fits_starts c.args.st.now (state_fits c.args.st.now c.see_state.ensures)).earlier;
      low = before.low;
      rest = before.rest;
    }

pub returns-then-not-branch-clause-least : goal.returns-then-not-branch-clause-least
returns-then-not-branch-clause-least c =
    let p = permits c.args.filter in
    let f = c.args.files.now in
    let s = c.args.st.now in
    let before = c.loop-waiting.invariant in
    let passes = c.in_ok-pass.ensures.passes in
    they_are_least p f s c.args.members.now c.pass.new.bounds c.see_state.ensures
    (all_rest p f s.spaces c.pass.new.waiting c.pass.new.bounds passes.rest (c.in_ok-pass.ensures.empty c.if-not-branch.true))
    (λ row part x has. passes.widens.grown row part x (before.covers row part x has))
    (then_within p f s c.args.members.now c.loop-waiting.bounds c.pass.new.bounds passes.widens before.within)

pub loop-waiting-smaller : goal.loop-waiting-smaller
loop-waiting-smaller c =
    let passes = c.in_ok-pass.ensures.passes in
    lacks_less passes.widens c.loop-waiting.invariant.low (passes.larger c.if-not-branch.false)

pub loop-waiting-preserved : goal.loop-waiting-preserved
loop-waiting-preserved c =
    let before = c.loop-waiting.invariant in
    let passes = c.in_ok-pass.ensures.passes in
    record {
      count = passes.widens.count ∙ before.count;
      list = passes.list ∙ before.list;
      low = low_kept passes.widens before.low;
      rest = passes.rest;
      covers = λ row part x has. passes.widens.grown row part x (before.covers row part x has);
      within = then_within (permits c.args.filter) c.args.files.now c.args.st.now c.args.members.now c.loop-waiting.bounds
          c.pass.new.bounds passes.widens before.within;
    }

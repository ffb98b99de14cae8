use Rattle.std.proofs.Common.{◌∙◌, refl}
use Rattle.cm_filter.specs.Filters.{permits}
use Rattle.cm_maker.proofs.Tries.{rests_all, rests_still, visits_all, visits_more, visits_same}
use Rattle.cm_maker.proofs.Widenings.{low_kept, lacks_less}
use Rattle.cm_maker.proofs.resting.rest.Goals as goal

pub loop-more-smaller-then-branch : goal.loop-more-smaller-then-branch
loop-more-smaller-then-branch c =
    let near = c.in_ok-try_near.ensures.visits in
    lacks_less near.widens c.loop-more.invariant.low (near.larger c.if-branch.true)

pub loop-more-preserved-then-branch : goal.loop-more-preserved-then-branch
loop-more-preserved-then-branch c =
    let near = c.in_ok-try_near.ensures.visits in
    record {
      count = near.widens.count ∙ c.loop-more.invariant.count;
      low = low_kept near.widens c.loop-more.invariant.low;
      visits = visits_more c.loop-more.invariant.visits near c.if-branch.true;
    }

pub loop-more-smaller : goal.loop-more-smaller
loop-more-smaller c =
    let all = visits_all c.in_ok-try_near.ensures.visits c.in_ok-try_rules.ensures.visits c.if-branch-2.true
    c.in_ok-run_programs.ensures in
    lacks_less all.widens c.loop-more.invariant.low (all.larger refl)

pub loop-more-preserved : goal.loop-more-preserved
loop-more-preserved c =
    let all = visits_all c.in_ok-try_near.ensures.visits c.in_ok-try_rules.ensures.visits c.if-branch-2.true
    c.in_ok-run_programs.ensures in
    record {
      count = all.widens.count ∙ c.loop-more.invariant.count;
      low = low_kept all.widens c.loop-more.invariant.low;
      visits = visits_more c.loop-more.invariant.visits all refl;
    }

pub returns-else-branch-2-clause-rests : goal.returns-else-branch-2-clause-rests
returns-else-branch-2-clause-rests c =
    let near = c.in_ok-try_near.ensures in
    let files = c.in_ok-try_rules.ensures in
    let none = c.if-branch-2.false in
    rests_all (permits c.args.setting.now.filter) c.args.setting.now.files.now c.args.setting.now.state.now.spaces
    c.try_rules.new.bounds c.args.row
    (rests_still near.visits 0 7 files.visits none (near.first c.if-branch.false))
    (files.rests none)
    (rests_still near.visits 10 14 files.visits none (near.last c.if-branch.false))

pub returns-else-branch-2-clause-visits : goal.returns-else-branch-2-clause-visits
returns-else-branch-2-clause-visits c =
    visits_same (visits_same c.loop-more.invariant.visits c.in_ok-try_near.ensures.visits c.if-branch.false)
    c.in_ok-try_rules.ensures.visits c.if-branch-2.false

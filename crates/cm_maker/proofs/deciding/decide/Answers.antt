use Rattle.cm_filter.specs.Filters.{permits}
use Rattle.cm_maker.proofs.Stops.{all_meet}
use Rattle.cm_maker.proofs.deciding.decide.Goals as goal
use Rattle.cm_state.specs.Right.{right_of}

pub blame-requires-clause-met : goal.blame-requires-clause-met
blame-requires-clause-met c =
    all_meet (permits c.args.filter) c.args.files.now c.args.st.now c.args.members.now (right_of c.args.right.now) c.in_ok-bounds.bounds _
    c.in_ok-bounds.ensures.least c.in-Some.ensures.first

pub returns-in_ok-x-in-Some-clause-decided : goal.returns-in_ok-x-in-Some-clause-decided
returns-in_ok-x-in-Some-clause-decided c = (
  all_meet (permits c.args.filter) c.args.files.now c.args.st.now c.args.members.now (right_of c.args.right.now) c.in_ok-bounds.bounds _
      c.in_ok-bounds.ensures.least c.in-Some.ensures.first,
  c.in_ok-x-in-Some.ensures.blamed,
)

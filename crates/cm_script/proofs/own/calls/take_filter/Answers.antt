use Rattle.cm_script.proofs.OwnArguments.{taken_filter}
use Rattle.cm_script.proofs.own.calls.take_filter.Goals as goal

pub returns : goal.returns
returns c = λ w.
    taken_filter w _ _ _ _ _ c.named_filter-filter.ensures c.with_filter.ensures.kind c.with_filter.ensures.call
    (c.in_ok-rest.ensures w)

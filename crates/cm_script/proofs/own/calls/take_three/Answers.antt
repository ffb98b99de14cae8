use Rattle.cm_filter.specs.declared.shape.Shape.TheVariants.{ThreeIds}
use Rattle.cm_script.proofs.OwnArguments.{taken_call, takes_three}
use Rattle.cm_script.proofs.own.calls.take_three.Goals as goal

pub returns : goal.returns
returns c = λ w.
    taken_call w _ ThreeIds _ _ _ _ c.requires tt c.with_three_ids.ensures.kind c.with_three_ids.ensures.arguments
    (takes_three w _ _ _ _ _ _ _ (c.in_ok-r.ensures.taken w) (c.in_ok-e.ensures.taken w) (c.in_ok-s.ensures.taken w))

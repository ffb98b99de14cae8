use Rattle.cm_filter.specs.declared.shape.Shape.TheVariants.{TwoIds}
use Rattle.cm_script.proofs.OwnArguments.{taken_call, takes_two}
use Rattle.cm_script.proofs.own.calls.take_two.Goals as goal

pub returns : goal.returns
returns c = λ w.
    taken_call w _ TwoIds _ _ _ _ c.requires tt c.with_two_ids.ensures.kind c.with_two_ids.ensures.arguments
    (takes_two w _ _ _ _ _ (c.in_ok-r.ensures.taken w) (c.in_ok-e.ensures.taken w))

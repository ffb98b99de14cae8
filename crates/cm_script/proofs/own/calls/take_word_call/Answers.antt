use Rattle.cm_declared.specs.World.{world_of}
use Rattle.cm_filter.specs.declared.shape.Shape.TheVariants.{SpaceAndWord}
use Rattle.cm_script.proofs.OwnArguments.{taken_call, takes_two}
use Rattle.cm_script.proofs.own.calls.take_word_call.Goals as goal

pub returns : goal.returns
returns c =
    let w = world_of c.args.w.now in
    taken_call w _ SpaceAndWord _ _ _ _ c.requires tt c.with_word.ensures.kind c.with_word.ensures.arguments (takes_two w _ _ _ _ _ c.in_ok-space.ensures (c.in_ok-deny.ensures w))

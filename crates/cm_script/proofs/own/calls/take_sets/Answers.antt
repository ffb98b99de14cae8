use Rattle.cm_filter.specs.declared.shape.Shape.TheVariants.{ThreeSets}
use Rattle.cm_script.proofs.OwnArguments.{taken_call, sets_taken}
use Rattle.cm_script.proofs.own.calls.take_sets.Goals as goal

pub returns : goal.returns
returns c = λ w.
    taken_call w _ ThreeSets _ _ _ _ c.requires tt c.with_sets.ensures.kind c.with_sets.ensures.arguments
    (sets_taken w _ _ _ _ _ _ _ _ _ _ (c.in_ok-eff.ensures w) (c.in_ok-prm.ensures w) (c.in_ok-inh.ensures w) c.from_bits-eff.ensures c.from_bits-prm.ensures
    c.from_bits-inh.ensures)

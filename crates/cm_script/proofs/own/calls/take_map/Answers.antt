use Rattle.std.proofs.Common.{flat_map}
use Rattle.cm_declared.specs.World.{world_of}
use Rattle.cm_filter.specs.declared.shape.Shape.TheVariants.{SpaceAndMap}
use Rattle.cm_script.proofs.OwnArguments.{taken_call, takes_more}
use Rattle.cm_script.specs.Own.{TakesAll}
use Rattle.model_text.specs.Arguments.{triple_of}
use Rattle.cm_script.proofs.own.calls.take_map.Goals as goal

pub returns : goal.returns
returns c =
    let w = world_of c.args.w.now in
    let list : TakesAll w c.in_ok-space.rest.now (flat_map triple_of c.from_vec-list.result) c.in_ok-extents.rest.now =
    rw c.from_vec-list.ensures (c.in_ok-extents.ensures w) in
    taken_call w _ SpaceAndMap _ _ _ _ c.requires tt c.with_map.ensures.kind c.with_map.ensures.arguments (takes_more w _ _ _ _ _ c.in_ok-space.ensures list)

use Rattle.std.proofs.Common.{sym, ◌∙◌}
use Rattle.cm_declared.specs.World.{world_of}
use Rattle.cm_filter.specs.declared.shape.Shape.TheVariants.{Bare, OneId, ManyIds, OneCap, OneNumber, OneSpace, OneFile}
use Rattle.cm_script.proofs.OwnArguments.{taken_call, takes_none, takes_one}
use Rattle.cm_script.proofs.own.calls.take_call.Goals as goal

pub returns-in_ok-id-in-OneId : goal.returns-in_ok-id-in-OneId
returns-in_ok-id-in-OneId c =
    let w = world_of c.args.w.now in
    taken_call w _ OneId _ _ _ _ (sym c.shape.ensures ∙ c.in-OneId.is) tt c.with_id.ensures.kind c.with_id.ensures.arguments (takes_one w _ _ _ (c.in_ok-id-in-OneId.ensures.taken w))

pub returns-in-TwoIds : goal.returns-in-TwoIds
returns-in-TwoIds c = c.take_two.ensures (world_of c.args.w.now)

pub returns-in-ThreeIds : goal.returns-in-ThreeIds
returns-in-ThreeIds c = c.take_three.ensures (world_of c.args.w.now)

pub returns-in_ok-ids-in-ManyIds : goal.returns-in_ok-ids-in-ManyIds
returns-in_ok-ids-in-ManyIds c =
    let w = world_of c.args.w.now in
    taken_call w _ ManyIds _ _ _ _ (sym c.shape.ensures ∙ c.in-ManyIds.is) tt c.with_ids.ensures.kind c.with_ids.ensures.arguments (rw c.from_vec.ensures (c.in_ok-ids-in-ManyIds.ensures w))

pub returns-in-ThreeSets : goal.returns-in-ThreeSets
returns-in-ThreeSets c = c.take_sets.ensures (world_of c.args.w.now)

pub returns-in_ok-cap-in-OneCap : goal.returns-in_ok-cap-in-OneCap
returns-in_ok-cap-in-OneCap c =
    let w = world_of c.args.w.now in
    taken_call w _ OneCap _ _ _ _ (sym c.shape.ensures ∙ c.in-OneCap.is) tt c.with_cap.ensures.kind c.with_cap.ensures.arguments (takes_one w _ _ _ (c.in_ok-cap-in-OneCap.ensures w))

pub returns-in_ok-n-in-OneNumber : goal.returns-in_ok-n-in-OneNumber
returns-in_ok-n-in-OneNumber c =
    let w = world_of c.args.w.now in
    taken_call w _ OneNumber _ _ _ _ (sym c.shape.ensures ∙ c.in-OneNumber.is) tt c.with_number.ensures.kind c.with_number.ensures.arguments (takes_one w _ _ _ (c.in_ok-n-in-OneNumber.ensures.taken w))

pub returns-in_ok-space-in-OneSpace : goal.returns-in_ok-space-in-OneSpace
returns-in_ok-space-in-OneSpace c =
    let w = world_of c.args.w.now in
    taken_call w _ OneSpace _ _ _ _ (sym c.shape.ensures ∙ c.in-OneSpace.is) tt c.with_space.ensures.kind c.with_space.ensures.arguments (takes_one w _ _ _ c.in_ok-space-in-OneSpace.ensures)

pub returns-in_ok-file-in-OneFile : goal.returns-in_ok-file-in-OneFile
returns-in_ok-file-in-OneFile c =
    let w = world_of c.args.w.now in
    taken_call w _ OneFile _ _ _ _ (sym c.shape.ensures ∙ c.in-OneFile.is) tt c.with_file.ensures.kind c.with_file.ensures.arguments (takes_one w _ _ _ c.in_ok-file-in-OneFile.ensures)

pub returns-in-Bare : goal.returns-in-Bare
returns-in-Bare c =
    let w = world_of c.args.w.now in
    taken_call w _ Bare _ _ _ _ (sym c.shape.ensures ∙ c.in-Bare.is) tt c.bare.ensures.kind c.bare.ensures.arguments (takes_none w _)

pub returns-in-ManyKinds : goal.returns-in-ManyKinds
returns-in-ManyKinds c = c.take_filter.ensures (world_of c.args.w.now)

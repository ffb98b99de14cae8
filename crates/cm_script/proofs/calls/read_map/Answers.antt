use Rattle.std.proofs.Common.{Vec, Ok, sym, ap, ◌∙◌}
use Rattle.std.proofs.lemmas.Result.{err_from_is_err_and}
use Rattle.std.specs.Prelude.{option_map}
use Rattle.std.specs.declared.alloc.Global.{Global}
use Rattle.cm_base.specs.declared.faults.LineFault.TheVariants.{Argument}
use Rattle.cm_base.specs.declared.id.SpaceId.{SpaceId}
use Rattle.cm_declared.specs.World.{world_of}
use Rattle.cm_script.proofs.Telling.{is_bad, map_call, map_untold, space_fault}
use Rattle.cm_script.specs.Steps.{arguments_in, read_in}
use Rattle.cm_state.specs.Call.{call_of}
use Rattle.model_cred.specs.IdMap.{Extent}
use Rattle.cm_script.proofs.calls.read_map.Goals as goal

pub returns : goal.returns
returns c =
    map_call (world_of c.args.w.now) _ _ _ _ c.requires.shape c.requires.counted c.first.ensures.arguments _ _ _
    (sym c.space.ensures ∙ ap (option_map (λ (s : SpaceId). s.0)) c.in_ok-space.ensures.stands)
    (c.in_ok-read_extents.ensures ∙ ap Ok (sym c.from_vec-list.ensures)) c.with_map.ensures.kind c.with_map.ensures.arguments

pub returns-in_err-space : goal.returns-in_err-space
returns-in_err-space c =
    let w = world_of c.args.w.now in
    let p = err_from_is_err_and c.from_residual.result c.from_residual.ensures.1 in
    rw (p.1, p.2) (is_bad call_of _ (Argument 1) (read_in w c.args.kind (arguments_in c.args.text.now)) c.in_err-space.ensures.fault
    (space_fault w c.args.kind (arguments_in c.args.text.now) _ _ c.requires.shape c.requires.counted c.first.ensures.arguments
    (sym c.space.ensures ∙ ap (option_map (λ (s : SpaceId). s.0)) c.in_err-space.ensures.none)))

pub returns-in_err-read_extents : goal.returns-in_err-read_extents
returns-in_err-read_extents c =
    let w = world_of c.args.w.now in
    let p = err_from_is_err_and c.from_residual-in_err-read_extents.result c.from_residual-in_err-read_extents.ensures.1 in
    rw (p.1, p.2) (map_untold w c.args.kind (arguments_in c.args.text.now) _ _ c.requires.shape c.requires.counted c.first.ensures.arguments
    (λ (list : Vec Extent Global). list.items) _ _
    (sym c.space.ensures ∙ ap (option_map (λ (s : SpaceId). s.0)) c.in_ok-space.ensures.stands) c.in_err-read_extents.ensures)

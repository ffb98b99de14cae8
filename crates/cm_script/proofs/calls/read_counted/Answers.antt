use Rattle.std.proofs.Common.{Vec, ℕ, Ok, Some, None, sym, ap, ◌∙◌}
use Rattle.std.proofs.lemmas.Result.{err_from_is_err_and}
use Rattle.std.specs.Prelude.{option_map}
use Rattle.std.specs.declared.alloc.Global.{Global}
use Rattle.cm_base.specs.declared.id.SpaceId.{SpaceId}
use Rattle.cm_declared.specs.World.{world_of}
use Rattle.cm_filter.specs.Shapes.{AnId, ANumber, ACap, ASpace, AFile, arguments_by}
use Rattle.cm_filter.specs.declared.shape.Shape.TheVariants.{Bare, OneId, OneCap, OneNumber, OneSpace, OneFile}
use Rattle.cm_script.proofs.Telling.{told_call, is_fault, bare_read, one_read, list_call, list_untold, filter_call, filter_untold}
use Rattle.cm_script.specs.Steps.{arguments_in}
use Rattle.model_text.specs.Arguments.{Id, Number, Cap, Space, File}
use Rattle.cm_script.proofs.calls.read_counted.Goals as goal

pub returns-in-Bare : goal.returns-in-Bare
returns-in-Bare c =
    let w = world_of c.args.w.now in
    told_call w c.args.kind Bare (arguments_in c.args.text.now) _ _ (sym c.shape.ensures ∙ c.in-Bare.is) tt
    (bare_read w c.args.kind (arguments_in c.args.text.now) (sym c.shape.ensures ∙ c.in-Bare.is) c.requires.counted) c.bare.ensures.kind c.bare.ensures.arguments

pub returns-in_ok-argument-in-OneId : goal.returns-in_ok-argument-in-OneId
returns-in_ok-argument-in-OneId c =
    let w = world_of c.args.w.now in
    told_call w c.args.kind OneId (arguments_in c.args.text.now) _ _ (sym c.shape.ensures ∙ c.in-OneId.is) tt
    (one_read w c.args.kind (arguments_in c.args.text.now) AnId _ (Some (Id _)) (ap arguments_by (sym c.shape.ensures ∙ c.in-OneId.is)) c.only.ensures
    (ap (option_map Id) (sym c.read_id.ensures ∙ c.in_ok-argument-in-OneId.ensures.stands)))
    c.with_id.ensures.kind c.with_id.ensures.arguments

pub returns-in_err-argument-in-OneId : goal.returns-in_err-argument-in-OneId
returns-in_err-argument-in-OneId c =
    let w = world_of c.args.w.now in
    let p = err_from_is_err_and c.from_residual.result c.from_residual.ensures.1 in
    rw (p.1, p.2) (is_fault w c.args.kind (arguments_in c.args.text.now) 1 _ c.in_err-argument-in-OneId.ensures.fault
    (one_read w c.args.kind (arguments_in c.args.text.now) AnId _ None (ap arguments_by (sym c.shape.ensures ∙ c.in-OneId.is)) c.only.ensures
    (ap (option_map Id) (sym c.read_id.ensures ∙ c.in_err-argument-in-OneId.ensures.none))))

pub returns-in_ok-argument-in-OneCap : goal.returns-in_ok-argument-in-OneCap
returns-in_ok-argument-in-OneCap c =
    let w = world_of c.args.w.now in
    told_call w c.args.kind OneCap (arguments_in c.args.text.now) _ _ (sym c.shape.ensures ∙ c.in-OneCap.is) tt
    (one_read w c.args.kind (arguments_in c.args.text.now) ACap _ (Some (Cap _)) (ap arguments_by (sym c.shape.ensures ∙ c.in-OneCap.is)) c.only-in-OneCap.ensures
    (ap (option_map Cap) (sym c.read_cap.ensures ∙ c.in_ok-argument-in-OneCap.ensures.stands)))
    c.with_cap.ensures.kind c.with_cap.ensures.arguments

pub returns-in_err-argument-in-OneCap : goal.returns-in_err-argument-in-OneCap
returns-in_err-argument-in-OneCap c =
    let w = world_of c.args.w.now in
    let p = err_from_is_err_and c.from_residual-in_err-argument-in-OneCap.result c.from_residual-in_err-argument-in-OneCap.ensures.1 in
    rw (p.1, p.2) (is_fault w c.args.kind (arguments_in c.args.text.now) 1 _ c.in_err-argument-in-OneCap.ensures.fault
    (one_read w c.args.kind (arguments_in c.args.text.now) ACap _ None (ap arguments_by (sym c.shape.ensures ∙ c.in-OneCap.is)) c.only-in-OneCap.ensures
    (ap (option_map Cap) (sym c.read_cap.ensures ∙ c.in_err-argument-in-OneCap.ensures.none))))

pub returns-in_ok-argument-in-OneNumber : goal.returns-in_ok-argument-in-OneNumber
returns-in_ok-argument-in-OneNumber c =
    let w = world_of c.args.w.now in
    told_call w c.args.kind OneNumber (arguments_in c.args.text.now) _ _ (sym c.shape.ensures ∙ c.in-OneNumber.is) tt
    (one_read w c.args.kind (arguments_in c.args.text.now) ANumber _ (Some (Number _)) (ap arguments_by (sym c.shape.ensures ∙ c.in-OneNumber.is)) c.only-in-OneNumber.ensures
    (ap (option_map Number) (sym c.read_number.ensures ∙ c.in_ok-argument-in-OneNumber.ensures.stands)))
    c.with_number.ensures.kind c.with_number.ensures.arguments

pub returns-in_err-argument-in-OneNumber : goal.returns-in_err-argument-in-OneNumber
returns-in_err-argument-in-OneNumber c =
    let w = world_of c.args.w.now in
    let p = err_from_is_err_and c.from_residual-in_err-argument-in-OneNumber.result c.from_residual-in_err-argument-in-OneNumber.ensures.1 in
    rw (p.1, p.2) (is_fault w c.args.kind (arguments_in c.args.text.now) 1 _ c.in_err-argument-in-OneNumber.ensures.fault
    (one_read w c.args.kind (arguments_in c.args.text.now) ANumber _ None (ap arguments_by (sym c.shape.ensures ∙ c.in-OneNumber.is)) c.only-in-OneNumber.ensures
    (ap (option_map Number) (sym c.read_number.ensures ∙ c.in_err-argument-in-OneNumber.ensures.none))))

pub returns-in_ok-argument-in-OneSpace : goal.returns-in_ok-argument-in-OneSpace
returns-in_ok-argument-in-OneSpace c =
    let w = world_of c.args.w.now in
    told_call w c.args.kind OneSpace (arguments_in c.args.text.now) _ _ (sym c.shape.ensures ∙ c.in-OneSpace.is) tt
    (one_read w c.args.kind (arguments_in c.args.text.now) ASpace _ (Some (Space _)) (ap arguments_by (sym c.shape.ensures ∙ c.in-OneSpace.is)) c.only-in-OneSpace.ensures
    (ap (option_map Space) (sym c.space.ensures ∙ ap (option_map (λ (s : SpaceId). s.0)) c.in_ok-argument-in-OneSpace.ensures.stands)))
    c.with_space.ensures.kind c.with_space.ensures.arguments

pub returns-in_err-argument-in-OneSpace : goal.returns-in_err-argument-in-OneSpace
returns-in_err-argument-in-OneSpace c =
    let w = world_of c.args.w.now in
    let p = err_from_is_err_and c.from_residual-in_err-argument-in-OneSpace.result c.from_residual-in_err-argument-in-OneSpace.ensures.1 in
    rw (p.1, p.2) (is_fault w c.args.kind (arguments_in c.args.text.now) 1 _ c.in_err-argument-in-OneSpace.ensures.fault
    (one_read w c.args.kind (arguments_in c.args.text.now) ASpace _ None (ap arguments_by (sym c.shape.ensures ∙ c.in-OneSpace.is)) c.only-in-OneSpace.ensures
    (ap (option_map Space) (sym c.space.ensures ∙ ap (option_map (λ (s : SpaceId). s.0)) c.in_err-argument-in-OneSpace.ensures.none))))

pub returns-in_ok-argument-in-OneFile : goal.returns-in_ok-argument-in-OneFile
returns-in_ok-argument-in-OneFile c =
    let w = world_of c.args.w.now in
    told_call w c.args.kind OneFile (arguments_in c.args.text.now) _ _ (sym c.shape.ensures ∙ c.in-OneFile.is) tt
    (one_read w c.args.kind (arguments_in c.args.text.now) AFile _ (Some (File _)) (ap arguments_by (sym c.shape.ensures ∙ c.in-OneFile.is)) c.only-in-OneFile.ensures
    (ap (option_map File) (sym c.read_file.ensures ∙ c.in_ok-argument-in-OneFile.ensures.stands)))
    c.with_file.ensures.kind c.with_file.ensures.arguments

pub returns-in_err-argument-in-OneFile : goal.returns-in_err-argument-in-OneFile
returns-in_err-argument-in-OneFile c =
    let w = world_of c.args.w.now in
    let p = err_from_is_err_and c.from_residual-in_err-argument-in-OneFile.result c.from_residual-in_err-argument-in-OneFile.ensures.1 in
    rw (p.1, p.2) (is_fault w c.args.kind (arguments_in c.args.text.now) 1 _ c.in_err-argument-in-OneFile.ensures.fault
    (one_read w c.args.kind (arguments_in c.args.text.now) AFile _ None (ap arguments_by (sym c.shape.ensures ∙ c.in-OneFile.is)) c.only-in-OneFile.ensures
    (ap (option_map File) (sym c.read_file.ensures ∙ c.in_err-argument-in-OneFile.ensures.none))))

pub returns-in_ok-read_ids-in-ManyIds : goal.returns-in_ok-read_ids-in-ManyIds
returns-in_ok-read_ids-in-ManyIds c =
    let w = world_of c.args.w.now in
    list_call w c.args.kind (arguments_in c.args.text.now) _ _ (sym c.shape.ensures ∙ c.in-ManyIds.is)
    (c.in_ok-read_ids-in-ManyIds.ensures ∙ ap Ok (sym c.from_vec.ensures)) c.with_ids.ensures.kind c.with_ids.ensures.arguments

pub returns-in_err-read_ids-in-ManyIds : goal.returns-in_err-read_ids-in-ManyIds
returns-in_err-read_ids-in-ManyIds c =
    let w = world_of c.args.w.now in
    let p = err_from_is_err_and c.from_residual-in_err-read_ids-in-ManyIds.result c.from_residual-in_err-read_ids-in-ManyIds.ensures.1 in
    rw (p.1, p.2) (list_untold (λ (ids : Vec ℕ Global). ids.items) w c.args.kind (arguments_in c.args.text.now) _ (sym c.shape.ensures ∙ c.in-ManyIds.is)
    c.in_err-read_ids-in-ManyIds.ensures)

pub returns-in_ok-read_kinds-in-ManyKinds : goal.returns-in_ok-read_kinds-in-ManyKinds
returns-in_ok-read_kinds-in-ManyKinds c =
    let w = world_of c.args.w.now in
    filter_call w c.args.kind (arguments_in c.args.text.now) _ _ (sym c.shape.ensures ∙ c.in-ManyKinds.is)
    c.in_ok-read_kinds-in-ManyKinds.ensures c.with_filter.ensures.call

pub returns-in_err-read_kinds-in-ManyKinds : goal.returns-in_err-read_kinds-in-ManyKinds
returns-in_err-read_kinds-in-ManyKinds c =
    let w = world_of c.args.w.now in
    let p = err_from_is_err_and c.from_residual-in_err-read_kinds-in-ManyKinds.result c.from_residual-in_err-read_kinds-in-ManyKinds.ensures.1 in
    rw (p.1, p.2) (filter_untold w c.args.kind (arguments_in c.args.text.now) _ (sym c.shape.ensures ∙ c.in-ManyKinds.is)
    c.in_err-read_kinds-in-ManyKinds.ensures)

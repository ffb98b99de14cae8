use Rattle.std.proofs.Common.{Some, None, refl, sym, ap, ◌∙◌}
use Rattle.std.proofs.lemmas.Result.{err_from_is_err_and}
use Rattle.std.specs.Prelude.{option_map}
use Rattle.cm_filter.specs.Shapes.{AnId, arguments_by}
use Rattle.cm_filter.specs.declared.shape.Shape.TheVariants.{ThreeIds}
use Rattle.cm_script.proofs.Telling.{told_call, is_fault, three_read}
use Rattle.cm_script.specs.Steps.{arguments_in}
use Rattle.model_text.specs.Arguments.{Id}
use Rattle.cm_script.proofs.calls.read_three.Goals as goal

pub returns : goal.returns
returns c = λ w.
    told_call w _ ThreeIds _ _ _ c.requires.shape tt (three_read w _ _ AnId _ _ _ (Some (Id _)) (Some (Id _)) (Some (Id _)) (ap arguments_by c.requires.shape) c.all_three.ensures
    (ap (option_map Id) (sym c.read_id.ensures ∙ c.in_ok-r.ensures.stands))
    (ap (option_map Id) (sym c.read_id-2.ensures ∙ c.in_ok-e.ensures.stands))
    (ap (option_map Id) (sym c.read_id-3.ensures ∙ c.in_ok-s.ensures.stands)))
    c.with_three_ids.ensures.kind c.with_three_ids.ensures.arguments

pub returns-in_err-r : goal.returns-in_err-r
returns-in_err-r c = λ w.
    let p = err_from_is_err_and c.from_residual.result c.from_residual.ensures.1 in
    rw (p.1, p.2) (is_fault w c.args.kind (arguments_in c.args.text.now) 1 _ c.in_err-r.ensures.fault
    (three_read w c.args.kind (arguments_in c.args.text.now) AnId _ _ _ None _ _ (ap arguments_by c.requires.shape) c.all_three.ensures
    (ap (option_map Id) (sym c.read_id.ensures ∙ c.in_err-r.ensures.none))
    refl
    refl))

pub returns-in_err-e : goal.returns-in_err-e
returns-in_err-e c = λ w.
    let p = err_from_is_err_and c.from_residual-in_err-e.result c.from_residual-in_err-e.ensures.1 in
    rw (p.1, p.2) (is_fault w c.args.kind (arguments_in c.args.text.now) 2 _ c.in_err-e.ensures.fault
    (three_read w c.args.kind (arguments_in c.args.text.now) AnId _ _ _ (Some (Id _)) None _ (ap arguments_by c.requires.shape) c.all_three.ensures
    (ap (option_map Id) (sym c.read_id.ensures ∙ c.in_ok-r.ensures.stands))
    (ap (option_map Id) (sym c.read_id-2.ensures ∙ c.in_err-e.ensures.none))
    refl))

pub returns-in_err-s : goal.returns-in_err-s
returns-in_err-s c = λ w.
    let p = err_from_is_err_and c.from_residual-in_err-s.result c.from_residual-in_err-s.ensures.1 in
    rw (p.1, p.2) (is_fault w c.args.kind (arguments_in c.args.text.now) 3 _ c.in_err-s.ensures.fault
    (three_read w c.args.kind (arguments_in c.args.text.now) AnId _ _ _ (Some (Id _)) (Some (Id _)) None (ap arguments_by c.requires.shape) c.all_three.ensures
    (ap (option_map Id) (sym c.read_id.ensures ∙ c.in_ok-r.ensures.stands))
    (ap (option_map Id) (sym c.read_id-2.ensures ∙ c.in_ok-e.ensures.stands))
    (ap (option_map Id) (sym c.read_id-3.ensures ∙ c.in_err-s.ensures.none))))

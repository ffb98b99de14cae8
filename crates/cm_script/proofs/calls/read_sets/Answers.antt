use Rattle.std.proofs.Common.{Some, None, refl, sym, ap, ◌∙◌}
use Rattle.std.proofs.lemmas.Result.{err_from_is_err_and}
use Rattle.std.specs.Prelude.{option_map}
use Rattle.cm_filter.specs.Shapes.{ASet, arguments_by}
use Rattle.cm_filter.specs.declared.shape.Shape.TheVariants.{ThreeSets}
use Rattle.cm_script.proofs.Telling.{told_call, is_fault, three_read}
use Rattle.cm_script.specs.Steps.{arguments_in}
use Rattle.model_text.specs.Arguments.{Set}
use Rattle.cm_script.proofs.calls.read_sets.Goals as goal

pub returns : goal.returns
returns c = λ w.
    told_call w _ ThreeSets _ _ _ c.requires.shape tt (three_read w _ _ ASet _ _ _ (Some (Set _)) (Some (Set _)) (Some (Set _)) (ap arguments_by c.requires.shape) c.all_three.ensures
    (ap (option_map Set) (sym c.read_cap_text.ensures ∙ c.in_ok-eff.ensures.stands))
    (ap (option_map Set) (sym c.read_cap_text-2.ensures ∙ c.in_ok-prm.ensures.stands))
    (ap (option_map Set) (sym c.read_cap_text-3.ensures ∙ c.in_ok-inh.ensures.stands)))
    c.with_sets.ensures.kind c.with_sets.ensures.arguments

pub returns-in_err-eff : goal.returns-in_err-eff
returns-in_err-eff c = λ w.
    let p = err_from_is_err_and c.from_residual.result c.from_residual.ensures.1 in
    rw (p.1, p.2) (is_fault w c.args.kind (arguments_in c.args.text.now) 1 _ c.in_err-eff.ensures.fault
    (three_read w c.args.kind (arguments_in c.args.text.now) ASet _ _ _ None _ _ (ap arguments_by c.requires.shape) c.all_three.ensures
    (ap (option_map Set) (sym c.read_cap_text.ensures ∙ c.in_err-eff.ensures.none))
    refl
    refl))

pub returns-in_err-prm : goal.returns-in_err-prm
returns-in_err-prm c = λ w.
    let p = err_from_is_err_and c.from_residual-in_err-prm.result c.from_residual-in_err-prm.ensures.1 in
    rw (p.1, p.2) (is_fault w c.args.kind (arguments_in c.args.text.now) 2 _ c.in_err-prm.ensures.fault
    (three_read w c.args.kind (arguments_in c.args.text.now) ASet _ _ _ (Some (Set _)) None _ (ap arguments_by c.requires.shape) c.all_three.ensures
    (ap (option_map Set) (sym c.read_cap_text.ensures ∙ c.in_ok-eff.ensures.stands))
    (ap (option_map Set) (sym c.read_cap_text-2.ensures ∙ c.in_err-prm.ensures.none))
    refl))

pub returns-in_err-inh : goal.returns-in_err-inh
returns-in_err-inh c = λ w.
    let p = err_from_is_err_and c.from_residual-in_err-inh.result c.from_residual-in_err-inh.ensures.1 in
    rw (p.1, p.2) (is_fault w c.args.kind (arguments_in c.args.text.now) 3 _ c.in_err-inh.ensures.fault
    (three_read w c.args.kind (arguments_in c.args.text.now) ASet _ _ _ (Some (Set _)) (Some (Set _)) None (ap arguments_by c.requires.shape) c.all_three.ensures
    (ap (option_map Set) (sym c.read_cap_text.ensures ∙ c.in_ok-eff.ensures.stands))
    (ap (option_map Set) (sym c.read_cap_text-2.ensures ∙ c.in_ok-prm.ensures.stands))
    (ap (option_map Set) (sym c.read_cap_text-3.ensures ∙ c.in_err-inh.ensures.none))))

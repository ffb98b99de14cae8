use Rattle.std.proofs.Common.{Some, None, refl, sym, ap, ◌∙◌}
use Rattle.std.proofs.lemmas.Result.{err_from_is_err_and}
use Rattle.std.specs.Prelude.{option_map}
use Rattle.cm_base.specs.declared.id.SpaceId.{SpaceId}
use Rattle.cm_declared.specs.World.{world_of}
use Rattle.cm_filter.specs.Shapes.{ASpace, AWord, arguments_by}
use Rattle.cm_filter.specs.declared.shape.Shape.TheVariants.{SpaceAndWord}
use Rattle.cm_script.proofs.Telling.{told_call, is_fault, two_read}
use Rattle.cm_script.specs.Steps.{arguments_in}
use Rattle.model_text.specs.Arguments.{Space, Word}
use Rattle.cm_script.proofs.calls.read_word_call.Goals as goal

pub returns : goal.returns
returns c =
    let w = world_of c.args.w.now in
    told_call w _ SpaceAndWord _ _ _ c.requires.shape tt (two_read w _ _ ASpace AWord _ _ (Some (Space _)) (Some (Word _)) (ap arguments_by c.requires.shape) c.both.ensures
    (ap (option_map Space) (sym c.space.ensures ∙ ap (option_map (λ (s : SpaceId). s.0)) c.in_ok-space.ensures.stands))
    (ap (option_map Word) (sym c.read_word.ensures ∙ c.in_ok-deny.ensures.stands)))
    c.with_word.ensures.kind c.with_word.ensures.arguments

pub returns-in_err-space : goal.returns-in_err-space
returns-in_err-space c =
    let w = world_of c.args.w.now in
    let p = err_from_is_err_and c.from_residual.result c.from_residual.ensures.1 in
    rw (p.1, p.2) (is_fault w c.args.kind (arguments_in c.args.text.now) 1 _ c.in_err-space.ensures.fault
    (two_read w c.args.kind (arguments_in c.args.text.now) ASpace AWord _ _ None _ (ap arguments_by c.requires.shape) c.both.ensures
    (ap (option_map Space) (sym c.space.ensures ∙ ap (option_map (λ (s : SpaceId). s.0)) c.in_err-space.ensures.none))
    refl))

pub returns-in_err-deny : goal.returns-in_err-deny
returns-in_err-deny c =
    let w = world_of c.args.w.now in
    let p = err_from_is_err_and c.from_residual-in_err-deny.result c.from_residual-in_err-deny.ensures.1 in
    rw (p.1, p.2) (is_fault w c.args.kind (arguments_in c.args.text.now) 2 _ c.in_err-deny.ensures.fault
    (two_read w c.args.kind (arguments_in c.args.text.now) ASpace AWord _ _ (Some (Space _)) None (ap arguments_by c.requires.shape) c.both.ensures
    (ap (option_map Space) (sym c.space.ensures ∙ ap (option_map (λ (s : SpaceId). s.0)) c.in_ok-space.ensures.stands))
    (ap (option_map Word) (sym c.read_word.ensures ∙ c.in_err-deny.ensures.none))))

use Rattle.std.proofs.Common.{ap, sym, ◌∙◌}
use Rattle.std.proofs.lemmas.Result.{err_from_is_err_and}
use Rattle.cm_strace_calls.proofs.IdCalls.{after_first, ids_after, last_after, made_is, third, three_after, two_after}
use Rattle.cm_strace_calls.proofs.ids.read_call.Goals as goal
use Rattle.cm_strace_calls.specs.Readers.{next_is}
use Rattle.cm_strace_calls.specs.Told.{and_make}
use Rattle.cm_strace_text.specs.Depths.{arguments_in}

pub returns-in_err-first : goal.returns-in_err-first
returns-in_err-first c = λ w.
    let p = err_from_is_err_and c.from_residual.result
    c.from_residual.ensures.1 in rw (p.1, p.2)
    (sym (after_first w c.args.kind (arguments_in c.args.arguments) _ c.requires
    (ap (and_make next_is) (sym c.in_err-first.was) ∙ c.id.ensures)))

pub returns-in-OneId : goal.returns-in-OneId
returns-in-OneId c = λ w.
    sym (after_first w c.args.kind (arguments_in c.args.arguments) _ c.requires
    (ap (and_make next_is) (sym c.in_ok-first.was) ∙ c.id.ensures)
    ∙ ap (λ s. ids_after c.args.kind s c.in_ok-first.first (arguments_in c.in_ok-first.left))
    (sym c.shape.ensures ∙ c.in-OneId.is)
    ∙ made_is c.args.kind _ _ c.requires c.with_id.ensures.kind c.with_id.ensures.arguments)

pub returns-in_err-second-in-TwoIds : goal.returns-in_err-second-in-TwoIds
returns-in_err-second-in-TwoIds c = λ w.
    let p = err_from_is_err_and c.from_residual-in_err-second-in-TwoIds.result
    c.from_residual-in_err-second-in-TwoIds.ensures.1 in rw (p.1, p.2)
    (sym (after_first w c.args.kind (arguments_in c.args.arguments) _ c.requires
    (ap (and_make next_is) (sym c.in_ok-first.was) ∙ c.id.ensures)
    ∙ two_after c.args.kind c.in_ok-first.first (arguments_in c.in_ok-first.left) _
    (sym c.shape.ensures ∙ c.in-TwoIds.is)
    (ap (and_make next_is) (sym c.in_err-second-in-TwoIds.was) ∙ c.id-in-TwoIds.ensures)))

pub returns-in_ok-second-in-TwoIds : goal.returns-in_ok-second-in-TwoIds
returns-in_ok-second-in-TwoIds c = λ w.
    sym (after_first w c.args.kind (arguments_in c.args.arguments) _ c.requires
    (ap (and_make next_is) (sym c.in_ok-first.was) ∙ c.id.ensures)
    ∙ two_after c.args.kind c.in_ok-first.first (arguments_in c.in_ok-first.left) _
    (sym c.shape.ensures ∙ c.in-TwoIds.is)
    (ap (and_make next_is) (sym c.in_ok-second-in-TwoIds.was) ∙ c.id-in-TwoIds.ensures)
    ∙ made_is c.args.kind _ _ c.requires c.with_two_ids.ensures.kind c.with_two_ids.ensures.arguments)

pub returns-in_err-second-in_default : goal.returns-in_err-second-in_default
returns-in_err-second-in_default c = λ w.
    let p = err_from_is_err_and c.from_residual-in_err-second-in_default.result
    c.from_residual-in_err-second-in_default.ensures.1 in rw (p.1, p.2)
    (sym (after_first w c.args.kind (arguments_in c.args.arguments) _ c.requires
    (ap (and_make next_is) (sym c.in_ok-first.was) ∙ c.id.ensures)
    ∙ three_after c.args.kind c.in_ok-first.first (arguments_in c.in_ok-first.left) _
    (third c.args.kind c.shape.result c.shape.ensures c.requires c.in_default.not-OneId c.in_default.not-TwoIds)
    (ap (and_make next_is) (sym c.in_err-second-in_default.was) ∙ c.id-in_default.ensures)))

pub returns-in_err-third-in_default : goal.returns-in_err-third-in_default
returns-in_err-third-in_default c = λ w.
    let p = err_from_is_err_and c.from_residual-in_err-third-in_default.result
    c.from_residual-in_err-third-in_default.ensures.1 in rw (p.1, p.2)
    (sym (after_first w c.args.kind (arguments_in c.args.arguments) _ c.requires
    (ap (and_make next_is) (sym c.in_ok-first.was) ∙ c.id.ensures)
    ∙ three_after c.args.kind c.in_ok-first.first (arguments_in c.in_ok-first.left) _
    (third c.args.kind c.shape.result c.shape.ensures c.requires c.in_default.not-OneId c.in_default.not-TwoIds)
    (ap (and_make next_is) (sym c.in_ok-second-in_default.was) ∙ c.id-in_default.ensures)
    ∙ last_after c.args.kind c.in_ok-first.first c.in_ok-second-in_default.second
    (arguments_in c.in_ok-second-in_default.left) _
    (ap (and_make next_is) (sym c.in_err-third-in_default.was) ∙ c.id-in_default-2.ensures)))

pub returns-in_ok-third-in_default : goal.returns-in_ok-third-in_default
returns-in_ok-third-in_default c = λ w.
    sym (after_first w c.args.kind (arguments_in c.args.arguments) _ c.requires
    (ap (and_make next_is) (sym c.in_ok-first.was) ∙ c.id.ensures)
    ∙ three_after c.args.kind c.in_ok-first.first (arguments_in c.in_ok-first.left) _
    (third c.args.kind c.shape.result c.shape.ensures c.requires c.in_default.not-OneId c.in_default.not-TwoIds)
    (ap (and_make next_is) (sym c.in_ok-second-in_default.was) ∙ c.id-in_default.ensures)
    ∙ last_after c.args.kind c.in_ok-first.first c.in_ok-second-in_default.second
    (arguments_in c.in_ok-second-in_default.left) _
    (ap (and_make next_is) (sym c.in_ok-third-in_default.was) ∙ c.id-in_default-2.ensures)
    ∙ made_is c.args.kind _ _ c.requires c.with_three_ids.ensures.kind c.with_three_ids.ensures.arguments)

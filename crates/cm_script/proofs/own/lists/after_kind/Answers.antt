use Rattle.std.proofs.Common.{◌∙◌}
use Rattle.cm_script.proofs.OwnArguments.{can_stand, kind_stands}
use Rattle.cm_script.proofs.own.lists.after_kind.Goals as goal

pub returns-in_ok-after_blank-in_default : goal.returns-in_ok-after_blank-in_default
returns-in_ok-after_blank-in_default c = λ w.
    kind_stands w c.args.kind c.args.text.now _ c.as_bytes.result.now c.after_piece.result c.in_ok-after_blank-in_default.ensures
    (can_stand c.args.kind c.in_default.not-Exit) (c.as_bytes.ensures.value ∙ c.name.ensures) c.after_piece.ensures

use Rattle.std.proofs.Common.{◌∙◌, ap, sym}
use Rattle.std.specs.Prelude.{is_some}
use Rattle.cm_idset.specs.Held.{Held}
use Rattle.model_cred.specs.Space.{Space}
use Rattle.cm_box.proofs.Zeros.{zero_written, zero_mapped}
use Rattle.cm_box.proofs.above.may_be_zero.Goals as goal

pub returns-then-is_some : goal.returns-then-is_some
returns-then-is_some c =
    let same = ap (λ (s : Space). is_some s.uids) c.space.view_is in
    zero_written c.args.space.now (Held c.args.mapped.now) c.args.id c.is_zero.result
    (sym same ∙ (sym c.is_some.ensures ∙ c.if-is_some.true)) c.is_zero.ensures

pub returns : goal.returns
returns c =
    let same = ap (λ (s : Space). is_some s.uids) c.space.view_is in
    zero_mapped c.args.space.now (Held c.args.mapped.now) c.args.id c.holds.result
    (c.if-is_some.ensures ∙ same) c.holds.ensures

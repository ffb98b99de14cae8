use Rattle.std.proofs.Common.{None, Some, sym, ap, ◌∙◌}
use Rattle.std.proofs.lemmas.Bool.{cond-true, cond-false}
use Rattle.cm_plans.specs.Moves.{may_do}
use Rattle.cm_plans.proofs.moves.if_permitted.Goals as goal
use Rattle.cm_state.specs.Call.{call_of as told}
use Rattle.model_cred.specs.Call.{kind_of}

pub returns-then-permits-clause-call : goal.returns-then-permits-clause-call
returns-then-permits-clause-call c =
    sym (cond-true (may_do c.args.f (kind_of (told c.args.call))) (Some (told c.args.call)) None
    (ap (may_do c.args.f) (sym c.requires) ∙ sym c.permits.ensures ∙ c.if-permits.true))

pub returns-else-permits-clause-call : goal.returns-else-permits-clause-call
returns-else-permits-clause-call c =
    sym (cond-false (may_do c.args.f (kind_of (told c.args.call))) (Some (told c.args.call)) None
    (ap (may_do c.args.f) (sym c.requires) ∙ sym c.permits.ensures ∙ c.if-permits.false))

use Rattle.std.proofs.Common.{sym, ◌∙◌}
use Rattle.cm_ordered.proofs.Order.{stands, stands_nowhere, at_within}
use Rattle.cm_ordered.proofs.ordered.find.Goals as goal

pub returns-then-is_at-clause-found : goal.returns-then-is_at-clause-found
returns-then-is_at-clause-found g c =
    stands g.T.Numbered.number (g.K.Numbered.number c.args.key) c.args.list.now c.place-at.result c.requires
    c.place-at.ensures (sym c.is_at.ensures ∙ c.if-is_at.true)

pub returns-then-is_at-clause-within : goal.returns-then-is_at-clause-within
returns-then-is_at-clause-within g c = at_within _ c.args.list.now c.place-at.result
    (sym c.is_at.ensures ∙ c.if-is_at.true)

pub returns-else-is_at-clause-none : goal.returns-else-is_at-clause-none
returns-else-is_at-clause-none g c =
    stands_nowhere g.T.Numbered.number (g.K.Numbered.number c.args.key) c.args.list.now c.place-at.result c.requires
    c.place-at.ensures (sym c.is_at.ensures ∙ c.if-is_at.false)

use Rattle.std.proofs.Common.{sym, ◌∙◌}
use Rattle.cm_ordered.specs.Order.{before_by, has_number}
use Rattle.cm_ordered.proofs.Order.{keeps_others, keeps_all, filter_ascends}
use Rattle.cm_ordered.proofs.ordered.remove.Goals as goal

pub returns-in-Some-clause-items : goal.returns-in-Some-clause-items
returns-in-Some-clause-items g c =
    c.remove.ensures.items
    ∙ keeps_others (has_number g.T.Numbered.number (g.K.Numbered.number c.args.key)) c.args.list.now.items _
    (rw c.deref.ensures.value at c.in-Some.ensures.found)

pub returns-in-Some-clause-ascends : goal.returns-in-Some-clause-ascends
returns-in-Some-clause-ascends g c =
    let is = c.remove.ensures.items
    ∙ keeps_others (has_number g.T.Numbered.number (g.K.Numbered.number c.args.key)) c.args.list.now.items _
    (rw c.deref.ensures.value at c.in-Some.ensures.found) in
    rw is (filter_ascends (before_by g.T.Numbered.number) _ c.args.list.now.items c.requires)

pub returns-in-None-clause-items : goal.returns-in-None-clause-items
returns-in-None-clause-items g c =
    sym (keeps_all (has_number g.T.Numbered.number (g.K.Numbered.number c.args.key)) c.args.list.now.items
    (rw c.deref.ensures.value at c.in-None.ensures.none))

use Rattle.std.proofs.Common.{sym, ◌∙◌}
use Rattle.cm_values.proofs.Fours.{four_of-not_four}
use Rattle.cm_values.proofs.ids.four_of.Goals as goal

pub returns-then-ids-ne4 : goal.returns-then-ids-ne4
returns-then-ids-ne4 c = c.all.ensures ∙ sym (four_of-not_four c.args.ids.now c.if-ids-ne4.true)

use Rattle.std.proofs.Common.{ℕ, Option, ap, sym, ◌∙◌}
use Rattle.cm_confirm.proofs.confirming.end_run.Goals as goal
use Rattle.model_confirm.specs.Confirm.{by_holder}

pub returns-in-Some : goal.returns-in-Some
returns-in-Some c = ap (λ (found : Option ℕ). by_holder found) (sym c.in-Some.is ∙ c.holder.ensures)

pub returns-in-None : goal.returns-in-None
returns-in-None c = ap (λ (found : Option ℕ). by_holder found) (sym c.in-None.is ∙ c.holder.ensures)

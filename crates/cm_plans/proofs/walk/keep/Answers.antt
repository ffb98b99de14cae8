use Rattle.std.proofs.Common.{subst, sym}
use Rattle.std.specs.Prelude.{All}
use Rattle.std.proofs.lemmas.List.Elements.{All-push}
use Rattle.cm_plans.proofs.walk.keep.Goals as goal
use Rattle.cm_plans.proofs.walk.keep.Goals.{in-Ok, in-Err}
use Rattle.cm_plans.specs.Tried.{Tried}

pub returns : goal.returns
returns c q rows groups each one = elim c.match-push.branch [
  | in-Ok w ↦
      subst (All (Tried q rows groups)) (sym w.in-Ok.ensures.items)
      (All-push (Tried q rows groups) c.args.list.now.items c.saved.result each
      (subst (Tried q rows groups) (sym c.saved.ensures) one))
  | in-Err w ↦ subst (All (Tried q rows groups)) (sym w.in-Err.ensures.items) each
]

use Rattle.std.proofs.Common.{◌∷◌, map, option_map, sym, ap, ◌∙◌}
use Rattle.cm_base.specs.declared.res.FileRef.TheVariants.{Row}
use Rattle.cm_plans.proofs.Pairing.{second_runs}
use Rattle.cm_plans.proofs.walk.find_pair_of.Goals as goal
use Rattle.cm_plans.specs.Moves.{setting}
use Rattle.model_plans.specs.Move.{Seat, RunFile}
use Rattle.model_plans.specs.Plan.{run_row}
use Rattle.model_plans.specs.Walk.{middle_found}

pub find_new-found-requires-clause-tried : goal.find_new-found-requires-clause-tried
find_new-found-requires-clause-tried c = λ k d below t same alike.
    c.requires.tried k d below t (same ∙ c.make.ensures.groups) alike

pub returns-clause-tried : goal.returns-clause-tried
returns-clause-tried c = λ k d below t same alike.
    c.find_new-found.ensures.tried k d below t (same ∙ sym c.make.ensures.groups) alike

pub returns-clause-found : goal.returns-clause-found
returns-clause-found c =
    let q = setting c.args.q.now in
    let rows = c.args.q.now.special.items in
    c.find_new-found.ensures.found
    ∙ ap (λ (seat : Seat). option_map (λ moves. RunFile (Row c.args.first) ∷ moves) (middle_found q seat (map run_row rows))) c.make.ensures.seat
    ∙ sym (second_runs q c.args.seat.now c.args.first rows)

pub returns-clause-same : goal.returns-clause-same
returns-clause-same c =
    c.restore.ensures c.args.seat.now c.saved-old.ensures
    (ap (λ (seat : Seat). seat.cred.groups) c.find_new-found.ensures.same ∙ c.make.ensures.groups)

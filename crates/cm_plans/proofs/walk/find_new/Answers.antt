use Rattle.std.proofs.Common.{◌∷◌, ℕ, List, option_map, sym, ap, subst}
use Rattle.std.specs.Prelude.{All}
use Rattle.cm_base.specs.declared.res.FileRef.TheVariants.{Row}
use Rattle.cm_plans.proofs.Trying.{tried_here, to_be_tried}
use Rattle.cm_plans.proofs.walk.find_new.Goals as goal
use Rattle.cm_plans.specs.Choices.{without_groups}
use Rattle.cm_plans.specs.Moves.{setting}
use Rattle.cm_plans.specs.Tried.{Tried}
use Rattle.model_plans.specs.Move.{Move, RunFile, Seat}

pub returns-then-is_among-clause-found : goal.returns-then-is_among-clause-found
returns-then-is_among-clause-found c =
    let q = setting c.args.q.now in
    let rows : List ℕ = c.args.q.now.special.items in
    sym (ap (option_map (λ (moves : List Move). RunFile (Row c.args.first) ∷ moves))
    (tried_here q rows c.args.seat.now c.deref.result.now
    (subst (All (Tried q rows c.args.seat.now.cred.groups)) (sym c.deref.ensures.value) c.requires.tried)
    (c.is_among.ensures c.if-is_among.true)))

pub returns-in-None-clause-tried : goal.returns-in-None-clause-tried
returns-in-None-clause-tried c =
    let q = setting c.args.q.now in
    let rows : List ℕ = c.args.q.now.special.items in
    let groups : List ℕ = c.args.seat.now.cred.groups in
    c.keep.ensures q rows groups c.requires.tried
    (subst (λ (seat : Seat). Tried q rows groups (without_groups seat)) (sym c.find_second.ensures.same)
    (to_be_tried q rows c.args.first c.args.seat.now c.in-None.ensures.found))

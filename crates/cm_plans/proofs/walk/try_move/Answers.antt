use Rattle.std.proofs.Common.{◌≡◌, [], ◌∷◌, subst, option_map}
use Rattle.cm_plans.proofs.Finding.{from_first, own_middles}
use Rattle.cm_plans.proofs.walk.try_move.Goals as goal
use Rattle.cm_plans.specs.Choices.{moves_of_three}
use Rattle.cm_plans.specs.Moves.{setting, move_of}
use Rattle.model_plans.specs.Move.{Seat}

pub returns-clause-found : goal.returns-clause-found
returns-clause-found c =
    let q = setting c.args.q.now in
    let first = move_of c.args.first ∷ [] in
    let found : option_map moves_of_three c.try_first.result ≡ from_first q c.is_made.new.seat (own_middles q c.is_made.new.seat) first
    = c.try_first.ensures.found in
    subst (λ (seat : Seat). option_map moves_of_three c.try_first.result ≡ from_first q seat (own_middles q seat) first) c.is_made.ensures.same found

use Rattle.std.proofs.Common.{◌≡◌, sym, ◌∙◌, subst, [], ◌∷◌, None, Some, option_map}
use Rattle.cm_plans.specs.Moves.{setting}
use Rattle.model_plans.specs.Move.{Seat, BecomeZero, BecomeSought}
use Rattle.cm_plans.proofs.Finding.{moves_first, moves_second, moves_third, from_first, own_middles}
use Rattle.cm_plans.proofs.walk.find_moves.Goals as goal
use Rattle.cm_plans.specs.Choices.{moves_of_three}

pub returns-in-Some-clause-found : goal.returns-in-Some-clause-found
returns-in-Some-clause-found c =
    sym (moves_first (setting c.args.q.now) c.args.seat.now (moves_of_three c.in-Some.found) (sym c.in-Some.ensures.found))

pub returns-in-Some-try_move-clause-found : goal.returns-in-Some-try_move-clause-found
returns-in-Some-try_move-clause-found c =
    let q = setting c.args.q.now in
    let second : Some (moves_of_three c.in-Some-try_move.found) ≡ from_first q c.try_first.new.seat (own_middles q c.try_first.new.seat) (BecomeZero ∷ [])
    = c.in-Some-try_move.ensures.found in
    sym (moves_second q c.args.seat.now (moves_of_three c.in-Some-try_move.found) (sym c.in-None.ensures.found)
    (sym (subst (λ (seat : Seat). Some (moves_of_three c.in-Some-try_move.found) ≡ from_first q seat (own_middles q seat) (BecomeZero ∷ []))
    c.try_first.ensures.same second)))

pub returns-clause-found : goal.returns-clause-found
returns-clause-found c =
    let q = setting c.args.q.now in
    let second : None ≡ from_first q c.try_first.new.seat (own_middles q c.try_first.new.seat) (BecomeZero ∷ []) = c.in-None-try_move.ensures.found in
    let third : option_map moves_of_three c.try_move-2.result
    ≡ from_first q c.try_move.new.seat (own_middles q c.try_move.new.seat) (BecomeSought ∷ []) = c.try_move-2.ensures.found in
    subst (λ (seat : Seat). option_map moves_of_three c.try_move-2.result ≡ from_first q seat (own_middles q seat) (BecomeSought ∷ []))
    (c.try_move.ensures.same ∙ c.try_first.ensures.same) third
    ∙ sym (moves_third q c.args.seat.now (sym c.in-None.ensures.found)
    (sym (subst (λ (seat : Seat). None ≡ from_first q seat (own_middles q seat) (BecomeZero ∷ [])) c.try_first.ensures.same second)))

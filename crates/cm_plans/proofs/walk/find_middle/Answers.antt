use Rattle.std.proofs.Common.{ℕ, List, sym, ap, ◌∙◌}
use Rattle.cm_plans.proofs.Pairing.{first_part, second_part}
use Rattle.cm_plans.proofs.walk.find_middle.Goals as goal
use Rattle.cm_plans.specs.Choices.{moves_of_two}
use Rattle.cm_plans.specs.Middles.{single_choices}
use Rattle.cm_plans.specs.Moves.{setting}
use Rattle.model_plans.specs.Plan.{Choice, pairs, special_rows}
use Rattle.model_plans.specs.Walk.{middle_found}

pub returns-in-Some-clause-found : goal.returns-in-Some-clause-found
returns-in-Some-clause-found c at lists =
    let q = setting c.args.q.now in
    let singles : List Choice = single_choices q.files q.spaces at in
    sym (first_part q c.args.seat.now singles (pairs (special_rows q.files.rows)) (moves_of_two c.in-Some.found)
    (ap (middle_found q c.args.seat.now) (sym lists.same) ∙ sym c.in-Some.ensures.found))

pub returns-clause-found : goal.returns-clause-found
returns-clause-found c at lists =
    let q = setting c.args.q.now in
    let singles : List Choice = single_choices q.files q.spaces at in
    (rw c.find_single.ensures.same at c.find_pair.ensures.found)
    ∙ ap (λ (rows : List ℕ). middle_found q c.args.seat.now (pairs rows)) c.requires.ready.special
    ∙ sym (second_part q c.args.seat.now singles (pairs (special_rows q.files.rows))
    (ap (middle_found q c.args.seat.now) (sym lists.same) ∙ sym c.in-None.ensures.found))

use Rattle.std.proofs.Common.{ℕ, List, [], ◌∷◌, ◌++◌, refl, ap, ◌∙◌}
use Rattle.cm_plans.proofs.Pieces.{Runs, more_moves, raise_more, pieces}
use Rattle.cm_plans.proofs.runs.run_of.Goals as goal
use Rattle.cm_plans.specs.Choices.{choice_of}
use Rattle.cm_plans.specs.Moves.{setting}
use Rattle.model_plans.specs.Move.{Move, Raise}
use Rattle.model_plans.specs.Walk.{events_of}

pub returns : goal.returns
returns c =
    let q = setting c.args.q.now in
    let pid : ℕ = c.args.pid in
    let start = c.args.seat.now in
    let first = choice_of c.args.c.0 in
    let middle = choice_of c.args.c.1 in
    let last = choice_of c.args.c.2 in
    let m1 : List Move = Raise ∷ [] in
    let m2 : List Move = m1 ++ first in
    let m3 : List Move = m2 ++ middle in
    let m4 : List Move = m3 ++ (Raise ∷ []) in
    let m5 : List Move = m4 ++ last in
    let at0 : Runs q pid start [] c.new-run.result.items start = record { made = c.new-run.ensures.items; stands = refl } in
    let at1 : Runs q pid start m1 c.put.new.run.items c.put.new.seat
    = raise_more q pid start start c.put.new.seat [] c.new-run.result.items c.put.new.run.items at0 c.in_ok-put.ensures.run c.in_ok-put.ensures.seat in
    let at2 : Runs q pid start m2 c.put_choice.new.run.items c.put_choice.new.seat
    = more_moves q pid start c.put.new.seat c.put_choice.new.seat m1 first c.put.new.run.items c.put_choice.new.run.items at1
    c.in_ok-put_choice.ensures.run c.in_ok-put_choice.ensures.seat in
    let at3 : Runs q pid start m3 c.put_choice-2.new.run.items c.put_choice-2.new.seat
    = more_moves q pid start c.put_choice.new.seat c.put_choice-2.new.seat m2 middle c.put_choice.new.run.items c.put_choice-2.new.run.items at2
    c.in_ok-put_choice-2.ensures.run c.in_ok-put_choice-2.ensures.seat in
    let at4 : Runs q pid start m4 c.put-2.new.run.items c.put-2.new.seat
    = raise_more q pid start c.put_choice-2.new.seat c.put-2.new.seat m3 c.put_choice-2.new.run.items c.put-2.new.run.items at3
    c.in_ok-put-2.ensures.run c.in_ok-put-2.ensures.seat in
    let at5 : Runs q pid start m5 c.put_choice-3.new.run.items c.put_choice-3.new.seat
    = more_moves q pid start c.put-2.new.seat c.put_choice-3.new.seat m4 last c.put-2.new.run.items c.put_choice-3.new.run.items at4
    c.in_ok-put_choice-3.ensures.run c.in_ok-put_choice-3.ensures.seat in
    let at6 : Runs q pid start (m5 ++ (Raise ∷ [])) c.put-3.new.run.items c.put-3.new.seat
    = raise_more q pid start c.put_choice-3.new.seat c.put-3.new.seat m5 c.put_choice-3.new.run.items c.put-3.new.run.items at5
    c.in_ok-put-3.ensures.run c.in_ok-put-3.ensures.seat in
    at6.made ∙ ap (events_of q pid start) (pieces c.args.c)

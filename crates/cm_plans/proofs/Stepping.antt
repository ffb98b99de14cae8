-- A step along all plans, by a step along those of the member whose turn it is.
use Rattle.std.proofs.Common.{◌≡◌, ℕ, ◌+◌, ◌≤◌, true, List, [], ◌∷◌, ◌++◌, drop, length, None, Some, refl, sym, ap, ◌∙◌}
use Rattle.std.proofs.lemmas.Bool.{cond-true}
use Rattle.std.proofs.lemmas.List.{drop_all}
use Rattle.cm_declared.specs.World.{world_of}
use Rattle.cm_plans.specs.Cursors.{all_left, moves_left, plans_of}
use Rattle.cm_plans.specs.PlansLeft.{later, run_next}
use Rattle.cm_plans.specs.Turns.{AreAllOf, Steps, left_in}
use Rattle.cm_plans.specs.declared.cursor.Cursor.{Cursor}
use Rattle.cm_plans.specs.declared.query.Query.{Query}
use Rattle.cm_plans.specs.declared.turn.Turn.{Turn}
use Rattle.cm_state.specs.Right.{right_of}
use Rattle.model_cred.specs.Call.{Event}
use Rattle.model_cred.specs.Process.{State}
use Rattle.model_cred.specs.Right.{Right}
use Rattle.model_cred.specs.World.{World}
use Rattle.model_plans.specs.Plan.{Plan}

-- ---- lists of plans
-- the run of the first plan, with others after the list
next_with : (w : World) (s : State) (right : Right) (mine others : List Plan) (run : List Event) → Some run ≡ run_next w s right mine
    → Some run ≡ run_next w s right (mine ++ others)
next_with w s right [] others run is = absurd (cc)
next_with w s right (plan ∷ mine) others run is = is

rest_with : (w : World) (s : State) (right : Right) (mine others : List Plan) (run : List Event) → Some run ≡ run_next w s right mine
    → later mine ++ others ≡ later (mine ++ others)
rest_with w s right [] others run is = absurd (cc)
rest_with w s right (plan ∷ mine) others run is = refl

none_left : (w : World) (s : State) (right : Right) (mine : List Plan) → None ≡ run_next w s right mine → mine ≡ []
none_left w s right [] is = refl
none_left w s right (plan ∷ mine) is = absurd (cc)

-- ---- all plans
module _ (q : Query) (s : State) (members : List ℕ) (begin at : Cursor) (begun : at.begun ≡ true) where
  abbrev right : Right
  right = right_of q.right.now

  abbrev mine : List Plan
  mine = left_in right at.turn

  abbrev others : List Plan
  others = plans_of q s (drop at.next members)

  -- those of the member whose turn it is, and those of the others
  in_two : all_left q s members at ≡ all_left q s members begin → all_left q s members begin ≡ mine ++ others
  in_two left = sym left ∙ cond-true at.begun (moves_left q s members at) (record { pid = 0; moves = [] } ∷ moves_left q s members at) begun

  -- those after a step, with that turn
  with_turn : (t : Turn) → all_left q s members (record at { turn = t }) ≡ left_in right t ++ others
  with_turn t =
      let after : Cursor = record at { turn = t } in
      cond-true at.begun (moves_left q s members after) (record { pid = 0; moves = [] } ∷ moves_left q s members after) begun

  -- the member has a plan left
  pub step_given : (t : Turn) (run : List Event) → all_left q s members at ≡ all_left q s members begin
      → Steps q s mine (Some run) (left_in right t) → Steps q s (all_left q s members begin) (Some run) (all_left q s members (record at { turn = t }))
  step_given t run left steps =
      let two : all_left q s members begin ≡ mine ++ others = in_two left in
      record {
        given = next_with (world_of q.world.now) s right mine others run steps.given
            ∙ ap (run_next (world_of q.world.now) s right) (sym two);
        rest = with_turn t ∙ ap (λ (plans : List Plan). plans ++ others) steps.rest
            ∙ rest_with (world_of q.world.now) s right mine others run steps.given ∙ ap later (sym two);
      }

  -- it has none: nothing of it is left before nor after
  nothing_before : (t : Turn) → Steps q s mine None (left_in right t) → mine ≡ []
  nothing_before t steps = none_left (world_of q.world.now) s right mine steps.given

  nothing_after : (t : Turn) → Steps q s mine None (left_in right t) → left_in right t ≡ []
  nothing_after t steps = steps.rest ∙ ap later (nothing_before t steps)

  -- it has none, and no member is left
  pub step_end : (t : Turn) → length members ≤ at.next → all_left q s members at ≡ all_left q s members begin
      → Steps q s mine None (left_in right t) → Steps q s (all_left q s members begin) None (all_left q s members (record at { turn = t }))
  step_end t past left steps =
      let none : others ≡ [] = ap (plans_of q s) (drop_all at.next members past) in
      let all : all_left q s members begin ≡ []
      = in_two left ∙ ap (λ (plans : List Plan). plans ++ others) (nothing_before t steps) ∙ none in
      record {
        given = sym (ap (run_next (world_of q.world.now) s right) all);
        rest = with_turn t ∙ ap (λ (plans : List Plan). plans ++ others) (nothing_after t steps) ∙ none ∙ sym (ap later all);
      }

  -- it has none, and the next member's turn comes: that leaves all as it was
  pub step_over : (t turn : Turn) (pid : ℕ) → drop at.next members ≡ pid ∷ drop (at.next + 1) members
      → all_left q s members at ≡ all_left q s members begin → Steps q s mine None (left_in right t) → AreAllOf q s pid (left_in right turn)
      → all_left q s members (record { begun = at.begun; next = at.next + 1; turn = turn }) ≡ all_left q s members begin
  step_over t turn pid next left steps all =
      let after : Cursor = record { begun = at.begun; next = at.next + 1; turn = turn } in
      cond-true at.begun (moves_left q s members after) (record { pid = 0; moves = [] } ∷ moves_left q s members after) begun
      ∙ ap (λ (plans : List Plan). plans ++ plans_of q s (drop (at.next + 1) members)) all
      ∙ ap (plans_of q s) (sym next)
      ∙ ap (λ (plans : List Plan). plans ++ others) (sym (nothing_before t steps))
      ∙ sym (in_two left)

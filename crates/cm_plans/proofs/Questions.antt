-- The question for one member and for another.
use Rattle.std.proofs.Common.{◌≡◌, ℕ, List, Option, sym, ap, subst, ◌∙◌}
use Rattle.cm_declared.specs.World.{world_of}
use Rattle.cm_plans.specs.Cursors.{all_left}
use Rattle.cm_plans.specs.PlansLeft.{PlansLeft, later, run_next}
use Rattle.cm_plans.specs.Ready.{IsReady, IsSameQuestion}
use Rattle.cm_plans.specs.Turns.{AreAllOf, Steps, TurnStands}
use Rattle.cm_plans.specs.declared.cursor.Cursor.{Cursor}
use Rattle.cm_plans.specs.declared.query.Query.{Query}
use Rattle.cm_plans.specs.declared.turn.Turn.{Turn}
use Rattle.cm_state.specs.Right.{right_of}
use Rattle.model_cred.specs.Call.{Event}
use Rattle.model_cred.specs.Process.{State}
use Rattle.model_cred.specs.Right.{Right}
use Rattle.model_cred.specs.Space.{Spaces}
use Rattle.model_plans.specs.Plan.{Plan}

pub same_then : (a b c : Query) → IsSameQuestion a b → IsSameQuestion b c → IsSameQuestion a c
same_then a b c first second = second ∙ ap (λ (q : Query). record q { may = c.may }) first

module _ (a b : Query) (same : IsSameQuestion a b) where
  -- it is as ready
  pub still_ready : IsReady a → IsReady b
  still_ready ready =
      subst IsReady (sym same) (record { tree = ready.tree; keeps = ready.keeps; ways = ready.ways; special = ready.special })

  -- beside the same spaces
  pub still_beside : (spaces : Spaces) → a.spaces.now ≡ spaces → b.spaces.now ≡ spaces
  still_beside spaces is = ap (λ (q : Query). q.spaces.now) same ∙ is

  -- a turn names the same spaces that stand
  pub still_stands : (t : Turn) → TurnStands a.spaces.now t → TurnStands b.spaces.now t
  still_stands t stands = subst (λ (spaces : Spaces). TurnStands spaces t) (sym (ap (λ (q : Query). q.spaces.now) same)) stands

  pub stood_before : (t : Turn) → TurnStands b.spaces.now t → TurnStands a.spaces.now t
  stood_before t stands = subst (λ (spaces : Spaces). TurnStands spaces t) (ap (λ (q : Query). q.spaces.now) same) stands

  -- a member has the same plans
  pub all_before : (s : State) (pid : ℕ) (plans : Right → List Plan) → AreAllOf b s pid (plans (right_of b.right.now))
      → AreAllOf a s pid (plans (right_of a.right.now))
  all_before s pid plans all = subst (λ (q : Query). AreAllOf q s pid (plans (right_of q.right.now))) same all

  -- a step along plans of the one is one along those of the other
  abbrev given_by : State → (Right → List Plan) → Option (List Event) → Query → Type 0
  given_by s plans run q = run ≡ run_next (world_of q.world.now) s (right_of q.right.now) (plans (right_of q.right.now))

  abbrev rest_by : (Right → List Plan) → (Right → List Plan) → Query → Type 0
  rest_by plans left q = left (right_of q.right.now) ≡ later (plans (right_of q.right.now))

  pub steps_before : (s : State) (plans : Right → List Plan) (run : Option (List Event)) (left : Right → List Plan)
      → Steps b s (plans (right_of b.right.now)) run (left (right_of b.right.now))
      → Steps a s (plans (right_of a.right.now)) run (left (right_of a.right.now))
  steps_before s plans run left steps = record {
    given = subst (given_by s plans run) same steps.given;
    rest = subst (rest_by plans left) same steps.rest;
  }

  -- the plans that are left are the same
  abbrev left_for : State → List ℕ → Cursor → Query → PlansLeft
  left_for s members at q =
      record { world = world_of q.world.now; state = s; right = right_of q.right.now; left = all_left q s members at }

  pub left_before : (s : State) (members : List ℕ) (at : Cursor) → left_for s members at b ≡ left_for s members at a
  left_before s members at = ap (left_for s members at) same

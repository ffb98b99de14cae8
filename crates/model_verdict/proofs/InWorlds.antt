-- What verdicts in a world say.
use Rattle.std.proofs.Common.{◌≡◌, ℕ, suc, List, [], ◌∷◌, ◌++◌, sym, subst, All, inl, inr, arith}
use Rattle.std.proofs.lemmas.List.Elements.{All-head, All-tail}
use Rattle.cm_filter.specs.Filters.{permits}
use Rattle.model_cred.specs.Call.{Event}
use Rattle.model_cred.specs.Process.{State}
use Rattle.model_cred.specs.Right.{Right}
use Rattle.model_cred.specs.World.{World}
use Rattle.model_run.specs.Later.{LaterRun}
use Rattle.model_run.specs.Own.{common_filter}
use Rattle.model_box.specs.Laws.{tested}
use Rattle.model_box.specs.Meets.{Meets}
use Rattle.model_box.specs.Row.{Part, Row, IsWithin}
use Rattle.model_box.specs.Start.{StartHas}
use Rattle.model_box.proofs.Monotone.{adds_more, meets_at_more, meets_more}
use Rattle.model_plans.proofs.Finds.{found_is_first}
use Rattle.model_plans.proofs.Holders.{holder_is_least}
use Rattle.model_plans.proofs.Laters.{runs_are_later}
use Rattle.model_plans.specs.Changes.{IsLater, RunsAreLater}
use Rattle.model_plans.specs.Firsts.{IsFirst, FoundIsFirst, HolderIsLeast}
use Rattle.model_plans.specs.Plan.{Plan}
use Rattle.model_plans.specs.PlanRun.{Found, plan_run}
use Rattle.model_verdict.proofs.Blames.{blame_is_within}
use Rattle.model_verdict.specs.Blame.{Blame, AtStart, ByTurn, BlameIsWithin}
use Rattle.model_verdict.specs.InWorld.{end_in, NoIsFirstRun, BringsRight, BlameIsBelow}
use Rattle.model_verdict.specs.Least.{Test}
use Rattle.model_verdict.specs.Sweep.{Turn, swept, turn_at, widened}
use Rattle.model_verdict.specs.Verdict.{BlameIn}

-- ---- a no
-- what holds of all holds of the one in the middle
all_middle : (P : Plan → Type 0) (before : List Plan) (plan : Plan) (after : List Plan) → All P (before ++ plan ∷ after) → P plan
all_middle P [] plan after all = All-head P plan after all
all_middle P (x ∷ before) plan after all = all_middle P before plan after (All-tail P x (before ++ plan ∷ after) all)

module _ (w : World) (s : State) (members : List ℕ) (right : Right) (found : Found) (first : IsFirst (permits w.filter) w s members right found) where
  abbrev later_of : Plan → Type 0
  later_of plan = IsLater (permits w.filter) w s members plan.pid (plan_run (permits w.filter) w s right plan)

  run_of_plan : later_of first.plan
  unfolding RunsAreLater
  run_of_plan =
      all_middle later_of first.before first.plan first.after
      (subst (λ (list : List Plan). All later_of list) first.listed (runs_are_later (permits w.filter) w s members right))

  run_later : LaterRun w s members found.run (end_in w s right first.plan) members
  run_later = subst (λ (es : List Event). LaterRun w s members es (end_in w s right first.plan) members) (sym first.run) run_of_plan.later

  run_callers : All (λ e. e.pid ≡ first.plan.pid) found.run
  run_callers = subst (λ (es : List Event). All (λ e. e.pid ≡ first.plan.pid) es) (sym first.run) run_of_plan.callers

pub no_is_first_run : NoIsFirstRun
unfolding NoIsFirstRun FoundIsFirst HolderIsLeast
no_is_first_run w s members right found ascend there =
    let first : IsFirst (permits w.filter) w s members right found = (found_is_first (permits w.filter) w s members right found).0 there in
    record {
      first = first;
      later = run_later w s members right found first;
      callers = run_callers w s members right found first;
      least = (holder_is_least (end_in w s right first.plan) members right found.holder ascend).0 first.holds;
    }

-- ---- an undecided
module _ (w : World) (s : State) (members : List ℕ) (right : Right) where
  brings : (blame : Blame) (below : Test) → BlameIn w s members right blame below → BringsRight w s members right blame below
  brings (AtStart row) below (first, says) = (
    says,
    record {
      standing = first.standing;
      meets = meets_at_more s.spaces (StartHas s members) (tested below) (λ r part x held. (says r part x).1 held) right row first.meets;
      first = λ earlier less met. first.first earlier less
          (meets_at_more s.spaces (tested below) (StartHas s members) (λ r part x held. (says r part x).0 held) right earlier met);
    },
  )
  brings (ByTurn turn) below (k, is, first, says) =
      let lower : Row → Part → ℕ → Type 0 = swept (permits (common_filter w s members)) w.files s members k in
      let down : IsWithin (tested below) lower = λ r part x held. (says r part x).0 held in
      let up : IsWithin lower (tested below) = λ r part x held. (says r part x).1 held in (
        λ met. first.before k (omega arith) (meets_more s.spaces (tested below) lower down right met),
        subst (λ (t : Turn). Meets s.spaces (widened (permits (common_filter w s members)) w.files s.spaces (tested below) t) right) (sym is)
            (meets_more s.spaces (swept (permits (common_filter w s members)) w.files s members (suc k))
            (widened (permits (common_filter w s members)) w.files s.spaces (tested below) (turn_at s.spaces k)) (wider k below up) right first.meets),
      )
    where
      wider : (k : ℕ) (below : Test) → IsWithin (swept (permits (common_filter w s members)) w.files s members k) (tested below)
          → IsWithin (swept (permits (common_filter w s members)) w.files s members (suc k))
          (widened (permits (common_filter w s members)) w.files s.spaces (tested below) (turn_at s.spaces k))
      wider k below up r part x (inl held) = inl (up r part x held)
      wider k below up r part x (inr (same, added)) =
          inr (
            same,
            adds_more (permits (common_filter w s members)) w.files s.spaces (swept (permits (common_filter w s members)) w.files s members k) (tested below) up
                (turn_at s.spaces k).rule (turn_at s.spaces k).row part x added,
          )

pub blame_is_below : BlameIsBelow
unfolding BlameIsBelow BlameIsWithin
blame_is_below w s members right blame below fits is = record {
  within = λ other encloses. blame_is_within (permits (common_filter w s members)) w.files s members right blame below other fits is encloses;
  brings = brings w s members right blame below is;
}

-- A family with more members.
use Rattle.std.proofs.Common.{◌≡◌, ℕ, suc, true, List, [], None, Some, sym, ◌∙◌, inl, inr, arith}
use Rattle.std.specs.Prelude.{All}
use Rattle.std.specs.List.{flat_map}
use Rattle.std.proofs.lemmas.List.Elements.{All-cons, All-weaker}
use Rattle.cm_filter.specs.Filters.{permits}
use Rattle.model_cred.specs.Process.{State, process_at}
use Rattle.model_cred.specs.Right.{Right}
use Rattle.model_cred.specs.World.{World}
use Rattle.model_run.specs.Later.{is_member}
use Rattle.model_box.specs.Laws.{tested}
use Rattle.model_box.specs.Row.{Standing, Fresh, IsWithin}
use Rattle.model_box.specs.Start.{StartHas}
use Rattle.model_box.proofs.Starts.{covers_start, holds_start}
use Rattle.model_box.proofs.Stated.{closed_for_fewer}
use Rattle.model_plans.specs.Firsts.{NoneHolds, NothingFound}
use Rattle.model_plans.specs.Plan.{Plan, plans, plans_for}
use Rattle.model_plans.specs.PlanRun.{plan_run, first_found}
use Rattle.model_plans.proofs.Finds.{nothing_found}
use Rattle.model_plans.proofs.Holders.{all_member, all_members}
use Rattle.model_plans.proofs.Lists.{all_flat_map}
use Rattle.model_verdict.specs.More.{AreAmong, MoreFind, MoreNeedMore}
use Rattle.model_verdict.proofs.SettledPlans.{all_parts, is_found}

-- ---- plans
module _ (w : World) (s : State) (members more : List ℕ) (right : Right) (among : AreAmong members more) where
  abbrev own : ℕ → List Plan
  own pid = plans_for w.files s.spaces right pid (process_at s.processes pid)

  -- what holds of each plan of more members holds of each of these
  fewer_plans : (P : Plan → Type 0) → All P (plans w s more right) → All P (plans w s members right)
  fewer_plans P all =
      let rest : All P (flat_map own more) = λ k d low. all (suc k) d (omega (arith, low)) in
      All-cons P _ (flat_map own members) (all 0 (record { pid = 0; moves = [] }) (omega arith))
      (all_flat_map P own members
      (All-weaker (λ pid. is_member members pid ≡ true) (λ pid. All P (own pid))
      (λ pid member. all_member (λ n. All P (own n)) more pid (all_parts P own more rest) (among pid member)) members (all_members members)))

  -- where nothing is found with more members, nothing is with these
  nothing_less : first_found (permits w.filter) w s more right ≡ None → first_found (permits w.filter) w s members right ≡ None
  unfolding NothingFound
  nothing_less nothing =
      (nothing_found (permits w.filter) w s members right).1
      (fewer_plans (λ plan. NoneHolds (plan_run (permits w.filter) w s right plan).state members right)
      (All-weaker (λ plan. NoneHolds (plan_run (permits w.filter) w s right plan).state more right)
      (λ plan. NoneHolds (plan_run (permits w.filter) w s right plan).state members right)
      (λ plan none pid member. none pid (among pid member)) (plans w s more right)
      ((nothing_found (permits w.filter) w s more right).0 nothing)))

pub more_find : MoreFind
unfolding MoreFind
more_find w s members more right among (found, is) =
    is_found (permits w.filter) w s more right
    (λ nothing.
    let none : first_found (permits w.filter) w s members right ≡ None = nothing_less w s members more right among nothing in
    let no : Some found ≡ None = sym is ∙ none in
    absurd (cc))

-- ---- bounds
more_start : (s : State) (members more : List ℕ) → AreAmong members more → IsWithin (StartHas s members) (StartHas s more)
more_start s members more among (Standing n) part x (inl (pid, p, member, at, space, has)) = inl (pid, p, among pid member, at, space, has)
more_start s members more among (Standing n) part x (inr maps) = inr maps
more_start s members more among (Fresh n) part x wrong = wrong

pub more_need_more : MoreNeedMore
unfolding MoreNeedMore
more_need_more permitted wider files s members more bounds larger fits calls among is is_larger =
    is.within larger (record {
      closed = closed_for_fewer permitted wider calls files s.spaces larger is_larger.encloses.closed;
      covers = covers_start s members (tested larger) fits (λ row standing part x has.
          holds_start s more (tested larger) is_larger.encloses.covers row standing part x (more_start s members more among row part x has));
    })

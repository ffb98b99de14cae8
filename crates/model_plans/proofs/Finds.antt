-- What is found: by which plan, and that it is a later run after which its holder has the right.
use Rattle.std.proofs.Common.{Bool, ◌≡◌, ℕ, List, Option, None, Some, option_map, sym, ap, ◌∙◌, subst}
use Rattle.std.specs.Prelude.{All}
use Rattle.std.proofs.lemmas.List.Elements.{All-weaker}
use Rattle.cm_filter.specs.declared.kind.CallKind.{CallKind}
use Rattle.model_cred.specs.Call.{Event}
use Rattle.model_cred.specs.Process.{State}
use Rattle.model_cred.specs.Right.{Right}
use Rattle.model_cred.specs.World.{World}
use Rattle.model_plans.specs.Plan.{Plan, plans}
use Rattle.model_plans.specs.PlanRun.{PlanRun, plan_run, holder, Found, found_by, first_found}
use Rattle.model_plans.specs.Changes.{MovesLeaveOthers, IsLater}
use Rattle.model_plans.specs.Firsts.{NoHolder, NoneHolds, NoneHoldsAfter, NothingFound, IsFirst, FoundIsFirst, EndsHolding, FoundIsLater}
use Rattle.model_plans.proofs.Lists.{all_none, none_of, all_at, unmap_none, unmap_some, FirstAt, first_at, at_first}
use Rattle.model_plans.proofs.Others.{moves_leave_others}
use Rattle.model_plans.proofs.Holders.{no_holder, holder_holds}
use Rattle.model_plans.proofs.Laters.{runs_later}

-- ---- what a run finds
module _ (permitted : CallKind → Bool) (w : World) (s : State) (members : List ℕ) (right : Right) where
  abbrev made_by : Plan → PlanRun
  made_by plan = plan_run permitted w s right plan

  abbrev tried : Plan → Option Found
  tried plan = found_by members right (made_by plan)

  none_holds : (plan : Plan) → tried plan ≡ None → NoneHolds (made_by plan).state members right
  unfolding NoHolder
  none_holds plan is =
      (no_holder (made_by plan).state members right).0
      (unmap_none (λ pid. record { run = (made_by plan).events; holder = pid }) (holder (made_by plan).state members right) is)

  holds_none : (plan : Plan) → NoneHolds (made_by plan).state members right → tried plan ≡ None
  unfolding NoHolder
  holds_none plan none =
      ap (option_map (λ pid. record { run = (made_by plan).events; holder = pid })) ((no_holder (made_by plan).state members right).1 none)

  none_after : (ps : List Plan) → All (λ plan. tried plan ≡ None) ps → NoneHoldsAfter permitted w s members right ps
  none_after ps all =
      All-weaker (λ plan. tried plan ≡ None) (λ plan. NoneHolds (made_by plan).state members right) none_holds ps all

  after_none : (ps : List Plan) → NoneHoldsAfter permitted w s members right ps → All (λ plan. tried plan ≡ None) ps
  after_none ps all =
      All-weaker (λ plan. NoneHolds (made_by plan).state members right) (λ plan. tried plan ≡ None) holds_none ps all

  -- ---- what the list finds
  is_first : (found : Found) → first_found permitted w s members right ≡ Some found → IsFirst permitted w s members right found
  unfolding first_found
  is_first found is =
      let at : FirstAt Plan Found tried (plans w s members right) found = first_at tried (plans w s members right) found is in
      let (pid, holds, same)
      = unmap_some (λ pid. record { run = (made_by at.item).events; holder = pid }) (holder (made_by at.item).state members right) found at.answer in
      record {
        before = at.before;
        plan = at.item;
        after = at.after;
        listed = at.listed;
        earlier = none_after at.before at.earlier;
        run = sym (ap (λ (f : Found). f.run) same);
        holds = holds ∙ ap (λ (f : Found). Some f.holder) same;
      }

  first_is : (found : Found) → IsFirst permitted w s members right found → first_found permitted w s members right ≡ Some found
  unfolding first_found
  first_is found is =
      at_first tried (plans w s members right) found (record {
        before = is.before;
        item = is.plan;
        after = is.after;
        listed = is.listed;
        earlier = after_none is.before is.earlier;
        answer = ap (option_map (λ pid. record { run = (made_by is.plan).events; holder = pid })) is.holds
            ∙ ap (λ (es : List Event). Some (record { run = es; holder = found.holder })) (sym is.run);
      })

  ends_holding : (found : Found) → IsFirst permitted w s members right found → EndsHolding permitted w s members right found
  unfolding MovesLeaveOthers
  ends_holding found is =
      let later_of : Plan → Type 0 = λ plan. IsLater permitted w s members plan.pid (made_by plan) in
      let later : later_of is.plan
      = all_at later_of is.before is.after is.plan (subst (All later_of) is.listed (runs_later permitted w s members right)) in
      let holds = holder_holds (made_by is.plan).state members right found.holder is.holds in
      record {
        mover = is.plan.pid;
        state = (made_by is.plan).state;
        later = subst (λ (es : List Event). IsLater permitted w s members is.plan.pid (record { events = es; state = (made_by is.plan).state })) (sym is.run)
            later;
        leaves = moves_leave_others permitted w s right is.plan.pid is.plan.moves;
        member = holds.0;
        holds = holds.1;
      }

pub nothing_found : NothingFound
unfolding NothingFound first_found
nothing_found permitted w s members right = (
  λ none. none_after permitted w s members right (plans w s members right)
      (all_none (tried permitted w s members right) (plans w s members right) none),
  λ none. none_of (tried permitted w s members right) (plans w s members right)
      (after_none permitted w s members right (plans w s members right) none),
)

pub found_is_first : FoundIsFirst
unfolding FoundIsFirst
found_is_first permitted w s members right found = (is_first permitted w s members right found, first_is permitted w s members right found)

pub found_is_later : FoundIsLater
unfolding FoundIsLater
found_is_later permitted w s members right found is = ends_holding permitted w s members right found (is_first permitted w s members right found is)

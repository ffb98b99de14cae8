-- What a run comes to rests on who is a member, and not on the order of the list.
use Rattle.std.proofs.Common.{◌≡◌, ℕ, ◌==◌, ◌||◌, ◌&&◌, Bool, true, false, List, [], ◌∷◌, filter, Option, None, Some}
use Rattle.std.proofs.Common.{if◌then◌else◌, refl, sym, ◌∙◌, ap, inl, inr}
use Rattle.std.proofs.lemmas.Bool.{cases_Bool, cond-true, cond-false, eqb-true, and_right}
use Rattle.cm_base.specs.declared.res.Res.{Res}
use Rattle.cm_base.specs.declared.res.Res.TheVariants.{Done, Id, Child, Err}
use Rattle.cm_confirm.proofs.Ascending.{other_than}
use Rattle.cm_confirm.specs.Members.{SameMembers}
use Rattle.cm_filter.specs.Filters.{permits}
use Rattle.model_confirm.proofs.LeastHolders.{Least, least_is, least_only}
use Rattle.model_confirm.specs.Confirm.{Confirmed, RefusesLine, by_holder, by_ending, by_outcome, unless_past, events_confirm, is_for_members, least_holder}
use Rattle.model_cred.specs.Call.{Call, Exit, kind_of}
use Rattle.model_cred.specs.Process.{State}
use Rattle.model_cred.specs.Right.{Right}
use Rattle.model_cred.specs.World.{World}
use Rattle.model_plans.proofs.Holders.{no_holder, holder_is_least}
use Rattle.model_plans.specs.Firsts.{PidsAscend, NoHolder, HolderIsLeast}
use Rattle.model_plans.specs.PlanRun.{holder}
use Rattle.model_run.specs.Later.{is_member, members_with, members_without, members_after}
use Rattle.model_run.specs.Own.{may_call}
use Rattle.model_run.specs.Step.{Outcome, Goes, NoProcess, NoSpace, PidInUse, Wrong, outcome}
use Rattle.model_run.specs.Within.{exceeded}
use Rattle.model_text.specs.Reading.{Placed, End, AtEnd, Stops}

-- ---- after an event
-- who is left of members of whom one goes
pub left_members : (pids : List ℕ) (pid other : ℕ) → is_member (filter (other_than pid) pids) other ≡ (other_than pid other && is_member pids other)
left_members [] pid other = sym (and_right (other_than pid other) false refl)
left_members (p ∷ pids) pid other =
    elim (cases_Bool (other_than pid p)) [
      | inl stays ↦
          ap (λ (ps : List ℕ). is_member ps other)
          (cond-true (other_than pid p) (p ∷ filter (other_than pid) pids) (filter (other_than pid) pids) stays)
          ∙ ap (λ (b : Bool). (p == other) || b) (left_members pids pid other)
          ∙ stays_there (p == other) (other_than pid other) (is_member pids other)
          (λ same. sym (ap (other_than pid) (eqb-true p other same)) ∙ stays)
      | inr goes ↦
          ap (λ (ps : List ℕ). is_member ps other)
          (cond-false (other_than pid p) (p ∷ filter (other_than pid) pids) (filter (other_than pid) pids) goes)
          ∙ left_members pids pid other
          ∙ goes_there (p == other) (other_than pid other) (is_member pids other)
          (λ same. sym (ap (other_than pid) (eqb-true p other same)) ∙ goes)
    ]
  where
    stays_there : (first test others : Bool) → (first ≡ true → test ≡ true) → (first || (test && others)) ≡ (test && (first || others))
    stays_there true test others is = sym (ap (λ (b : Bool). b && true) (is refl))
    stays_there false test others is = refl

    goes_there : (first test others : Bool) → (first ≡ true → test ≡ false) → (test && others) ≡ (test && (first || others))
    goes_there true test others is = ap (λ (b : Bool). b && others) (is refl) ∙ sym (ap (λ (b : Bool). b && true) (is refl))
    goes_there false test others is = refl

with_same : (one other : List ℕ) (res : Res) → SameMembers one other → SameMembers (members_with one res) (members_with other res)
with_same one other (Child pid) same q = ap (λ (b : Bool). (pid == q) || b) (same q)
with_same one other _ same q = same q

without_same : (one other : List ℕ) (pid : ℕ) (res : Res) → SameMembers one other → SameMembers (members_without one pid res) (members_without other pid res)
without_same one other pid Done same q =
    left_members one pid q ∙ ap (λ (b : Bool). other_than pid q && b) (same q) ∙ sym (left_members other pid q)
without_same one other pid _ same q = same q

pub after_same : (one other : List ℕ) (pid : ℕ) (call : Call) (res : Res) → SameMembers one other
    → SameMembers (members_after one pid call res) (members_after other pid call res)
after_same one other pid Exit res same = without_same one other pid res same
after_same one other pid _ res same = with_same one other res same

-- ---- the least holder
least_moves : (s : State) (one other : List ℕ) (right : Right) (found : Option ℕ) → SameMembers one other → Least s one right found → Least s other right found
least_moves s one other right None same none = λ pid is. none pid (same pid ∙ is)
least_moves s one other right (Some pid) same is = record {
  member = sym (same pid) ∙ is.member;
  holds = is.holds;
  least = λ q it has. is.least q (same q ∙ it) has;
}

pub least_same : (s : State) (one other : List ℕ) (right : Right) → SameMembers one other → least_holder s one right ≡ least_holder s other right
least_same s one other right same =
    sym (least_only s other right (least_holder s one right)
    (least_moves s one other right (least_holder s one right) same (least_is s one right)))

-- where they ascend, the first that holds the right is the least
first_least : (s : State) (pids : List ℕ) (right : Right) (found : Option ℕ) → PidsAscend pids → holder s pids right ≡ found → Least s pids right found
unfolding NoHolder HolderIsLeast
first_least s pids right None up is = (no_holder s pids right).0 is
first_least s pids right (Some pid) up is = (holder_is_least s pids right pid up).0 is

pub holder_same : (s : State) (pids : List ℕ) (right : Right) → PidsAscend pids → least_holder s pids right ≡ holder s pids right
holder_same s pids right up = least_only s pids right (holder s pids right) (first_least s pids right (holder s pids right) up refl)

-- ---- the run
for_same : (w : World) (s : State) (one other : List ℕ) (e : Placed) → SameMembers one other
    → is_for_members w s one e.event ≡ is_for_members w s other e.event
for_same w s one other e same = ap (λ (b : Bool). b && may_call (permits w.filter) s e.event.pid (kind_of e.event.call)) (same e.event.pid)

outcome_same : (w : World) (s : State) (one other : List ℕ) (e : Placed) (next then_ : State → Confirmed) (become : Outcome) → SameMembers one other
    → ((s' : State) → next s' ≡ then_ s') → by_outcome w s one e next become ≡ by_outcome w s other e then_ become
outcome_same w s one other e next then_ (Goes s') same on =
    ap (λ (b : Bool). unless_past (exceeded s') (if b then next s' else RefusesLine e.line)) (for_same w s one other e same)
    ∙ ap (λ (c : Confirmed). unless_past (exceeded s') (if is_for_members w s other e.event then c else RefusesLine e.line)) (on s')
outcome_same w s one other e next then_ NoProcess same on = refl
outcome_same w s one other e next then_ NoSpace same on = refl
outcome_same w s one other e next then_ PidInUse same on = refl
outcome_same w s one other e next then_ (Wrong res) same on = refl

ending_same : (s : State) (one other : List ℕ) (right : Right) (ending : End) → SameMembers one other
    → by_ending s one right ending ≡ by_ending s other right ending
ending_same s one other right AtEnd same = ap by_holder (least_same s one other right same)
ending_same s one other right (Stops stop) same = refl

pub run_same : (w : World) (right : Right) (events : List Placed) (ending : End) (s : State) (one other : List ℕ) → SameMembers one other
    → events_confirm w s one right events ending ≡ events_confirm w s other right events ending
run_same w right [] ending s one other same = ending_same s one other right ending same
run_same w right (e ∷ events) ending s one other same =
    let after : List ℕ → List ℕ = λ ms. members_after ms e.event.pid e.event.call e.event.res in
    outcome_same w s one other e (λ s'. events_confirm w s' (after one) right events ending) (λ s'. events_confirm w s' (after other) right events ending)
    (outcome w s e.event) same
    (λ s'. run_same w right events ending s' (after one) (after other) (after_same one other e.event.pid e.event.call e.event.res same))

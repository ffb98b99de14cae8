-- Plans of one move between raises: what they do for a member without capabilities, and that they are in the list.
use Rattle.std.proofs.Common.{◌≡◌, ℕ, ◌==◌, Bool, true, false, List, [], ◌∷◌, ◌++◌, map, Option, None, Some}
use Rattle.std.proofs.Common.{if◌then◌else◌, refl, sym, ap, ◌∙◌, subst, arith}
use Rattle.std.specs.Prelude.{find, All}
use Rattle.std.specs.List.{flat_map}
use Rattle.std.proofs.lemmas.Bool.{cond-true, eq-eqb, false≢true}
use Rattle.std.proofs.lemmas.List.Elements.{All-head, All-tail, All-cons, All-nil}
use Rattle.cm_base.specs.CapSet.{none}
use Rattle.cm_base.specs.declared.errno.Errno.TheVariants.{EPERM}
use Rattle.cm_filter.specs.declared.kind.CallKind.{CallKind}
use Rattle.cm_filter.specs.declared.kind.CallKind.TheVariants as kind
use Rattle.model_cred.specs.Call.{Call, CapSet, kind_of}
use Rattle.model_cred.specs.Process.{Process, State, process_at}
use Rattle.model_cred.specs.Right.{Right, Cap, Uid, Gid}
use Rattle.model_cred.specs.World.{World}
use Rattle.model_rules.specs.Answer.{done, refused}
use Rattle.model_rules.specs.CapCalls.{may_capset, with_capset}
use Rattle.model_run.specs.Holds.{process_holds}
use Rattle.model_run.specs.Later.{is_member}
use Rattle.model_plans.specs.Changes.{FirstMovesStay}
use Rattle.model_plans.specs.Firsts.{NoneHolds, NoneHoldsAfter, NoHolder, NothingFound, MoverDecides}
use Rattle.model_plans.specs.Move.{Seat, seat_of, Setting, Move, Raise, BecomeSought, BecomeGroup}
use Rattle.model_plans.specs.Plan.{Choice, Plan, plans, plans_for, plan_of, first_choices, middle_choices, last_choices, moves_of}
use Rattle.model_plans.specs.PlanRun.{plan_run, moves_made, setting_in, holder, Found, first_found}
use Rattle.model_plans.specs.Walk.{after, after_moves, seat_after, seat_holds}
use Rattle.model_plans.proofs.Finds.{nothing_found}
use Rattle.model_plans.proofs.Holders.{all_member, no_holder, holder_holds, mover_decides}
use Rattle.model_plans.proofs.Skips.{first_moves_stay}

-- ---- raises
-- a raise leaves who has no capability as it was
raise_none : (q : Setting) (seat : Seat) → seat.cred.effective ≡ seat.cred.permitted → after q seat Raise ≡ seat
raise_none q seat same =
    ap (λ (calls : List Call). seat_after q seat (find (λ call. q.permitted (kind_of call)) calls))
    (cond-true (seat.cred.effective == seat.cred.permitted) [] (CapSet seat.cred.permitted seat.cred.permitted seat.cred.inheritable ∷ [])
    (eq-eqb seat.cred.effective seat.cred.permitted same))

-- the two seats are in one space, with the same ids
pub record SameIds (one two : Seat) : Type 0 where
  pub space : one.space ≡ two.space
  pub uid : one.cred.uid ≡ two.cred.uid
  pub gid : one.cred.gid ≡ two.cred.gid

-- capset leaves them
capset_ids : (q : Setting) (seat : Seat) (e p i : ℕ) → SameIds (seat_after q seat (Some (CapSet e p i))) seat
capset_ids q seat e p i =
    elim (may_capset seat.cred e p i)
    as (λ (b : Bool). SameIds (record {
      space = seat.space;
      cred = (if b then done (with_capset seat.cred e p i) else refused EPERM seat.cred).cred;
    }) seat) [
      | true ↦ record { space = refl; uid = refl; gid = refl }
      | false ↦ record { space = refl; uid = refl; gid = refl }
    ]

-- so does each raise
pub raise_ids : (q : Setting) (seat : Seat) → SameIds (after q seat Raise) seat
raise_ids q seat = by (seat.cred.effective == seat.cred.permitted) where
  by : (b : Bool) → SameIds (seat_after q seat (find (λ c. q.permitted (kind_of c))
      (if b then [] else CapSet seat.cred.permitted seat.cred.permitted seat.cred.inheritable ∷ []))) seat
  by true = record { space = refl; uid = refl; gid = refl }
  by false =
      elim (q.permitted kind.CapSet)
      as (λ (m : Bool). SameIds (seat_after q seat
      (if m then Some (CapSet seat.cred.permitted seat.cred.permitted seat.cred.inheritable) else None)) seat) [
        | true ↦ capset_ids q seat seat.cred.permitted seat.cred.permitted seat.cred.inheritable
        | false ↦ record { space = refl; uid = refl; gid = refl }
      ]

-- ---- the plan
-- the moves of a plan with one last move
abbrev pub last_alone : Move → List Move
last_alone move = moves_of [] [] (move ∷ [])

-- who has no capability is, after these moves, where the one move leaves it, as far as ids go
pub after_alone : (q : Setting) (seat : Seat) (move : Move) → seat.cred.effective ≡ seat.cred.permitted
    → SameIds (after_moves q seat (last_alone move)) (after q seat move)
after_alone q seat move same =
    let once : after q seat Raise ≡ seat = raise_none q seat same in
    let twice : after q (after q seat Raise) Raise ≡ seat = ap (λ (x : Seat). after q x Raise) once ∙ once in
    subst (λ (x : Seat). SameIds (after q (after q x move) Raise) (after q seat move)) (sym twice) (raise_ids q (after q seat move))

-- to become the id that is sought leaves the space
pub sought_stays : (q : Setting) (seat : Seat) → seat.cred.effective ≡ seat.cred.permitted → (after q seat BecomeSought).space ≡ seat.space
unfolding FirstMovesStay
sought_stays q seat same =
    let raised : (after q (after q seat Raise) BecomeSought).space ≡ seat.space
    = first_moves_stay q seat 2 [] (omega arith) in
    ap (λ (x : Seat). (after q x BecomeSought).space) (sym (raise_none q seat same)) ∙ raised

-- ---- the list
all_first : {A : Type 0} (P : A → Type 0) (xs ys : List A) → All P (xs ++ ys) → All P xs
all_first P [] ys all = All-nil P
all_first P (x ∷ xs) ys all = All-cons P x xs (All-head P x (xs ++ ys) all) (all_first P xs ys (All-tail P x (xs ++ ys) all))

all_second : {A : Type 0} (P : A → Type 0) (xs ys : List A) → All P (xs ++ ys) → All P ys
all_second P [] ys all = all
all_second P (x ∷ xs) ys all = all_second P xs ys (All-tail P x (xs ++ ys) all)

pub all_parts : {A B : Type 0} (P : B → Type 0) (f : A → List B) (xs : List A) → All P (flat_map f xs) → All (λ x. All P (f x)) xs
all_parts P f [] all = All-nil (λ x. All P (f x))
all_parts P f (x ∷ xs) all =
    All-cons (λ y. All P (f y)) x xs (all_first P (f x) (flat_map f xs) all) (all_parts P f xs (all_second P (f x) (flat_map f xs) all))

all_unmapped : {A B : Type 0} (P : B → Type 0) (f : A → B) (xs : List A) → All P (map f xs) → All (λ x. P (f x)) xs
all_unmapped P f [] all = All-nil (λ x. P (f x))
all_unmapped P f (x ∷ xs) all = All-cons (λ y. P (f y)) x xs (All-head P (f x) (map f xs) all) (all_unmapped P f xs (All-tail P (f x) (map f xs) all))

-- the last moves that are tried alone
pub data IsLast : Right → Move → Type 0 where
  of_uid : (id : ℕ) → IsLast (Uid id) BecomeSought
  of_cap : (cap n : ℕ) → IsLast (Cap cap n) BecomeSought
  of_gid : (id : ℕ) → IsLast (Gid id) BecomeGroup

at_last : (P : Choice → Type 0) (right : Right) (move : Move) → IsLast right move → All P (last_choices right) → P (move ∷ [])
at_last P _ _ (of_uid id) all = all 2 [] (omega arith)
at_last P _ _ (of_cap cap n) all = all 2 [] (omega arith)
at_last P _ _ (of_gid id) all = all 3 [] (omega arith)

module _ (permitted : CallKind → Bool) (w : World) (s : State) (members : List ℕ) (right : Right) where
  -- what holds of each plan of the list holds of that of a member with one last move
  listed_alone : (P : Plan → Type 0) (pid : ℕ) (p : Process) (move : Move) → is_member members pid ≡ true → process_at s.processes pid ≡ Some p
      → IsLast right move → All P (plans w s members right) → P (record { pid = pid; moves = last_alone move })
  listed_alone P pid p move member at last all =
      let own : All P (plans_for w.files s.spaces right pid (process_at s.processes pid))
      = all_member (λ n. All P (plans_for w.files s.spaces right n (process_at s.processes n))) members pid
      (all_parts P (λ n. plans_for w.files s.spaces right n (process_at s.processes n)) members (All-tail P _ _ all)) member in
      let mine : All P (plans_for w.files s.spaces right pid (Some p))
      = subst (λ (o : Option Process). All P (plans_for w.files s.spaces right pid o)) at own in
      let first : All P (flat_map (λ middle. map (plan_of pid [] middle) (last_choices right)) (middle_choices w.files s.spaces p.space))
      = all_parts P (λ first. flat_map (λ middle. map (plan_of pid first middle) (last_choices right)) (middle_choices w.files s.spaces p.space))
      first_choices mine 0 [] (omega arith) in
      let middle : All P (map (plan_of pid [] []) (last_choices right))
      = all_parts P (λ middle. map (plan_of pid [] middle) (last_choices right)) (middle_choices w.files s.spaces p.space) first 0 [] (omega arith) in
      at_last (λ last. P (plan_of pid [] [] last)) right move last (all_unmapped P (plan_of pid [] []) (last_choices right) middle)

  -- who holds the right without a move is found
  found_now : (pid : ℕ) → is_member members pid ≡ true → process_holds s pid right ≡ true → first_found permitted w s members right ≡ None → ⊥
  unfolding NothingFound
  found_now pid member holds nothing =
      let none : NoneHoldsAfter permitted w s members right (plans w s members right) = (nothing_found permitted w s members right).0 nothing in
      let now : NoneHolds s members right
      = All-head (λ plan. NoneHolds (plan_run permitted w s right plan).state members right) _ _ none in
      false≢true (sym (now pid member) ∙ holds)

  -- who holds it after one last move is found
  found_after : (pid : ℕ) (p : Process) (move : Move) → is_member members pid ≡ true → process_at s.processes pid ≡ Some p → IsLast right move
      → seat_holds (setting_in permitted w s right p) (after_moves (setting_in permitted w s right p) (seat_of p) (last_alone move)) ≡ true
      → first_found permitted w s members right ≡ None → ⊥
  unfolding NothingFound NoHolder MoverDecides
  found_after pid p move member at last holds nothing =
      let P : Plan → Type 0 = λ plan. NoneHolds (plan_run permitted w s right plan).state members right in
      let none : All P (plans w s members right) = (nothing_found permitted w s members right).0 nothing in
      let before : holder s members right ≡ None = (no_holder s members right).1 (All-head P _ _ none) in
      let ends : NoneHolds (moves_made permitted w s right pid (last_alone move)).state members right
      = listed_alone P pid p move member at last none in
      let moved : holder (moves_made permitted w s right pid (last_alone move)).state members right ≡ Some pid
      = mover_decides permitted w s members right pid p (last_alone move) at member before
      ∙ cond-true _ (Some pid) None holds in
      let it = holder_holds (moves_made permitted w s right pid (last_alone move)).state members right pid moved in
      false≢true (sym (ends pid member) ∙ it.1)

  -- what isn't nothing is something
  pub is_found : (first_found permitted w s members right ≡ None → ⊥) → (found : Found) × (first_found permitted w s members right ≡ Some found)
  is_found some = by (first_found permitted w s members right) refl where
    by : (o : Option Found) → first_found permitted w s members right ≡ o → (found : Found) × (first_found permitted w s members right ≡ Some found)
    by None none = absurd (some none)
    by (Some found) is = (found, is)

  -- a member that holds the right now, or after one last move, is found
  pub holds_now : (pid : ℕ) → is_member members pid ≡ true → process_holds s pid right ≡ true
      → (found : Found) × (first_found permitted w s members right ≡ Some found)
  holds_now pid member holds = is_found (found_now pid member holds)

  pub holds_after : (pid : ℕ) (p : Process) (move : Move) → is_member members pid ≡ true → process_at s.processes pid ≡ Some p → IsLast right move
      → seat_holds (setting_in permitted w s right p) (after_moves (setting_in permitted w s right p) (seat_of p) (last_alone move)) ≡ true
      → (found : Found) × (first_found permitted w s members right ≡ Some found)
  holds_after pid p move member at last holds = is_found (found_after pid p move member at last holds)

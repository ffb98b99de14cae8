-- The walk on seats finds what the list of plans and the machine's runs do.
use Rattle.std.proofs.Common.{◌≡◌, ℕ, Bool, true, false, List, [], ◌∷◌, ◌++◌, map, Option, None, Some, option_map}
use Rattle.std.proofs.Common.{if◌then◌else◌, refl, sym, ap, ◌∙◌}
use Rattle.std.specs.List.{flat_map}
use Rattle.std.specs.Option.{option_or}
use Rattle.std.proofs.lemmas.List.Elements.{All-weaker}
use Rattle.cm_filter.specs.declared.kind.CallKind.{CallKind}
use Rattle.model_cred.specs.Files.{FileTable}
use Rattle.model_cred.specs.Process.{Process, State, process_at}
use Rattle.model_cred.specs.Right.{Right}
use Rattle.model_cred.specs.Space.{Spaces}
use Rattle.model_cred.specs.World.{World}
use Rattle.model_run.specs.Later.{is_member}
use Rattle.model_plans.specs.Move.{Seat, seat_of, Setting, Move, Raise}
use Rattle.model_plans.specs.Plan.{Choice, Plan, first_choices, middle_choices, last_choices, then_raise, moves_of, plan_of, plans_in, plans_for}
use Rattle.model_plans.specs.PlanRun.{setting_in, moves_made, plan_run, holder, Found, found_by, first_some, first_found}
use Rattle.model_plans.specs.Walk.{after_moves, events_of, seat_holds, last_found, middle_found, moves_from, moves_found, found_for}
use Rattle.model_plans.specs.Walk.{found_among, found_now, walked}
use Rattle.model_plans.specs.Firsts.{WalkFindsTheSame}
use Rattle.model_plans.proofs.Lists.{first_flat_map, first_map, first_same, first_everywhere, map_first, map_twice, value_if, map_find}
use Rattle.model_plans.proofs.Walks.{walk_run}
use Rattle.model_plans.proofs.Holders.{all_members, mover_decides_seated}
use Rattle.model_plans.proofs.Shared.{after_append}

-- ---- on one seat
module _ (q : Setting) (pid : ℕ) (seat : Seat) where
  -- what moves find
  abbrev pub found_if : List Move → Option Found
  found_if moves = value_if (seat_holds q (after_moves q seat moves)) (record { run = events_of q pid seat moves; holder = pid })

  abbrev found_with : List Move → Found
  found_with moves = record { run = events_of q pid seat moves; holder = pid }

  after_choices : (first middle last : Choice)
      → after_moves q seat (moves_of first middle last)
      ≡ after_moves q (after_moves q (after_moves q seat (Raise ∷ first)) (then_raise middle)) (then_raise last)
  after_choices first middle last =
      after_append q seat (Raise ∷ first) (then_raise middle ++ then_raise last)
      ∙ after_append q (after_moves q seat (Raise ∷ first)) (then_raise middle) (then_raise last)

  -- the last choices, one by one
  last_by_one : (first middle : Choice)
      → option_map (λ last. found_with (moves_of first middle last)) (last_found q (after_moves q (after_moves q seat (Raise ∷ first)) (then_raise middle)))
      ≡ first_some (λ last. found_if (moves_of first middle last)) (last_choices q.right)
  unfolding last_found
  last_by_one first middle =
      let here : Seat = after_moves q (after_moves q seat (Raise ∷ first)) (then_raise middle) in
      map_find (λ last. found_with (moves_of first middle last)) (λ last. seat_holds q (after_moves q here (then_raise last))) (last_choices q.right)
      ∙ first_everywhere
      (λ last. value_if (seat_holds q (after_moves q here (then_raise last))) (found_with (moves_of first middle last)))
      (λ last. found_if (moves_of first middle last)) (last_choices q.right)
      (λ last. ap (λ (x : Seat). value_if (seat_holds q x) (found_with (moves_of first middle last))) (sym (after_choices first middle last)))

  -- the middle choices, one by one
  middle_by_one : (first : Choice) (middles : List Choice)
      → option_map (λ rest. found_with ((Raise ∷ first) ++ rest)) (middle_found q (after_moves q seat (Raise ∷ first)) middles)
      ≡ first_some (λ middle. first_some (λ last. found_if (moves_of first middle last)) (last_choices q.right)) middles
  middle_by_one first middles =
      let here : Choice → Seat = λ middle. after_moves q (after_moves q seat (Raise ∷ first)) (then_raise middle) in
      let rest_of : Choice → Option (List Move)
      = λ middle. option_map (λ last. then_raise middle ++ then_raise last) (last_found q (here middle)) in
      map_first (λ rest. found_with ((Raise ∷ first) ++ rest)) rest_of middles
      ∙ first_everywhere (λ middle. option_map (λ rest. found_with ((Raise ∷ first) ++ rest)) (rest_of middle))
      (λ middle. first_some (λ last. found_if (moves_of first middle last)) (last_choices q.right)) middles
      (λ middle.
      map_twice (λ rest. found_with ((Raise ∷ first) ++ rest)) (λ last. then_raise middle ++ then_raise last) (last_found q (here middle))
      ∙ last_by_one first middle)

  -- all choices, one by one
  all_by_one : (middles firsts : List Choice)
      → option_map found_with (moves_from q seat middles firsts)
      ≡ first_some (λ first. first_some (λ middle. first_some (λ last. found_if (moves_of first middle last)) (last_choices q.right)) middles) firsts
  all_by_one middles firsts =
      let rest_of : Choice → Option (List Move)
      = λ first. option_map (λ rest. (Raise ∷ first) ++ rest) (middle_found q (after_moves q seat (Raise ∷ first)) middles) in
      map_first found_with rest_of firsts
      ∙ first_everywhere (λ first. option_map found_with (rest_of first))
      (λ first. first_some (λ middle. first_some (λ last. found_if (moves_of first middle last)) (last_choices q.right)) middles) firsts
      (λ first.
      map_twice found_with (λ rest. (Raise ∷ first) ++ rest) (middle_found q (after_moves q seat (Raise ∷ first)) middles)
      ∙ middle_by_one first middles)

-- ---- over the flat list
-- the first answer over a member's plans is the first over its choices, one by one
flat_choices : {B : Type 0} (answer : Plan → Option B) (files : FileTable) (spaces : Spaces) (right : Right) (pid at : ℕ)
    → first_some answer (plans_in files spaces right pid at)
    ≡ first_some (λ first. first_some (λ middle. first_some (λ last. answer (plan_of pid first middle last)) (last_choices right))
    (middle_choices files spaces at)) first_choices
flat_choices answer files spaces right pid at =
    let lasts : List Choice = last_choices right in
    let middles : List Choice = middle_choices files spaces at in
    first_flat_map answer (λ first. flat_map (λ middle. map (plan_of pid first middle) lasts) middles) first_choices
    ∙ first_everywhere (λ first. first_some answer (flat_map (λ middle. map (plan_of pid first middle) lasts) middles))
    (λ first. first_some (λ middle. first_some (λ last. answer (plan_of pid first middle last)) lasts) middles) first_choices
    (λ first.
    first_flat_map answer (λ middle. map (plan_of pid first middle) lasts) middles
    ∙ first_everywhere (λ middle. first_some answer (map (plan_of pid first middle) lasts))
    (λ middle. first_some (λ last. answer (plan_of pid first middle last)) lasts) middles
    (λ middle. first_map answer (plan_of pid first middle) lasts))

-- ---- by a member
-- a value under a test, changed
map_if : {A B : Type 0} (h : A → B) (b : Bool) (x : A) → option_map h (if b then Some x else None) ≡ value_if b (h x)
map_if h true x = refl
map_if h false x = refl

module _ (permitted : CallKind → Bool) (w : World) (s : State) (members : List ℕ) (right : Right) where
  -- what a plan finds
  abbrev tried : Plan → Option Found
  tried plan = found_by members right (plan_run permitted w s right plan)

  -- where no member holds the right already, a run of a member's moves finds what its seat finds
  run_finds : (pid : ℕ) (p : Process) (moves : List Move) → process_at s.processes pid ≡ Some p → is_member members pid ≡ true
      → holder s members right ≡ None
      → found_by members right (moves_made permitted w s right pid moves) ≡ found_if (setting_in permitted w s right p) pid (seat_of p) moves
  run_finds pid p moves lives member none =
      let q : Setting = setting_in permitted w s right p in
      let seat : Seat = after_moves q (seat_of p) moves in
      ap (found_by members right) (walk_run permitted w s right pid p moves lives)
      ∙ ap (option_map (λ n. record { run = events_of q pid (seat_of p) moves; holder = n }))
      (mover_decides_seated s members right pid p seat lives member none)
      ∙ map_if (λ n. record { run = events_of q pid (seat_of p) moves; holder = n }) (seat_holds q seat) pid

  -- so its plans find what the walk from its seat does
  member_finds : (pid : ℕ) (o : Option Process) → process_at s.processes pid ≡ o → is_member members pid ≡ true → holder s members right ≡ None
      → first_some tried (plans_for w.files s.spaces right pid o) ≡ found_for permitted w s right pid o
  unfolding moves_found
  member_finds pid None lives member none = refl
  member_finds pid (Some p) lives member none =
      let q : Setting = setting_in permitted w s right p in
      let middles : List Choice = middle_choices w.files s.spaces p.space in
      let lasts : List Choice = last_choices right in
      flat_choices tried w.files s.spaces right pid p.space
      ∙ first_everywhere
      (λ first. first_some (λ middle. first_some (λ last. tried (plan_of pid first middle last)) lasts) middles)
      (λ first. first_some (λ middle. first_some (λ last. found_if q pid (seat_of p) (moves_of first middle last)) lasts) middles) first_choices
      (λ first. first_everywhere
      (λ middle. first_some (λ last. tried (plan_of pid first middle last)) lasts)
      (λ middle. first_some (λ last. found_if q pid (seat_of p) (moves_of first middle last)) lasts) middles
      (λ middle. first_everywhere
      (λ last. tried (plan_of pid first middle last)) (λ last. found_if q pid (seat_of p) (moves_of first middle last)) lasts
      (λ last. run_finds pid p (moves_of first middle last) lives member none)))
      ∙ sym (all_by_one q pid (seat_of p) middles first_choices)

  -- ---- by all members
  members_find : holder s members right ≡ None
      → first_some tried (flat_map (λ pid. plans_for w.files s.spaces right pid (process_at s.processes pid)) members)
      ≡ found_among permitted w s right members
  members_find none =
      let plans_by : ℕ → List Plan = λ pid. plans_for w.files s.spaces right pid (process_at s.processes pid) in
      let found_of : ℕ → Option Found = λ pid. found_for permitted w s right pid (process_at s.processes pid) in
      first_flat_map tried plans_by members
      ∙ first_same (λ pid. first_some tried (plans_by pid)) found_of members
      (All-weaker (λ pid. is_member members pid ≡ true) (λ pid. first_some tried (plans_by pid) ≡ found_of pid)
      (λ pid member. member_finds pid (process_at s.processes pid) refl member none) members (all_members members))

  walk_finds : (o : Option ℕ) → holder s members right ≡ o → first_found permitted w s members right ≡ walked permitted w s members right
  unfolding first_found walked
  walk_finds None none = ap (option_or (found_now s members right)) (members_find none)
  walk_finds (Some pid) some =
      let now : found_now s members right ≡ Some (record { run = []; holder = pid }) = ap (option_map (λ n. record { run = []; holder = n })) some in
      let listed : Option Found
      = first_some tried (flat_map (λ n. plans_for w.files s.spaces right n (process_at s.processes n)) members) in
      ap (λ o. option_or o listed) now ∙ sym (ap (λ o. option_or o (found_among permitted w s right members)) now)

pub walk_finds_the_same : WalkFindsTheSame
unfolding WalkFindsTheSame
walk_finds_the_same permitted w s members right = walk_finds permitted w s members right (holder s members right) refl

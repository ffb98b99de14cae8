-- The runs of plans are later runs of the members.
use Rattle.std.proofs.Common.{◌≡◌, ℕ, ◌<◌, ◌==◌, not, Bool, true, false, List, [], ◌∷◌, ◌++◌, map, filter, length}
use Rattle.std.proofs.Common.{Option, None, Some, refl, sym, ap, ◌∙◌, subst, arith}
use Rattle.std.specs.Prelude.{All, slice_get}
use Rattle.std.proofs.lemmas.Bool.{lt-ltb, and_parts}
use Rattle.cm_filter.specs.Filters.{permits}
use Rattle.std.specs.List.{flat_map}
use Rattle.std.proofs.lemmas.List.Elements.{All-cons, All-nil, All-append, All-map, All-filter, All-take, All-weaker}
use Rattle.cm_base.specs.declared.res.Res.{Res}
use Rattle.cm_base.specs.declared.res.Res.TheVariants.{Child}
use Rattle.cm_base.specs.declared.res.FileRef.TheVariants.{Plain}
use Rattle.cm_filter.specs.declared.kind.CallKind.{CallKind}
use Rattle.model_cred.specs.Call.{Call, Event, Exit, kind_of}
use Rattle.model_cred.specs.Files.{FileTable, IsDeclared}
use Rattle.model_cred.specs.Process.{Process, State, process_at}
use Rattle.model_cred.specs.Right.{Right, Cap, Uid, Gid}
use Rattle.model_cred.specs.Space.{Spaces, stands}
use Rattle.model_cred.specs.World.{World}
use Rattle.model_run.specs.Later.{Later, is_member, members_after, members_with}
use Rattle.model_run.specs.Own.{filter_in, permitted_under}
use Rattle.model_run.specs.Ruling.{Ruling, own}
use Rattle.model_run.specs.Step.{names_no_space}
use Rattle.model_laws.proofs.Owning.{own_step}
use Rattle.model_laws.proofs.Results.{IsRuled, reply_plain}
use Rattle.model_plans.specs.Move.{seat_of, Setting, Move, Raise, BecomeZero, BecomeSought, BecomeGroup}
use Rattle.model_plans.specs.Move.{TakeGroup}
use Rattle.model_plans.specs.Move.{RunFile, JoinSpace, call_of}
use Rattle.model_plans.specs.Plan.{Choice, Plan, numbers, is_special, most_special, special_rows, run_row, run_two}
use Rattle.model_plans.specs.Plan.{pairs, joins, first_choices}
use Rattle.model_plans.specs.Plan.{middle_choices, group_choices, last_choices, then_raise, moves_of, plans_in}
use Rattle.model_plans.specs.Plan.{plans_for, plans}
use Rattle.model_plans.specs.PlanRun.{PlanRun, setting_in, call_made, move_made, moves_made, plan_run}
use Rattle.model_plans.specs.Changes.{changes_caller_alone, IsLater, RunsAreLater}
use Rattle.model_plans.specs.Shortcuts.{then_made}
use Rattle.model_plans.proofs.Lists.{all_flat_map, all_range}
use Rattle.model_plans.proofs.Calls.{JoinStands, call_plain, call_named}
use Rattle.model_plans.proofs.Walks.{own_alone}
use Rattle.model_plans.proofs.Holders.{all_members}

-- ---- one call
-- a result of the rules that is no child leaves the members of a call that isn't an exit
members_stay : (members : List ℕ) (r : Res) → IsRuled r → members_with members r ≡ members
members_stay members (Child n) ruled = absurd ruled
members_stay members _ ruled = refl

alone_members : (members : List ℕ) (pid : ℕ) (call : Call) (r : Res) → changes_caller_alone call ≡ true → IsRuled r
    → members_after members pid call r ≡ members
alone_members members pid Exit r alone ruled = absurd (cc)
alone_members members pid _ r alone ruled = members_stay members r ruled

-- ---- moves
-- what a move names is there: the file that it is to run is in the table, the space that it is to join stands
abbrev pub MoveStands : FileTable → Spaces → Move → Type 0
MoveStands files spaces (RunFile file) = IsDeclared files file
MoveStands files spaces (JoinSpace n) = stands spaces n ≡ true
MoveStands files spaces _ = Unit {0}

-- so it is of each of the moves
abbrev pub MovesStand : FileTable → Spaces → List Move → Type 0
MovesStand files spaces [] = Unit {0}
MovesStand files spaces (move ∷ moves) = MoveStands files spaces move × MovesStand files spaces moves

pub join_stands : (files : FileTable) (spaces : Spaces) (move : Move) → MoveStands files spaces move
    → JoinStands spaces move
join_stands files spaces (JoinSpace n) there = there
join_stands files spaces _ there = tt

-- what is made is a later run of the members, after which they are the same
abbrev Goes : (CallKind → Bool) → World → State → List ℕ → ℕ → PlanRun → Type 0
Goes permitted w s members pid made = Later permitted w s members made.events made.state members

-- an optional call, and more moves, of which this is known already
later_call : (permitted : CallKind → Bool) (w : World) (s : State) (right : Right) (members : List ℕ) (pid : ℕ) (p : Process) (moves : List Move)
    (o : Option Call) → process_at s.processes pid ≡ Some p → is_member members pid ≡ true
    → ((call : Call) → o ≡ Some call
    → (changes_caller_alone call ≡ true) × (permitted_under p.filter permitted (kind_of call) ≡ true) × (names_no_space s.spaces call ≡ false))
    → ((t : State) → t.spaces ≡ s.spaces → Goes permitted w t members pid (moves_made permitted w t right pid moves))
    → Goes permitted w s members pid (then_made permitted w right pid (call_made w s pid p o) moves)
later_call permitted w s right members pid p moves None lives member plain rest = rest s refl
later_call permitted w s right members pid p moves (Some call) lives member plain rest =
    let is : (changes_caller_alone call ≡ true) × (permitted_under p.filter permitted (kind_of call) ≡ true)
    × (names_no_space s.spaces call ≡ false) = plain call refl in
    let r : Ruling = own w s p call in
    let e : Event = record { pid = pid; call = call; res = r.res } in
    let alone = own_alone w s p call (is.0, (and_parts (permitted (kind_of call)) (permits p.filter (kind_of call)) is.1).1) in
    let ruled : IsRuled r.res
    = subst IsRuled (sym (ap (λ (x : Ruling). x.res) alone)) (reply_plain w.files s.spaces p.space p.cred call).ruled in
    let made : PlanRun = moves_made permitted w r.state right pid moves in (
      r.state,
      member,
      ap (λ (o : Option Process). permitted_under (filter_in o) permitted (kind_of call)) lives ∙ is.1,
      own_step w s e p lives is.2 refl,
      subst (λ (ms : List ℕ). Later permitted w r.state ms made.events made.state members)
          (sym (alone_members members pid call r.res is.0 ruled))
          (rest r.state (ap (λ (x : Ruling). x.state.spaces) alone)),
    )

-- a move of an optional process, and more moves, of which this is known already
later_move : (permitted : CallKind → Bool) (w : World) (s : State) (right : Right) (members : List ℕ) (pid : ℕ) (o : Option Process) (move : Move)
    (moves : List Move) → process_at s.processes pid ≡ o → is_member members pid ≡ true → JoinStands s.spaces move
    → ((t : State) → t.spaces ≡ s.spaces → Goes permitted w t members pid (moves_made permitted w t right pid moves))
    → Goes permitted w s members pid (then_made permitted w right pid (move_made permitted w s right pid o move) moves)
later_move permitted w s right members pid None move moves lives member there rest = rest s refl
later_move permitted w s right members pid (Some p) move moves lives member there rest =
    let q : Setting = setting_in permitted w s right p in
    later_call permitted w s right members pid p moves (call_of q (seat_of p) move) lives member
    (λ call is.
    let plain : (changes_caller_alone call ≡ true) × (permitted_under p.filter permitted (kind_of call) ≡ true) =
    call_plain q (seat_of p) move call is in
    (plain.0, plain.1, call_named q (seat_of p) move call there is)) rest

later_moves : (permitted : CallKind → Bool) (w : World) (s : State) (right : Right) (members : List ℕ) (pid : ℕ) (moves : List Move)
    → is_member members pid ≡ true → MovesStand w.files s.spaces moves
    → Goes permitted w s members pid (moves_made permitted w s right pid moves)
later_moves permitted w s right members pid [] member stand = (refl, refl)
later_moves permitted w s right members pid (move ∷ moves) member stand =
    later_move permitted w s right members pid (process_at s.processes pid) move moves refl member
    (join_stands w.files s.spaces move stand.0)
    (λ t same. later_moves permitted w t right members pid moves member
    (subst (λ (spaces : Spaces). MovesStand w.files spaces moves) (sym same) stand.1))

-- each event is of the one who moves
made_by : (permitted : CallKind → Bool) (w : World) (s : State) (right : Right) (pid : ℕ) (moves : List Move)
    → All (λ (e : Event). e.pid ≡ pid) (moves_made permitted w s right pid moves).events
made_by permitted w s right pid [] = All-nil (λ (e : Event). e.pid ≡ pid)
made_by permitted w s right pid (move ∷ moves) =
    let one : PlanRun = move_made permitted w s right pid (process_at s.processes pid) move in
    All-append (λ (e : Event). e.pid ≡ pid) one.events (moves_made permitted w one.state right pid moves).events
    (by_process (process_at s.processes pid))
    (made_by permitted w one.state right pid moves)
  where
    by_call : (p : Process) (o : Option Call) → All (λ (e : Event). e.pid ≡ pid) (call_made w s pid p o).events
    by_call p None = All-nil (λ (e : Event). e.pid ≡ pid)
    by_call p (Some call) =
        All-cons (λ (e : Event). e.pid ≡ pid) (record { pid = pid; call = call; res = (own w s p call).res }) [] refl
        (All-nil (λ (e : Event). e.pid ≡ pid))

    by_process : (o : Option Process)
        → All (λ (e : Event). e.pid ≡ pid) (move_made permitted w s right pid o move).events
    by_process None = All-nil (λ (e : Event). e.pid ≡ pid)
    by_process (Some p) = by_call p (call_of (setting_in permitted w s right p) (seat_of p) move)

later_run : (permitted : CallKind → Bool) (w : World) (s : State) (right : Right) (members : List ℕ) (pid : ℕ) (moves : List Move)
    → is_member members pid ≡ true → MovesStand w.files s.spaces moves
    → IsLater permitted w s members pid (moves_made permitted w s right pid moves)
later_run permitted w s right members pid moves member stand = record {
  later = later_moves permitted w s right members pid moves member stand;
  callers = made_by permitted w s right pid moves;
}

-- ---- plans
module _ (files : FileTable) (spaces : Spaces) where
  stand_append : (moves more : List Move) → MovesStand files spaces moves → MovesStand files spaces more
      → MovesStand files spaces (moves ++ more)
  stand_append [] more first second = second
  stand_append (move ∷ moves) more first second = (first.0, stand_append moves more first.1 second)

  stand_raised : (choice : Choice) → MovesStand files spaces choice → MovesStand files spaces (then_raise choice)
  stand_raised choice stand = stand_append choice (Raise ∷ []) stand (tt, tt)

  stand_of : (first middle last : Choice) → MovesStand files spaces first → MovesStand files spaces middle
      → MovesStand files spaces last
      → MovesStand files spaces (moves_of first middle last)
  stand_of first middle last one two three =
      stand_append (Raise ∷ first) (then_raise middle ++ then_raise last) (tt, one)
      (stand_append (then_raise middle) (then_raise last) (stand_raised middle two) (stand_raised last three))

  stand_first : All (MovesStand files spaces) first_choices
  stand_first =
      All-cons (MovesStand files spaces) [] ((BecomeZero ∷ []) ∷ (BecomeSought ∷ []) ∷ []) tt
      (All-cons (MovesStand files spaces) (BecomeZero ∷ []) ((BecomeSought ∷ []) ∷ []) (tt, tt)
      (All-cons (MovesStand files spaces) (BecomeSought ∷ []) [] (tt, tt) (All-nil (MovesStand files spaces))))

  stand_group : (right : Right) → All (MovesStand files spaces) (group_choices right)
  stand_group (Gid id) =
      All-cons (MovesStand files spaces) (BecomeGroup ∷ []) ((TakeGroup ∷ []) ∷ []) (tt, tt)
      (All-cons (MovesStand files spaces) (TakeGroup ∷ []) [] (tt, tt) (All-nil (MovesStand files spaces)))
  stand_group _ = All-nil (MovesStand files spaces)

  stand_last : (right : Right) → All (MovesStand files spaces) (last_choices right)
  stand_last right =
      All-append (MovesStand files spaces) first_choices (group_choices right) stand_first (stand_group right)

  stand_joins : (at : ℕ) → All (MovesStand files spaces) (joins spaces at)
  stand_joins at =
      let others : List ℕ = filter (λ n. not (n == at)) (numbers spaces) in
      All-map (MovesStand files spaces) (λ n. JoinSpace n ∷ []) others
      (All-weaker (λ n. stands spaces n ≡ true) (λ n. MovesStand files spaces (JoinSpace n ∷ []))
      (λ n there. (there, tt)) others
      (All-filter (λ n. not (n == at)) (λ n. stands spaces n ≡ true) (numbers spaces)
      (all_range (λ n. stands spaces n ≡ true) 0 (length spaces)
      (λ n low high. lt-ltb n (length spaces) (omega arith)))))

  -- the numbers of rows
  rows_there : All (λ n. n < length files.rows) (numbers files.rows)
  rows_there = all_range (λ n. n < length files.rows) 0 (length files.rows) (λ n low high. omega arith)

  special_there : All (λ n. n < length files.rows) (special_rows files.rows)
  special_there =
      let test : ℕ → Bool = λ n. is_special (slice_get files.rows n) in
      All-take (λ n. n < length files.rows) most_special (filter test (numbers files.rows))
      (All-filter test (λ n. n < length files.rows) (numbers files.rows) rows_there)

  stand_middle : (at : ℕ) → All (MovesStand files spaces) (middle_choices files spaces at)
  stand_middle at =
      let There : ℕ → Type 0 = λ n. n < length files.rows in
      let rows : List ℕ = special_rows files.rows in
      All-append (MovesStand files spaces)
      (([] ∷ map run_row (numbers files.rows)) ++ ((RunFile Plain ∷ []) ∷ joins spaces at)) (pairs rows)
      (All-append (MovesStand files spaces) ([] ∷ map run_row (numbers files.rows))
      ((RunFile Plain ∷ []) ∷ joins spaces at)
      (All-cons (MovesStand files spaces) [] (map run_row (numbers files.rows)) tt
      (All-map (MovesStand files spaces) run_row (numbers files.rows)
      (All-weaker There (λ n. MovesStand files spaces (run_row n)) (λ n there. (there, tt))
      (numbers files.rows) rows_there)))
      (All-cons (MovesStand files spaces) (RunFile Plain ∷ []) (joins spaces at) (tt, tt) (stand_joins at)))
      (all_flat_map (MovesStand files spaces) (λ f. map (run_two f) rows) rows
      (All-weaker There (λ f. All (MovesStand files spaces) (map (run_two f) rows))
      (λ f there. All-map (MovesStand files spaces) (run_two f) rows
      (All-weaker There (λ g. MovesStand files spaces (run_two f g))
      (λ g too. (there, (too, tt))) rows special_there)) rows special_there))

  -- what holds of all moves of choices that name what is there holds of all plans of a member
  all_plans_in : (P : Plan → Type 0) (right : Right) (pid at : ℕ)
      → ((moves : List Move) → MovesStand files spaces moves → P (record { pid = pid; moves = moves }))
      → All P (plans_in files spaces right pid at)
  all_plans_in P right pid at holds =
      let with_last : Choice → Choice → List Plan
      = λ first middle. map (λ last. record { pid = pid; moves = moves_of first middle last }) (last_choices right) in
      let with_middle : Choice → List Plan = λ first. flat_map (with_last first) (middle_choices files spaces at) in
      all_flat_map P with_middle first_choices
      (All-weaker (MovesStand files spaces) (λ first. All P (with_middle first)) (λ first one.
      all_flat_map P (with_last first) (middle_choices files spaces at)
      (All-weaker (MovesStand files spaces) (λ middle. All P (with_last first middle)) (λ middle two.
      All-map P (λ last. record { pid = pid; moves = moves_of first middle last }) (last_choices right)
      (All-weaker (MovesStand files spaces) (λ last. P (record { pid = pid; moves = moves_of first middle last }))
      (λ last three.
      holds (moves_of first middle last) (stand_of first middle last one two three))
      (last_choices right) (stand_last right)))
      (middle_choices files spaces at) (stand_middle at)))
      first_choices stand_first)

-- what holds of the plan without a move, and of all moves of a member that name what is there, holds of all plans
pub all_plans : (P : Plan → Type 0) (w : World) (s : State) (members : List ℕ) (right : Right)
    → P (record { pid = 0; moves = [] })
    → ((pid : ℕ) (moves : List Move) → is_member members pid ≡ true → MovesStand w.files s.spaces moves → P (record { pid = pid; moves = moves }))
    → All P (plans w s members right)
all_plans P w s members right without holds =
    let of_member : ℕ → List Plan = λ pid. plans_for w.files s.spaces right pid (process_at s.processes pid) in
    let by_process : (pid : ℕ) → is_member members pid ≡ true → (o : Option Process) → All P
    (plans_for w.files s.spaces right pid o)
    = λ pid member. elim [
      | None ↦ All-nil P
      | Some p ↦ all_plans_in w.files s.spaces P right pid p.space (λ moves stand. holds pid moves member stand)
    ] in
    All-cons P (record { pid = 0; moves = [] }) (flat_map of_member members) without
    (all_flat_map P of_member members
    (All-weaker (λ pid. is_member members pid ≡ true) (λ pid. All P (of_member pid))
    (λ pid member. by_process pid member (process_at s.processes pid))
    members (all_members members)))

pub runs_later : (permitted : CallKind → Bool) (w : World) (s : State) (members : List ℕ) (right : Right)
    → All (λ plan. IsLater permitted w s members plan.pid (plan_run permitted w s right plan)) (plans w s members right)
runs_later permitted w s members right =
    all_plans (λ plan. IsLater permitted w s members plan.pid (plan_run permitted w s right plan)) w s members right
    (record { later = (refl, refl); callers = All-nil (λ (e : Event). e.pid ≡ 0) })
    (λ pid moves member stand. later_run permitted w s right members pid moves member stand)

pub runs_are_later : RunsAreLater
unfolding RunsAreLater
runs_are_later = runs_later

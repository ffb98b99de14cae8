-- What a walk may leave out: choices that leave the seat where an earlier one left it, and members like earlier ones.
use Rattle.std.proofs.Common.{◌≡◌, ℕ, [], ◌∷◌, ◌++◌, Option, None, Some, option_map, refl, sym, ap, ◌∙◌}
use Rattle.std.proofs.lemmas.List.Elements.{All-cons, All-nil}
use Rattle.cm_filter.specs.Filters.{Filter}
use Rattle.model_run.specs.Own.{permitted_under}
use Rattle.model_cred.specs.Call.{Call}
use Rattle.model_cred.specs.Process.{process_at}
use Rattle.model_plans.specs.Move.{Seat, seat_of, Setting, Move, Raise, BecomeZero, BecomeSought, JoinSpace, call_of}
use Rattle.model_plans.specs.Plan.{Choice, then_raise}
use Rattle.model_plans.specs.PlanRun.{setting_in}
use Rattle.model_plans.specs.Walk.{reply_at, seat_after, after, after_moves, last_found, middle_found, moves_found, found_at}
use Rattle.model_plans.specs.Walk.{events_of, found_for}
use Rattle.model_plans.specs.Changes.{FirstMovesStay}
use Rattle.model_plans.specs.Shortcuts.{FirstChoicesTriedBefore, MiddleChoicesTriedBefore, AreAlike, MembersTriedBefore}
use Rattle.model_plans.proofs.Lists.{unmap_none, skip_like}
use Rattle.model_plans.proofs.Calls.{OfCalls, OfJoin, call_has}

-- ---- choices
-- a changed value is none where the value is
map_none : {A B : Type 0} (h : A → B) (o : Option A) → o ≡ None → option_map h o ≡ None
map_none h o is = ap (option_map h) is

pub first_choices_tried_before : FirstChoicesTriedBefore
unfolding FirstChoicesTriedBefore
first_choices_tried_before q seat middles earlier later first any =
    skip_like (λ choice. option_map (λ rest. (Raise ∷ choice) ++ rest) (middle_found q (after_moves q seat (Raise ∷ choice)) middles))
    (λ other. after_moves q seat (Raise ∷ other) ≡ after_moves q seat (Raise ∷ first)) earlier later first
    (λ other same none.
    map_none (λ rest. (Raise ∷ first) ++ rest) (middle_found q (after_moves q seat (Raise ∷ first)) middles)
    (ap (λ (x : Seat). middle_found q x middles) (sym same)
    ∙ unmap_none (λ rest. (Raise ∷ other) ++ rest) (middle_found q (after_moves q seat (Raise ∷ other)) middles) none)) any

pub middle_choices_tried_before : MiddleChoicesTriedBefore
unfolding MiddleChoicesTriedBefore
middle_choices_tried_before q seat earlier later middle any =
    skip_like (λ choice. option_map (λ last. then_raise choice ++ then_raise last) (last_found q (after_moves q seat (then_raise choice))))
    (λ other. after_moves q seat (then_raise other) ≡ after_moves q seat (then_raise middle)) earlier later middle
    (λ other same none.
    map_none (λ last. then_raise middle ++ then_raise last) (last_found q (after_moves q seat (then_raise middle)))
    (ap (last_found q) (sym same)
    ∙ unmap_none (λ last. then_raise other ++ then_raise last) (last_found q (after_moves q seat (then_raise other))) none)) any

-- ---- members
-- where a seat finds nothing, one like it finds nothing, whoever is there
none_alike : (q : Setting) (pid other : ℕ) (seat : Seat) → found_at q pid seat ≡ None → found_at q other seat ≡ None
none_alike q pid other seat none =
    map_none (λ moves. record { run = events_of q other seat moves; holder = other }) (moves_found q seat)
    (unmap_none (λ moves. record { run = events_of q pid seat moves; holder = pid }) (moves_found q seat) none)

pub members_tried_before : MembersTriedBefore
unfolding MembersTriedBefore
members_tried_before permitted w s right earlier later pid any =
    skip_like (λ n. found_for permitted w s right n (process_at s.processes n)) (λ other. AreAlike s other pid) earlier later pid
    (λ other alike none.
    let here : found_at (setting_in permitted w s right alike.one) other (seat_of alike.one) ≡ None
    = sym (ap (found_for permitted w s right other) alike.first_lives) ∙ none in
    let under : Filter → Setting =
    λ filter. record { files = w.files; spaces = s.spaces; permitted = permitted_under filter permitted; right = right } in
    ap (found_for permitted w s right pid) alike.second_lives
    ∙ ap (found_at (setting_in permitted w s right alike.two) pid) (sym alike.seat)
    ∙ ap (λ (filter : Filter). found_at (under filter) pid (seat_of alike.one)) (sym alike.filter)
    ∙ none_alike (setting_in permitted w s right alike.one) other pid (seat_of alike.one) here) any

-- ---- the first moves
-- a move that isn't to join a space leaves the member in its own
abbrev IsStaying : Move → Type 0
IsStaying (JoinSpace n) = ⊥
IsStaying _ = Unit {0}

-- the call leaves its caller in its space
abbrev Stays : Setting → Seat → Call → Type 0
Stays q seat call = (reply_at q seat call).space ≡ seat.space

stays_of : (q : Setting) (seat : Seat) → OfCalls (Stays q seat)
stays_of q seat = record {
  raise = λ e p i. refl;
  uid = λ id. (refl, (refl, (refl, tt)));
  gid = λ id. (refl, (refl, (refl, tt)));
  group = λ id. (refl, tt);
  exec = λ file. refl;
}

stays_join : (q : Setting) (seat : Seat) (move : Move) → IsStaying move → OfJoin (Stays q seat) move
stays_join q seat (JoinSpace n) staying = absurd staying
stays_join q seat _ staying = tt

stays_after : (q : Setting) (seat : Seat) (o : Option Call) → ((call : Call) → o ≡ Some call → Stays q seat call)
    → (seat_after q seat o).space ≡ seat.space
stays_after q seat None stays = refl
stays_after q seat (Some call) stays = stays call refl

move_stays : (q : Setting) (seat : Seat) (move : Move) → IsStaying move → (after q seat move).space ≡ seat.space
move_stays q seat move staying =
    stays_after q seat (call_of q seat move)
    (λ call is. (call_has (Stays q seat) q seat move call (stays_of q seat) (stays_join q seat move staying) is).0)

pub first_moves_stay : FirstMovesStay
unfolding FirstMovesStay
first_moves_stay q seat =
    let Same : Choice → Type 0 = λ first. (after_moves q seat (Raise ∷ first)).space ≡ seat.space in
    let raised : Seat = after q seat Raise in
    let up : raised.space ≡ seat.space = move_stays q seat Raise tt in
    All-cons Same [] ((BecomeZero ∷ []) ∷ (BecomeSought ∷ []) ∷ []) up
    (All-cons Same (BecomeZero ∷ []) ((BecomeSought ∷ []) ∷ []) (move_stays q raised BecomeZero tt ∙ up)
    (All-cons Same (BecomeSought ∷ []) [] (move_stays q raised BecomeSought tt ∙ up) (All-nil Same)))

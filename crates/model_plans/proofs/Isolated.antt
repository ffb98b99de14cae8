-- What is found depends on the spaces and on the members' own seats and filters alone.
use Rattle.std.proofs.Common.{◌≡◌, ℕ, Bool, true, false, List, [], ◌∷◌, Option, None, Some, option_map, if◌then◌else◌, refl, sym, ap, ◌∙◌}
use Rattle.std.specs.Prelude.{find, All}
use Rattle.std.specs.Option.{option_or}
use Rattle.std.proofs.lemmas.List.Elements.{All-head, All-tail, All-weaker}
use Rattle.cm_filter.specs.Filters.{Filter}
use Rattle.cm_filter.specs.declared.kind.CallKind.{CallKind}
use Rattle.model_cred.specs.Process.{Process, State, process_at}
use Rattle.model_cred.specs.Right.{Right}
use Rattle.model_cred.specs.Space.{Spaces}
use Rattle.model_cred.specs.World.{World}
use Rattle.model_run.specs.Holds.{process_holds, holds_right, holds_for}
use Rattle.model_run.specs.Later.{is_member}
use Rattle.model_run.specs.Own.{filter_in, filter_of, permitted_under}
use Rattle.model_plans.specs.Move.{Seat, seat_of, Setting}
use Rattle.model_plans.specs.PlanRun.{Found}
use Rattle.model_plans.specs.Walk.{found_at, found_for, found_among, found_now, walked}
use Rattle.model_plans.specs.Firsts.{WalkFindsTheSame}
use Rattle.model_plans.specs.Shortcuts.{AreSeatedAlike, MembersSeatsDecide}
use Rattle.model_plans.proofs.Lists.{first_same}
use Rattle.model_plans.proofs.Holders.{all_members}
use Rattle.model_plans.proofs.Nested.{walk_finds_the_same}

-- two tests that agree on a list find the same in it
find_same : {A : Type 0} (f g : A → Bool) (xs : List A) → All (λ x. f x ≡ g x) xs → find f xs ≡ find g xs
find_same f g [] all = refl
find_same f g (x ∷ xs) all =
    ap (λ (b : Bool). if b then Some x else find f xs) (All-head (λ y. f y ≡ g y) x xs all)
    ∙ ap (λ o. if g x then Some x else o) (find_same f g xs (All-tail (λ y. f y ≡ g y) x xs all))

-- ---- by a seat
-- whoever is at an optional seat holds the right
holds_seat : Spaces → Right → Option Seat → Bool
holds_seat spaces right None = false
holds_seat spaces right (Some seat) = holds_right spaces seat.space seat.cred right

holds_by_seat : (spaces : Spaces) (right : Right) (o : Option Process) → holds_for spaces o right ≡ holds_seat spaces right (option_map seat_of o)
unfolding holds_seat
holds_by_seat spaces right None = refl
holds_by_seat spaces right (Some p) = refl

-- what is found from an optional seat
found_seat : Setting → ℕ → Option Seat → Option Found
found_seat q pid None = None
found_seat q pid (Some seat) = found_at q pid seat

-- the setting under a filter
abbrev under : (CallKind → Bool) → World → Spaces → Right → Filter → Setting
under permitted w spaces right filter = record { files = w.files; spaces = spaces; permitted = permitted_under filter permitted; right = right }

found_by_seat : (permitted : CallKind → Bool) (w : World) (s : State) (right : Right) (pid : ℕ) (o : Option Process)
    → found_for permitted w s right pid o ≡ found_seat (under permitted w s.spaces right (filter_in o)) pid (option_map seat_of o)
unfolding found_seat
found_by_seat permitted w s right pid None = refl
found_by_seat permitted w s right pid (Some p) = refl

module _ (permitted : CallKind → Bool) (w : World) (s t : State) (members : List ℕ) (right : Right) (same : s.spaces ≡ t.spaces)
    (alike : AreSeatedAlike s t members) where
  holds_alike : (pid : ℕ) → is_member members pid ≡ true → process_holds s pid right ≡ process_holds t pid right
  holds_alike pid member =
      holds_by_seat s.spaces right (process_at s.processes pid)
      ∙ ap (holds_seat s.spaces right) (alike pid member).0
      ∙ ap (λ (spaces : Spaces). holds_seat spaces right (option_map seat_of (process_at t.processes pid))) same
      ∙ sym (holds_by_seat t.spaces right (process_at t.processes pid))

  found_alike : (pid : ℕ) → is_member members pid ≡ true
      → found_for permitted w s right pid (process_at s.processes pid) ≡ found_for permitted w t right pid (process_at t.processes pid)
  found_alike pid member =
      found_by_seat permitted w s right pid (process_at s.processes pid)
      ∙ ap (found_seat (under permitted w s.spaces right (filter_of s pid)) pid) (alike pid member).0
      ∙ ap (λ (spaces : Spaces). found_seat (under permitted w spaces right (filter_of s pid)) pid (option_map seat_of (process_at t.processes pid))) same
      ∙ ap (λ (filter : Filter). found_seat (under permitted w t.spaces right filter) pid (option_map seat_of (process_at t.processes pid)))
      (alike pid member).1
      ∙ sym (found_by_seat permitted w t right pid (process_at t.processes pid))

  walked_alike : walked permitted w s members right ≡ walked permitted w t members right
  unfolding walked
  walked_alike =
      let now : found_now s members right ≡ found_now t members right
      = ap (option_map (λ pid. record { run = []; holder = pid }))
      (find_same (λ pid. process_holds s pid right) (λ pid. process_holds t pid right) members
      (All-weaker (λ pid. is_member members pid ≡ true) (λ pid. process_holds s pid right ≡ process_holds t pid right) holds_alike members
      (all_members members))) in
      let moved : found_among permitted w s right members ≡ found_among permitted w t right members
      = first_same (λ pid. found_for permitted w s right pid (process_at s.processes pid))
      (λ pid. found_for permitted w t right pid (process_at t.processes pid)) members
      (All-weaker (λ pid. is_member members pid ≡ true)
      (λ pid. found_for permitted w s right pid (process_at s.processes pid) ≡ found_for permitted w t right pid (process_at t.processes pid))
      found_alike members (all_members members)) in
      ap (λ o. option_or o (found_among permitted w s right members)) now ∙ ap (option_or (found_now t members right)) moved

pub members_seats_decide : MembersSeatsDecide
unfolding MembersSeatsDecide WalkFindsTheSame
members_seats_decide permitted w s t members right same alike =
    walk_finds_the_same permitted w s members right
    ∙ walked_alike permitted w s t members right same alike
    ∙ sym (walk_finds_the_same permitted w t members right)

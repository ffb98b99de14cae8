-- The calls of a walk leave the groups as they were.
use Rattle.std.proofs.Common.{◌≡◌, ℕ, ◌==◌, Bool, true, false, if◌then◌else◌, refl, List}
use Rattle.std.specs.Prelude.{not, Some}
use Rattle.cm_machine.proofs.Groups.{uids_keep, gids_keep}
use Rattle.cm_plans.specs.Moves.{IsOfWalk}
use Rattle.model_cred.specs.Call.{Call, SetUid, SetReUid, SetResUid, SetGid, SetReGid, SetResGid, CapSet, SetNs, Exec}
use Rattle.model_cred.specs.Space.{space_of}
use Rattle.model_plans.specs.Move.{Setting, Seat}
use Rattle.model_plans.specs.Walk.{seat_after}
use Rattle.model_rules.specs.Answer.{Answer}
use Rattle.model_rules.specs.CapCalls.{may_capset}
use Rattle.model_rules.specs.Caps.{cap_sys_admin}
use Rattle.model_rules.specs.Exec.{may_exec, would_lack, own_sets, run_file}
use Rattle.model_rules.specs.Power.{has_over}

answer_of_two : (b : Bool) (x y : Answer) (groups : List ℕ) → x.cred.groups ≡ groups → y.cred.groups ≡ groups
    → (if b then x else y).cred.groups ≡ groups
answer_of_two true x y groups first second = first
answer_of_two false x y groups first second = second

pub groups_stay : (q : Setting) (seat : Seat) (call : Call) → IsOfWalk q.spaces call
    → (seat_after q seat (Some call)).cred.groups ≡ seat.cred.groups
groups_stay q seat (SetUid id) _ = uids_keep (space_of q.spaces seat.space) seat.cred _
groups_stay q seat (SetReUid r e) _ = uids_keep (space_of q.spaces seat.space) seat.cred _
groups_stay q seat (SetResUid r e v) _ = uids_keep (space_of q.spaces seat.space) seat.cred _
groups_stay q seat (SetGid id) _ = gids_keep seat.cred _
groups_stay q seat (SetReGid r e) _ = gids_keep seat.cred _
groups_stay q seat (SetResGid r e v) _ = gids_keep seat.cred _
groups_stay q seat (CapSet e p i) _ = answer_of_two (may_capset seat.cred e p i) _ _ seat.cred.groups refl refl
groups_stay q seat (SetNs n) _ =
    answer_of_two (n == seat.space) _ _ seat.cred.groups refl
    (answer_of_two (not (has_over q.spaces seat.space seat.cred cap_sys_admin n)) _ _ seat.cred.groups refl refl)
groups_stay q seat (Exec file) _ =
    answer_of_two (not (may_exec (space_of q.spaces seat.space) seat.cred q.files file)) _ _ seat.cred.groups refl
    (answer_of_two (would_lack seat.cred (own_sets q.spaces seat.space seat.cred (run_file q.files file))) _ _ seat.cred.groups refl refl)
groups_stay q seat _ wrong = absurd wrong

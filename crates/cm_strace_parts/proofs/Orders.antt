-- The orders of processes and of descriptors.
use Rattle.std.proofs.Common.{◌≡◌, ℕ, Bool, true, false, List, map, refl, arith}
use Rattle.std.proofs.lemmas.Bool.{cond-false}
use Rattle.cm_ordered.specs.Order.{Ascends, before_by, others_by}
use Rattle.cm_ordered.proofs.Order.{map_ascends}
use Rattle.cm_ordered.proofs.Undoing.{others_changed}
use Rattle.cm_state.proofs.Places.{rises}
use Rattle.cm_state.specs.Places.{pid_of}
use Rattle.cm_strace_parts.specs.Lists.{Fd, fd_before}
use Rattle.model_cred.specs.Process as model
use Rattle.model_cred.specs.Process.{Process}
use Rattle.model_strace.specs.Parts.{Task, first_task, is_task, task_before, moved_task, sharing_task}

-- ---- processes
-- a change of its user namespace leaves a process in its place
pub moved_keeps : (pid space : ℕ) (x y : Task) → task_before (moved_task pid space x) (moved_task pid space y)
    ≡ task_before x y
moved_keeps pid space x y = grind arith

-- the same of a birth that it gives
pub sharing_keeps : (pid : ℕ) (shares : Bool) (x y : Task) → task_before (sharing_task pid shares x)
    (sharing_task pid shares y) ≡ task_before x y
sharing_keeps pid shares x y = grind arith

-- the other ones stay
pub moved_others : (pid space : ℕ) (ts : List Task)
    → others_by (λ (t : Task). t.pid) pid (map (moved_task pid space) ts) ≡ others_by (λ (t : Task). t.pid) pid ts
moved_others pid space ts =
    others_changed (λ (t : Task). t.pid) pid (moved_task pid space) ts (λ t. grind arith)
    (λ t h. cond-false (is_task pid t) _ t h)

pub sharing_others : (pid : ℕ) (shares : Bool) (ts : List Task)
    → others_by (λ (t : Task). t.pid) pid (map (sharing_task pid shares) ts) ≡ others_by (λ (t : Task). t.pid) pid ts
sharing_others pid shares ts =
    others_changed (λ (t : Task). t.pid) pid (sharing_task pid shares) ts (λ t. grind arith)
    (λ t h. cond-false (is_task pid t) _ t h)

-- the processes of a world's start ascend
pub first_ascends : (ps : List Process) → model.Ascends ps → Ascends task_before (map first_task ps)
first_ascends ps up = map_ascends (before_by pid_of) task_before first_task ps (λ p q. refl) (rises ps up)

-- ---- the descriptors
-- of two in order, the other one doesn't come first
pub fd_apart : (x y : Fd) → fd_before x y ≡ true → fd_before y x ≡ false
fd_apart x y h = grind (arith, h)

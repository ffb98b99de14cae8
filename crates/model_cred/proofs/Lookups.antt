-- Which process a pid finds, and which pids are alive, with one process in the place of another, with one more, and with
-- one less.
use Rattle.std.proofs.Common.{◌≡◌, ◌≢◌, ℕ, ◌==◌, ◌||◌, Bool, true, false, cond, List, [], ◌∷◌, Some, None, refl}
use Rattle.std.proofs.Common.{arith, option_map}
use Rattle.model_cred.specs.IdMap.{is_the}
use Rattle.model_cred.specs.Process.{Process, process_at, put_process, insert_process, is_alive, after_exit, without_process}

-- ---- the process of a pid
-- a process that is found by a pid has it
pub pid_of_found : (processes : List Process) (pid : ℕ) (p : Process) → process_at processes pid ≡ Some p → p.pid ≡ pid
pid_of_found [] pid p is = absurd (cc)
pid_of_found (q ∷ processes) pid p is = grind (arith, is, pid_of_found processes pid p)

-- a pid is that of the first process, or alive among the others
pub alive_cons : (p : Process) (processes : List Process) (pid : ℕ)
    → is_alive (p ∷ processes) pid ≡ (p.pid == pid || is_alive processes pid)
alive_cons p processes pid = grind arith

-- ---- one in the place of another
-- the process that is put is found
pub at_put_same : (new p : Process) (processes : List Process) → process_at processes new.pid ≡ Some p
    → process_at (put_process new processes) new.pid ≡ Some new
at_put_same new p [] is = absurd (cc)
at_put_same new p (q ∷ processes) is = grind (arith, is, at_put_same new p processes)

-- the others are found as before
pub at_put_other : (new : Process) (processes : List Process) (pid : ℕ) → pid ≢ new.pid
    → process_at (put_process new processes) pid ≡ process_at processes pid
at_put_other new [] pid other = refl
at_put_other new (q ∷ processes) pid other = grind (arith, other, at_put_other new processes pid other)

-- ---- one more
-- the process that is born is found
pub at_insert_same : (new : Process) (processes : List Process) → is_alive processes new.pid ≡ false
    → process_at (insert_process new processes) new.pid ≡ Some new
at_insert_same new [] dead = grind arith
at_insert_same new (q ∷ processes) dead = grind (arith, dead, at_insert_same new processes)

-- the others are found as before
pub at_insert_other : (new : Process) (processes : List Process) (pid : ℕ) → pid ≢ new.pid
    → process_at (insert_process new processes) pid ≡ process_at processes pid
at_insert_other new [] pid other = grind (arith, other)
at_insert_other new (q ∷ processes) pid other = grind (arith, other, at_insert_other new processes pid other)

-- its pid is alive, and the others are as before
pub alive_inserted : (new : Process) (processes : List Process) (pid : ℕ)
    → is_alive (insert_process new processes) pid ≡ (new.pid == pid || is_alive processes pid)
alive_inserted new [] pid = grind arith
alive_inserted new (q ∷ processes) pid = grind (arith, alive_inserted new processes pid)

-- ---- one less
-- The processes are one but for the forebear.
pub record IsLike (p q : Process) : Type 0 where
  pub pid : p.pid ≡ q.pid
  pub space : p.space ≡ q.space
  pub cred : p.cred ≡ q.cred
  pub filter : p.filter ≡ q.filter

-- an exit leaves of another process all but its forebear
pub like_after_exit : (gone p : Process) → IsLike p (after_exit gone p)
like_after_exit gone p =
    elim (is_the p.forebear gone.pid) as (λ (b : Bool). IsLike p (cond b (record p { forebear = gone.forebear }) p)) [
      | true ↦ record { pid = refl; space = refl; cred = refl; filter = refl }
      | false ↦ record { pid = refl; space = refl; cred = refl; filter = refl }
    ]

-- who exited isn't found
pub at_without_gone : (gone : Process) (processes : List Process)
    → process_at (without_process gone processes) gone.pid ≡ None
at_without_gone gone [] = refl
at_without_gone gone (q ∷ processes) = grind (arith, at_without_gone gone processes, (like_after_exit gone q).pid)

-- the others are found as the exit leaves them
pub at_without_other : (gone : Process) (processes : List Process) (pid : ℕ) → pid ≢ gone.pid
    → process_at (without_process gone processes) pid ≡ option_map (after_exit gone) (process_at processes pid)
at_without_other gone [] pid other = refl
at_without_other gone (q ∷ processes) pid other =
    grind (arith, other, at_without_other gone processes pid other, (like_after_exit gone q).pid)

-- Processes whose pids ascend, by their places.
use Rattle.std.proofs.Common.{◌==◌, not, filter, find, cond, ◌∙◌, ◌≡◌, ◌≢◌, true, false, ℕ, zero, suc, ◌<◌, subst, length}
use Rattle.std.proofs.Common.{List, [], ◌∷◌, Option, Some, None, refl, sym, ap, arith, get_or, slice_get, slice_set}
use Rattle.std.specs.Prelude.{IfSome, IfNone}
use Rattle.std.specs.List.{remove}
use Rattle.cm_ordered.specs.Order as ordered
use Rattle.cm_ordered.specs.Order.{AllSay, StandsAt, before_by, has_number, put_by}
use Rattle.cm_ordered.proofs.Order as ordered_proofs
use Rattle.cm_ordered.proofs.Order.{all_along, got, keeps_others, removed_ascends, stands_there}
use Rattle.cm_state.specs.Places.{pid_at, pid_of}
use Rattle.model_cred.specs.Process.{Process, State, Ascends, process_at, put_process, is_alive, insert_process}

-- the pid at the place of a process is its pid
pub pid_of_at : (ps : List Process) (i : ℕ) (p : Process) → i < length ps → p ≡ get_or ps i p → pid_at ps i ≡ p.pid
pid_of_at [] i p h is = absurd (omega arith)
pid_of_at (q ∷ ps) zero p h is = ap (λ (r : Process). r.pid) (sym is)
pid_of_at (q ∷ ps) (suc i) p h is = pid_of_at ps i p (omega arith) is

-- the process at a place
pub get_of_at : (ps : List Process) (i : ℕ) (p : Process) → i < length ps → p ≡ get_or ps i p → slice_get ps i ≡ Some p
get_of_at [] i p h is = absurd (omega arith)
get_of_at (q ∷ ps) zero p h is = ap Some (sym is)
get_of_at (q ∷ ps) (suc i) p h is = get_of_at ps i p (omega arith) is

-- so it is where its pid was found, in a list that is a state's
pub process_found : (s : State) (processes list : List Process) (at pid : ℕ) (p : Process) → list ≡ processes
    → processes ≡ s.processes → at < length processes
    → slice_get processes at ≡ process_at processes pid → p ≡ get_or list at p → process_at s.processes pid ≡ Some p
process_found s processes list at pid p same is low found there =
    let here : p ≡ get_or processes at p = subst (λ (l : List Process). p ≡ get_or l at p) same there in
    subst (λ (l : List Process). process_at l pid ≡ Some p) is (sym found ∙ get_of_at processes at p low here)

-- the first pid is below each later one
pub head_below : (p : Process) (ps : List Process) → Ascends (p ∷ ps) → (j : ℕ) → j < length ps → p.pid < pid_at ps j
head_below p [] up j h = absurd (omega arith)
head_below p (q ∷ qs) up zero h = up.0
head_below p (q ∷ qs) up (suc j) h = let rest : q.pid < pid_at qs j = head_below q qs up.1 j (omega arith) in omega (arith, up.0)

-- without its first process the list ascends
pub tail_ascends : (p : Process) (ps : List Process) → Ascends (p ∷ ps) → Ascends ps
tail_ascends p [] up = tt
tail_ascends p (q ∷ qs) up = up.1

-- pids ascend by their places
pub ascending : (ps : List Process) → Ascends ps → (i j : ℕ) → i < j → j < length ps → pid_at ps i < pid_at ps j
ascending (p ∷ ps) up zero (suc j) lt h = head_below p ps up j (omega arith)
ascending (p ∷ ps) up (suc i) (suc j) lt h = ascending ps (tail_ascends p ps up) i j (omega arith) (omega arith)
ascending _ up _ _ lt h = absurd (omega arith)

-- the process that is found by its pid is the one at the place of that pid
pub found_at : (ps : List Process) → Ascends ps → (i pid : ℕ) → i < length ps → pid_at ps i ≡ pid → slice_get ps i ≡ process_at ps pid
found_at [] up i pid h is = absurd (omega arith)
found_at (p ∷ ps) up zero pid h is = grind (arith, is)
found_at (p ∷ ps) up (suc i) pid h is =
    let later : p.pid < pid_at ps i = head_below p ps up i (omega arith) in
    let rest : slice_get ps i ≡ process_at ps pid = found_at ps (tail_ascends p ps up) i pid (omega arith) is in
    grind (arith, rest, later, is)

-- no process is found by a pid that stands at no place
pub not_found : (ps : List Process) (pid : ℕ) → ((k : ℕ) → k < length ps → pid_at ps k ≢ pid) → process_at ps pid ≡ None
not_found [] pid h = refl
not_found (p ∷ ps) pid h =
    let here : p.pid ≢ pid = h 0 (omega arith) in
    let rest : process_at ps pid ≡ None = not_found ps pid (λ k lt. h (suc k) (omega arith)) in
    grind (arith, rest, here)

-- another process with the pid of the one at its place keeps the order
pub put_ascends : (ps : List Process) (i : ℕ) (new : Process) → Ascends ps → i < length ps → new.pid ≡ pid_at ps i → Ascends (slice_set ps i new)
put_ascends (p ∷ []) (suc i) new up h is = absurd (omega arith)
put_ascends (p ∷ q ∷ qs) zero new up h is = (omega (arith, up.0, is), up.1)
put_ascends (p ∷ q ∷ qs) (suc zero) new up h is = (omega (arith, up.0, is), put_ascends (q ∷ qs) zero new up.1 (omega arith) is)
put_ascends (p ∷ q ∷ qs) (suc (suc i)) new up h is = (up.0, put_ascends (q ∷ qs) (suc i) new up.1 (omega arith) is)
put_ascends _ _ new up h is = tt

-- putting a process back writes at the place of its pid
pub put_at : (ps : List Process) (i : ℕ) (new : Process) → Ascends ps → i < length ps → new.pid ≡ pid_at ps i → put_process new ps ≡ slice_set ps i new
put_at [] i new up h is = absurd (omega arith)
put_at (p ∷ ps) zero new up h is = grind (arith, is)
put_at (p ∷ ps) (suc i) new up h is =
    let later : p.pid < pid_at ps i = head_below p ps up i (omega arith) in
    let rest : put_process new ps ≡ slice_set ps i new = put_at ps i new (tail_ascends p ps up) (omega arith) is in
    grind (arith, rest, later, is)

-- the pid at a place that was written
pub pid_of_put : (ps : List Process) (i : ℕ) (new : Process) → i < length ps → pid_at (slice_set ps i new) i ≡ new.pid
pid_of_put [] i new h = absurd (omega arith)
pid_of_put (p ∷ ps) zero new h = refl
pid_of_put (p ∷ ps) (suc i) new h = pid_of_put ps i new (omega arith)

-- ---- as a list by numbers
rises_first : (p : Process) (ps : List Process) → Ascends (p ∷ ps) → AllSay (before_by pid_of p) true ps
rises_first p [] up = tt
rises_first p (q ∷ ps) up =
    let first : before_by pid_of p q ≡ true = grind (arith, up.0) in (
      first,
      all_along (before_by pid_of q) (before_by pid_of p) true true ps (λ r h. grind (arith, first, h))
          (rises_first q ps up.1),
    )

-- processes whose pids ascend are a list by numbers
pub rises : (ps : List Process) → Ascends ps → ordered.Ascends (before_by pid_of) ps
rises [] up = tt
rises (p ∷ ps) up = (rises_first p ps up, rises ps (tail_ascends p ps up))

-- and the other way round
pub falls : (ps : List Process) → ordered.Ascends (before_by pid_of) ps → Ascends ps
falls (p ∷ q ∷ ps) up = (grind (arith, up.0.0), falls (q ∷ ps) up.1)
falls _ up = tt

-- the process of a pid is what is found by its number
pub is_found : (ps : List Process) (pid : ℕ) → process_at ps pid ≡ find (has_number pid_of pid) ps
is_found [] pid = refl
is_found (p ∷ ps) pid = ap (λ (r : Option Process). cond (p.pid == pid) (Some p) r) (is_found ps pid)

-- where a place is found
pub found_there : (r : Option ℕ) (ps : List Process) (pid : ℕ) → IfSome r (λ at. StandsAt (has_number pid_of pid) ps at)
    → IfSome r (λ at. at < length ps) → IfSome r (λ at. (at < length ps) × (slice_get ps at ≡ process_at ps pid))
found_there None ps pid here within = tt
found_there (Some at) ps pid here within =
    (within, got (has_number pid_of pid) ps at here ∙ sym (is_found ps pid))

-- and where none is
pub none_there : (r : Option ℕ) (ps : List Process) (pid : ℕ) → IfNone r (AllSay (has_number pid_of pid) false ps)
    → IfNone r (process_at ps pid ≡ None)
none_there None ps pid none = is_found ps pid ∙ ordered_proofs.not_found (has_number pid_of pid) ps none
none_there (Some at) ps pid none = tt

-- where a pid isn't alive none stands
pub none_alive : (ps : List Process) (pid : ℕ) → is_alive ps pid ≡ false → AllSay (has_number pid_of pid) false ps
none_alive [] pid dead = tt
none_alive (p ∷ ps) pid dead =
    let apart : has_number pid_of pid p ≡ false = grind (arith, dead) in
    (apart, none_alive ps pid (grind (arith, dead, apart)))

-- a process whose pid isn't alive is put as a thing in its place
pub put_fresh : (new : Process) (ps : List Process) → AllSay (has_number pid_of new.pid) false ps
    → put_by pid_of new ps ≡ insert_process new ps
put_fresh new [] none = refl
put_fresh new (p ∷ ps) none =
    let rest = put_fresh new ps none.1 in
    let apart = none.0 in
    grind (arith, rest, apart)

-- without the process at a place the list is that of the processes with other pids
pub remove_at : (ps : List Process) (at : ℕ) (gone : Process) → slice_get ps at ≡ Some gone → Ascends ps
    → remove ps at ≡ filter (λ p. not (p.pid == gone.pid)) ps
remove_at ps at gone is up =
    keeps_others (has_number pid_of gone.pid) ps at (stands_there pid_of ps at gone is (rises ps up))

-- and it ascends
pub remove_ascends : (ps : List Process) (at : ℕ) → Ascends ps → Ascends (remove ps at)
remove_ascends ps at up = falls (remove ps at) (removed_ascends (before_by pid_of) ps at (rises ps up))

-- Among processes by ascending pid, each is the one that its pid finds.
use Rattle.std.proofs.Common.{◌≡◌, ℕ, suc, ◌<◌, ◌≤◌, ◌==◌, false, List, [], ◌∷◌, Some, refl, arith, All}
use Rattle.std.proofs.lemmas.Bool.{cond-true, eq-eqb}
use Rattle.std.proofs.lemmas.List.Elements.{All-nil, All-cons, All-weaker}
use Rattle.model_cred.proofs.Lookups.{alive_cons}
use Rattle.model_cred.proofs.Orders.{AscendsFrom, ascends_forth}
use Rattle.model_cred.specs.Process.{Process, Ascends, process_at, is_alive}

-- a pid below all of them is not alive
pub dead_below : (low pid : ℕ) (processes : List Process) → AscendsFrom low processes → pid < low → is_alive processes pid ≡ false
dead_below low pid [] ascends below = refl
dead_below low pid (p ∷ processes) ascends below =
    let above : low ≤ p.pid = ascends.0 in
    let others : is_alive processes pid ≡ false = dead_below (suc p.pid) pid processes ascends.1 (omega arith) in
    grind (arith, alive_cons p processes pid, above, below, others)

-- the process is the one that its pid finds
abbrev pub IsFound : List Process → Process → Type 0
IsFound processes p = process_at processes p.pid ≡ Some p

-- also after another one with a lower pid
found_after : (p : Process) (processes : List Process) (q : Process) → is_alive processes p.pid ≡ false → IsFound processes q → IsFound (p ∷ processes) q
found_after p processes q dead found = grind (arith, dead, found)

found_from : (low : ℕ) (processes : List Process) → AscendsFrom low processes → All (IsFound processes) processes
found_from low [] ascends = All-nil (IsFound [])
found_from low (p ∷ processes) ascends =
    let dead : is_alive processes p.pid ≡ false = dead_below (suc p.pid) p.pid processes ascends.1 (omega arith) in
    All-cons (IsFound (p ∷ processes)) p processes
    (cond-true (p.pid == p.pid) (Some p) (process_at processes p.pid) (eq-eqb p.pid p.pid refl))
    (All-weaker (IsFound processes) (IsFound (p ∷ processes)) (λ q found. found_after p processes q dead found) processes
    (found_from (suc p.pid) processes ascends.1))

pub each_found : (processes : List Process) → Ascends processes → All (IsFound processes) processes
each_found processes ascends = found_from 0 processes (ascends_forth processes ascends)

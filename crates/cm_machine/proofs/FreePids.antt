-- The least pid that isn't alive, found by going through the pids as they ascend.
use Rattle.std.proofs.Common.{◌≡◌, ◌≢◌, ℕ, zero, suc, ◌<◌, ◌≤◌, ◌+◌, ◌-◌, ◌==◌, true, false, length, List, [], ◌∷◌}
use Rattle.std.proofs.Common.{Option, Some, None, refl, sym, ◌∙◌, ap, inl, inr, arith}
use Rattle.std.specs.Prelude.{nat_le, is_some, SomeIff}
use Rattle.std.proofs.lemmas.Bool.{cases_Bool, cases_order, cases_lt, cond-true, cond-false, cond_both, eq-eqb, le-leb, leb-true, and_parts, and_from}
use Rattle.cm_state.proofs.Places.{ascending, not_found}
use Rattle.cm_state.specs.Places.{pid_at}
use Rattle.model_cred.specs.Process.{Process, State, Ascends, as_pid, process_at, is_alive, is_pid}
use Rattle.model_laws.proofs.Pids.{free_is_least}
use Rattle.model_laws.specs.Owns.{IsLeastFree}
use Rattle.model_run.specs.Ruling.{free_pid}

-- who stands at a place is alive
pub alive_at : (ps : List Process) (i pid : ℕ) → i < length ps → pid_at ps i ≡ pid → is_alive ps pid ≡ true
alive_at [] i pid h is = absurd (omega arith)
alive_at (p ∷ ps) zero pid h is = ap is_some (cond-true (p.pid == pid) (Some p) (process_at ps pid) (eq-eqb p.pid pid is))
alive_at (p ∷ ps) (suc i) pid h is =
    cond_both (p.pid == pid) (Some p) (process_at ps pid) (λ (o : Option Process). is_some o ≡ true)
    (λ same. refl) (λ other. alive_at ps i pid (omega arith) is)

-- the first pids are the numbers from one on
abbrev pub FirstPids : List Process → ℕ → Type 0
FirstPids ps n = (k : ℕ) → k < n → pid_at ps k ≡ k + 1

-- so these are alive
pub first_alive : (ps : List Process) (n next : ℕ) → next ≡ n + 1 → FirstPids ps n → n ≤ length ps → (pid : ℕ) → 1 ≤ pid → pid < next → is_alive ps pid ≡ true
first_alive ps n next is first le pid low high =
    let here : pid_at ps (pid - 1) ≡ (pid - 1) + 1 = first (pid - 1) (omega arith) in
    alive_at ps (pid - 1) pid (omega arith) (omega (arith, here))

-- and the next number isn't, where it isn't the next pid
pub next_free : (ps : List Process) (n next : ℕ) → next ≡ n + 1 → Ascends ps → FirstPids ps n → (n < length ps → (1 ≤ pid_at ps n) × (pid_at ps n ≢ next))
    → is_alive ps next ≡ false
next_free ps n next is up first other = ap is_some (not_found ps next apart)
  where
    low : n < length ps → n + 1 ≤ pid_at ps n
    low lt =
        elim (cases_lt 0 n) [
          | inl more ↦
              let before : pid_at ps (n - 1) ≡ (n - 1) + 1 = first (n - 1) (omega arith) in
              let rises : pid_at ps (n - 1) < pid_at ps n = ascending ps up (n - 1) n (omega arith) lt in
              omega arith
          | inr none ↦ let positive : 1 ≤ pid_at ps n = (other lt).0 in omega arith
        ]

    apart : (k : ℕ) → k < length ps → pid_at ps k ≢ next
    apart k lt here =
        elim (cases_order k n) [
          | inl same ↦ (other (omega arith)).1 (ap (pid_at ps) (sym same) ∙ here)
          | inr (inl before) ↦ let is_k : pid_at ps k ≡ k + 1 = first k before in absurd (omega arith)
          | inr (inr later) ↦
              let rises : pid_at ps n < pid_at ps k = ascending ps up n k later lt in
              let least : n + 1 ≤ pid_at ps n = low (omega arith) in
              absurd (omega arith)
        ]

-- the numbers that are pids
pid_is : (n : ℕ) → 1 ≤ n → n ≤ 4194304 → is_pid n ≡ true
pid_is n low high = and_from (nat_le 1 n) (nat_le n 4194304) (le-leb 1 n low) (le-leb n 4194304 high)

pid_bounds : (n : ℕ) → is_pid n ≡ true → (1 ≤ n) × (n ≤ 4194304)
pid_bounds n is = let parts = and_parts (nat_le 1 n) (nat_le n 4194304) is in (leb-true 1 n parts.0, leb-true n 4194304 parts.1)

-- a number after living pids that isn't one is the least free one
least_is : (s : State) (n : ℕ) → 1 ≤ n → ((pid : ℕ) → 1 ≤ pid → pid < n → is_alive s.processes pid ≡ true) → is_alive s.processes n ≡ false
    → is_pid (free_pid s) ≡ true → n ≡ free_pid s
least_is s n low before free a_pid =
    let least : IsLeastFree s (free_pid s) = free_is_least s in
    let bounds : (1 ≤ free_pid s) × (free_pid s ≤ 4194304) = pid_bounds (free_pid s) a_pid in
    elim (cases_order n (free_pid s)) [
      | inl same ↦ same
      | inr (inl below) ↦
          let alive : is_alive s.processes n ≡ true = least.least n (pid_is n low (omega (arith, bounds.1))) below in
          absurd (let wrong : true ≡ false = sym alive ∙ free in cc)
      | inr (inr above) ↦
          let alive : is_alive s.processes (free_pid s) ≡ true = before (free_pid s) bounds.0 above in
          absurd (let wrong : true ≡ false = sym alive ∙ least.fresh a_pid in cc)
    ]

-- where the least free one is no pid the number isn't one either
none_is : (s : State) (n : ℕ) → 1 ≤ n → is_alive s.processes n ≡ false → is_pid (free_pid s) ≡ false → 4194304 < n
none_is s n low free no_pid =
    elim (cases_lt 4194304 n) [
      | inl past ↦ past
      | inr within ↦
          let alive : is_alive s.processes n ≡ true = (free_is_least s).none no_pid n (pid_is n low within) in
          absurd (let wrong : true ≡ false = sym alive ∙ free in cc)
    ]

-- the pid of that number is the least free one
pub free_option : (s : State) (n : ℕ) (o : Option ℕ) → 1 ≤ n → ((pid : ℕ) → 1 ≤ pid → pid < n → is_alive s.processes pid ≡ true)
    → is_alive s.processes n ≡ false → SomeIff o ((1 ≤ n) × (n ≤ 4194304)) n → o ≡ as_pid (free_pid s)
free_option s n o low before free is =
    elim (cases_Bool (is_pid (free_pid s))) [
      | inl a_pid ↦
          let same : n ≡ free_pid s = least_is s n low before free a_pid in
          some o is same (omega (arith, same, (pid_bounds (free_pid s) a_pid).1))
          ∙ sym (cond-true (is_pid (free_pid s)) (Some (free_pid s)) None a_pid)
      | inr no_pid ↦ none o is (none_is s n low free no_pid) ∙ sym (cond-false (is_pid (free_pid s)) (Some (free_pid s)) None no_pid)
    ]
  where
    some : (q : Option ℕ) → SomeIff q ((1 ≤ n) × (n ≤ 4194304)) n → n ≡ free_pid s → n ≤ 4194304 → q ≡ Some (free_pid s)
    some None nothing same within = absurd (nothing (low, within))
    some (Some m) found same within = ap Some (found.1 ∙ same)

    none : (q : Option ℕ) → SomeIff q ((1 ≤ n) × (n ≤ 4194304)) n → 4194304 < n → q ≡ None
    none None nothing past = refl
    none (Some m) found past = let within : n ≤ 4194304 = found.0.1 in absurd (omega arith)

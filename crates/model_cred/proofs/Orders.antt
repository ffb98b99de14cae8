-- The order of pids, and what holds of each process, with one process in the place of another, with one more, and with
-- one less.
use Rattle.std.proofs.Common.{◌≡◌, ◌≢◌, ℕ, suc, ◌<◌, ◌≤◌, ◌==◌, not, Bool, true, false, cond, List, [], ◌∷◌, map, filter}
use Rattle.std.proofs.Common.{Option, Some, if◌then◌else◌, sym, ◌∙◌, inl, inr, subst, arith}
use Rattle.std.specs.Prelude.{nat_lt, All}
use Rattle.std.proofs.lemmas.Bool.{cases_Bool, eqb-true, eqb-false, ltb-true, ltb-false, cond-true, cond-false, or_parts}
use Rattle.std.proofs.lemmas.List.Elements.{All-head, All-tail, All-cons, All-filter, All-map, All-weaker}
use Rattle.model_cred.specs.IdMap.{is_the}
use Rattle.model_cred.specs.Process.{Process, Ascends, process_at, put_process, insert_process, is_alive}
use Rattle.model_cred.specs.Process.{after_exit, without_process}
use Rattle.model_cred.proofs.Lookups.{alive_cons, like_after_exit}

-- the pids ascend from a number on
abbrev pub AscendsFrom : ℕ → List Process → Type 0
AscendsFrom low [] = Unit {0}
AscendsFrom low (p ∷ processes) = (low ≤ p.pid) × AscendsFrom (suc p.pid) processes

rest_ascends : (p : Process) (processes : List Process) → Ascends (p ∷ processes) → AscendsFrom (suc p.pid) processes
rest_ascends p [] ascends = tt
rest_ascends p (q ∷ processes) ascends = (let less : p.pid < q.pid = ascends.0 in omega arith, rest_ascends q processes ascends.1)

head_ascends : (p : Process) (processes : List Process) → AscendsFrom (suc p.pid) processes → Ascends (p ∷ processes)
head_ascends p [] ascends = tt
head_ascends p (q ∷ processes) ascends = (let less : suc p.pid ≤ q.pid = ascends.0 in omega arith, head_ascends q processes ascends.1)

-- the two ways to say that pids ascend agree
pub ascends_forth : (processes : List Process) → Ascends processes → AscendsFrom 0 processes
ascends_forth [] ascends = tt
ascends_forth (p ∷ processes) ascends = (omega arith, rest_ascends p processes ascends)

pub ascends_back : (low : ℕ) (processes : List Process) → AscendsFrom low processes → Ascends processes
ascends_back low [] ascends = tt
ascends_back low (p ∷ processes) ascends = head_ascends p processes ascends.1

ascends_lower : (low high : ℕ) (processes : List Process) → low ≤ high → AscendsFrom high processes → AscendsFrom low processes
ascends_lower low high [] le ascends = tt
ascends_lower low high (p ∷ processes) le ascends = (let above : high ≤ p.pid = ascends.0 in omega arith, ascends.1)

-- ---- another process in the place of one
pub ascends_put : (low : ℕ) (new : Process) (processes : List Process) → AscendsFrom low processes → AscendsFrom low (put_process new processes)
ascends_put low new [] ascends = tt
ascends_put low new (p ∷ processes) ascends =
    elim (cases_Bool (p.pid == new.pid)) [
      | inl same ↦
          let e : p.pid ≡ new.pid = eqb-true p.pid new.pid same in
          let above : low ≤ p.pid = ascends.0 in
          subst (AscendsFrom low) (sym (cond-true (p.pid == new.pid) (new ∷ processes) (p ∷ put_process new processes) same))
          (omega arith, subst (λ (n : ℕ). AscendsFrom (suc n) processes) e ascends.1)
      | inr other ↦
          subst (AscendsFrom low) (sym (cond-false (p.pid == new.pid) (new ∷ processes) (p ∷ put_process new processes) other))
          (ascends.0, ascends_put (suc p.pid) new processes ascends.1)
    ]

pub all_put : (P : Process → Type 0) (new : Process) (processes : List Process) → P new → All P processes
    → All P (put_process new processes)
all_put P new [] holds all = all
all_put P new (p ∷ processes) holds all =
    elim (p.pid == new.pid) as (λ (b : Bool). All P (cond b (new ∷ processes) (p ∷ put_process new processes))) [
      | true ↦ All-cons P new processes holds (All-tail P p processes all)
      | false ↦
          All-cons P p (put_process new processes) (All-head P p processes all)
          (all_put P new processes holds (All-tail P p processes all))
    ]

-- ---- one more process
-- a pid that isn't alive is none of the processes'
other_pid : (p : Process) (processes : List Process) (pid : ℕ) → is_alive (p ∷ processes) pid ≡ false
    → (p.pid ≢ pid) × (is_alive processes pid ≡ false)
other_pid p processes pid dead =
    let (here, later) = or_parts (p.pid == pid) (is_alive processes pid) (sym (alive_cons p processes pid) ∙ dead) in
    (eqb-false p.pid pid here, later)

pub ascends_insert : (low : ℕ) (new : Process) (processes : List Process) → is_alive processes new.pid ≡ false → low ≤ new.pid → AscendsFrom low processes
    → AscendsFrom low (insert_process new processes)
ascends_insert low new [] dead above ascends = (above, tt)
ascends_insert low new (p ∷ processes) dead above ascends =
    let others : (p.pid ≢ new.pid) × (is_alive processes new.pid ≡ false) = other_pid p processes new.pid dead in
    elim (cases_Bool (nat_lt new.pid p.pid)) [
      | inl less ↦
          let below : new.pid < p.pid = ltb-true new.pid p.pid less in
          subst (AscendsFrom low) (sym (cond-true (nat_lt new.pid p.pid) (new ∷ p ∷ processes) (p ∷ insert_process new processes) less))
          (above, (omega arith, ascends.1))
      | inr not_less ↦
          let le : p.pid ≤ new.pid = ltb-false new.pid p.pid not_less in
          let apart : p.pid ≢ new.pid = others.0 in
          subst (AscendsFrom low) (sym (cond-false (nat_lt new.pid p.pid) (new ∷ p ∷ processes) (p ∷ insert_process new processes) not_less))
          (ascends.0, ascends_insert (suc p.pid) new processes others.1 (omega arith) ascends.1)
    ]

pub insert_ascends : (new : Process) (processes : List Process) → is_alive processes new.pid ≡ false → Ascends processes
    → Ascends (insert_process new processes)
insert_ascends new processes dead ascends =
    ascends_back 0 (insert_process new processes)
    (ascends_insert 0 new processes dead (omega arith) (ascends_forth processes ascends))

pub all_insert : (P : Process → Type 0) (new : Process) (processes : List Process) → P new → All P processes
    → All P (insert_process new processes)
all_insert P new [] holds all = All-cons P new [] holds all
all_insert P new (p ∷ processes) holds all =
    elim (nat_lt new.pid p.pid)
    as (λ (b : Bool). All P (cond b (new ∷ p ∷ processes) (p ∷ insert_process new processes))) [
      | true ↦ All-cons P new (p ∷ processes) holds all
      | false ↦
          All-cons P p (insert_process new processes) (All-head P p processes all)
          (all_insert P new processes holds (All-tail P p processes all))
    ]

-- ---- one process less
pub ascends_filter : (low : ℕ) (test : Process → Bool) (processes : List Process) → AscendsFrom low processes → AscendsFrom low (filter test processes)
ascends_filter low test [] ascends = tt
ascends_filter low test (p ∷ processes) ascends =
    elim (cases_Bool (test p)) [
      | inl passes ↦
          subst (AscendsFrom low) (sym (cond-true (test p) (p ∷ filter test processes) (filter test processes) passes))
          (ascends.0, ascends_filter (suc p.pid) test processes ascends.1)
      | inr fails ↦
          let above : low ≤ p.pid = ascends.0 in
          subst (AscendsFrom low) (sym (cond-false (test p) (p ∷ filter test processes) (filter test processes) fails))
          (ascends_filter low test processes (ascends_lower low (suc p.pid) processes (omega arith) ascends.1))
    ]

pub ascends_after : (low : ℕ) (gone : Process) (processes : List Process) → AscendsFrom low processes → AscendsFrom low (map (after_exit gone) processes)
ascends_after low gone [] ascends = tt
ascends_after low gone (p ∷ processes) ascends =
    let e : p.pid ≡ (after_exit gone p).pid = (like_after_exit gone p).pid in (
      subst (λ (n : ℕ). low ≤ n) e ascends.0,
      subst (λ (n : ℕ). AscendsFrom (suc n) (map (after_exit gone) processes)) e (ascends_after (suc p.pid) gone processes ascends.1),
    )

pub ascends_without : (low : ℕ) (gone : Process) (processes : List Process) → AscendsFrom low processes → AscendsFrom low (without_process gone processes)
ascends_without low gone processes ascends =
    ascends_after low gone (filter (λ p. not (p.pid == gone.pid)) processes) (ascends_filter low (λ p. not (p.pid == gone.pid)) processes ascends)

-- what outlasts an exit holds of those that are left, where it holds of all
pub all_left : (P : Process → Type 0) (gone : Process) (processes : List Process)
    → ((p : Process) → P p → P (after_exit gone p)) → All P processes → All P (without_process gone processes)
all_left P gone processes lasts all =
    let left : List Process = filter (λ p. not (p.pid == gone.pid)) processes in
    All-map P (after_exit gone) left
    (All-weaker P (λ p. P (after_exit gone p)) lasts left
    (All-filter (λ p. not (p.pid == gone.pid)) P processes all))

-- so does what doesn't ask for a forebear
pub all_without : (P : Process → Type 0) (gone : Process) (processes : List Process)
    → ((p : Process) (f : Option ℕ) → P p → P (record p { forebear = f })) → All P processes
    → All P (without_process gone processes)
all_without P gone processes any all =
    all_left P gone processes (λ p holds. after p holds (is_the p.forebear gone.pid)) all
  where
    after : (p : Process) → P p → (b : Bool) → P (if b then record p { forebear = gone.forebear } else p)
    after p holds true = any p gone.forebear holds
    after p holds false = holds

-- ---- the process of a pid
-- what holds of each process holds of the one that is found
pub all_found : (P : Process → Type 0) (processes : List Process) (pid : ℕ) (p : Process) → All P processes
    → process_at processes pid ≡ Some p → P p
all_found P [] pid p all is = absurd (cc)
all_found P (q ∷ processes) pid p all is =
    elim (q.pid == pid) as (λ (b : Bool). cond b (Some q) (process_at processes pid) ≡ Some p → P p) [
      | true ↦ λ found. let same : q ≡ p = cc in subst P same (All-head P q processes all)
      | false ↦ λ found. all_found P processes pid p (All-tail P q processes all) found
    ] is

-- Chains of forebears, walked by places, and the marks of what they reach.
use Rattle.std.proofs.Common.{Result, Ok, Err, ◌≡◌, ◌≢◌, ℕ, zero, suc, ◌<◌, ◌+◌, ◌==◌, ◌||◌, Bool, true, false}
use Rattle.std.proofs.Common.{length, List, [], ◌∷◌, ◌++◌, map, filter, take, Option, Some, None, refl, sym, ◌∙◌, ap}
use Rattle.std.proofs.Common.{subst, inl, inr, arith, get_or, slice_get, slice_set, get_or-set_same, get_or-set_other}
use Rattle.std.proofs.Math.Seq.{take-suc}
use Rattle.std.proofs.lemmas.Bool.{cases_Bool, cases_eq, cases_order, eq-eqb, ne_eqb, false_from_ne_true, or_left, cond-true, cond-false}
use Rattle.std.proofs.lemmas.List.{length-set, append-nil}
use Rattle.std.proofs.lemmas.List.Elements.{filter-append}
use Rattle.std.proofs.lemmas.Option.{slice_get-get_or}
use Rattle.std.specs.Prelude.{is_some, IfSome, IfNone, IfOk}
use Rattle.cm_machine.proofs.FreePids.{alive_at}
use Rattle.cm_machine.specs.Marks.{AreMarks, HoldsMark}
use Rattle.cm_state.proofs.Places.{get_of_at, found_at, ascending}
use Rattle.cm_state.specs.Places.{pid_at}
use Rattle.model_cred.proofs.Lookups.{pid_of_found}
use Rattle.model_cred.specs.Process.{Process, State, Ascends, process_at, is_alive}
use Rattle.model_laws.proofs.Reaching.{reaches_plus, reaches_soon}
use Rattle.model_run.specs.Family.{family, forebear_in, forebear_of, reaches, reaches_within}

-- ---- chains

-- more steps than there are processes reach no more
saturated : (k : ℕ) (s : State) (root pid : ℕ) → is_alive s.processes root ≡ true
    → reaches_within (k + length s.processes) s root (Some pid) ≡ reaches s root pid
saturated k s root pid alive =
    elim (cases_Bool (reaches s root pid)) [
      | inl is ↦ reaches_plus k (length s.processes) s root pid is ∙ sym is
      | inr isnt ↦
          false_from_ne_true (reaches_within (k + length s.processes) s root (Some pid))
          (λ is. let soon : reaches s root pid ≡ true = reaches_soon
          (k + length s.processes) s root pid alive is in let wrong : true ≡ false = sym soon ∙ isnt in cc)
          ∙ sym isnt
    ]

-- who isn't the root reaches it by its forebear
apart_step : (n : ℕ) (s : State) (root pid : ℕ) → pid ≢ root → reaches_within (suc n) s root (Some pid) ≡ reaches_within n s root (forebear_of s pid)
apart_step n s root pid apart = ap (λ (b : Bool). b || reaches_within n s root (forebear_of s pid)) (ne_eqb pid root apart)

none_reaches : (n : ℕ) (s : State) (root : ℕ) → reaches_within n s root None ≡ false
none_reaches zero s root = refl
none_reaches (suc n) s root = refl

-- the chain from the one leads to the other in so many steps, and not by the root
abbrev pub Leads : State → ℕ → ℕ → ℕ → ℕ → Type 0
Leads s root start here k = (n : ℕ) → reaches_within (k + n) s root (Some start) ≡ reaches_within n s root (Some here)

pub leads_first : (s : State) (root start : ℕ) → Leads s root start start 0
leads_first s root start n = let e : 0 + n ≡ n = omega arith in ap (λ (m : ℕ). reaches_within m s root (Some start)) e

pub leads_next : (s : State) (root start here next k : ℕ) → Leads s root start here k → here ≢ root
    → forebear_of s here ≡ Some next → Leads s root start next (k + 1)
leads_next s root start here next k leads apart up n =
    let e : k + 1 + n ≡ k + suc n = omega arith in
    ap (λ (m : ℕ). reaches_within m s root (Some start)) e ∙ leads (suc n) ∙ apart_step n s root here apart ∙ ap (reaches_within n s root) up

-- both reach the root, or neither does
pub leads_same : (s : State) (root start here k : ℕ) → is_alive s.processes root ≡ true → Leads s root start here k → reaches s root start ≡ reaches s root here
leads_same s root start here k alive leads = sym (saturated k s root start alive) ∙ leads (length s.processes)

-- the root isn't among the first steps
pub leads_far : (s : State) (root start here k : ℕ) → Leads s root start here k → here ≢ root → reaches_within k s root (Some start) ≡ false
leads_far s root start here k leads apart =
    let e : k ≡ k + 0 = omega arith in
    ap (λ (m : ℕ). reaches_within m s root (Some start)) e ∙ leads 0 ∙ ne_eqb here root apart

-- one step of the chain
pub forebear_same : (s : State) (root pid forebear : ℕ) → is_alive s.processes root ≡ true → pid ≢ root → forebear_of s pid ≡ Some forebear
    → reaches s root pid ≡ reaches s root forebear
forebear_same s root pid forebear alive apart up = leads_same s root pid forebear (0 + 1) alive
    (leads_next s root pid pid forebear 0 (leads_first s root pid) apart up)

dead_reaches : (n : ℕ) (s : State) (root pid : ℕ) → is_alive s.processes root ≡ true
    → is_alive s.processes pid ≡ false → reaches_within n s root (Some pid) ≡ false
dead_reaches n s root pid alive dead = by n
  where
    apart : pid ≢ root
    apart same = let wrong : true ≡ false = sym alive ∙ sym (ap (is_alive s.processes) same) ∙ dead in cc

    no_one : (o : Option Process) → is_some o ≡ false → forebear_in o ≡ None
    no_one None none = refl
    no_one (Some p) wrong = absurd (cc)

    by : (m : ℕ) → reaches_within m s root (Some pid) ≡ false
    by zero = ne_eqb pid root apart
    by (suc m) = apart_step m s root pid apart ∙ ap (reaches_within m s root) (no_one (process_at s.processes pid) dead) ∙ none_reaches m s root

-- a chain that ends before the root doesn't reach it
pub ends_reaches : (s : State) (root pid : ℕ) → is_alive s.processes root ≡ true → pid ≢ root
    → ((forebear : ℕ) → forebear_of s pid ≡ Some forebear → is_alive s.processes forebear ≡ false) → reaches s root pid ≡ false
ends_reaches s root pid alive apart ends = by (length s.processes)
  where
    further : (m : ℕ) (o : Option ℕ) → ((forebear : ℕ) → o ≡ Some forebear → is_alive s.processes forebear ≡ false) → reaches_within m s root o ≡ false
    further m None none = none_reaches m s root
    further m (Some f) dead = dead_reaches m s root f alive (dead f refl)

    by : (m : ℕ) → reaches_within m s root (Some pid) ≡ false
    by zero = ne_eqb pid root apart
    by (suc m) = apart_step m s root pid apart ∙ further m (forebear_of s pid) ends

-- the root reaches itself
pub root_reaches : (n : ℕ) (s : State) (root : ℕ) → reaches_within n s root (Some root) ≡ true
root_reaches zero s root = eq-eqb root root refl
root_reaches (suc n) s root = or_left (root == root) (reaches_within n s root (forebear_of s root)) (eq-eqb root root refl)

-- ---- places

-- the forebear of the process at a place
pub forebear_at : (s : State) (at : ℕ) (p : Process) → Ascends s.processes → at < length s.processes → p ≡ get_or s.processes at p
    → forebear_of s (pid_at s.processes at) ≡ p.forebear
forebear_at s at p up h is = ap forebear_in (sym (found_at s.processes up at (pid_at s.processes at) h refl) ∙ get_of_at s.processes at p h is)

-- the place where a pid is found has it
pub place_pid : (ps : List Process) (at pid : ℕ) → at < length ps → slice_get ps at ≡ process_at ps pid → pid_at ps at ≡ pid
place_pid [] at pid h is = absurd (omega arith)
place_pid (p ∷ ps) at pid h is =
    let there : slice_get (p ∷ ps) at ≡ Some (get_or (p ∷ ps) at p) = slice_get-get_or (p ∷ ps) at p h in
    same_pid (p ∷ ps) at pid (get_or (p ∷ ps) at p) h there (sym is ∙ there)
  where
    same_pid : (qs : List Process) (i n : ℕ) (q : Process) → i < length qs → slice_get qs i ≡ Some q → process_at qs n ≡ Some q → pid_at qs i ≡ n
    same_pid [] i n q lt is at_n = absurd (omega arith)
    same_pid qs i n q lt is at_n = pid_there qs i q is ∙ pid_of_found qs n q at_n
      where
        pid_there : (rs : List Process) (j : ℕ) (r : Process) → slice_get rs j ≡ Some r → pid_at rs j ≡ r.pid
        pid_there [] j r none = absurd (cc)
        pid_there (r' ∷ rs) zero r here = let it : r' ≡ r = cc in ap (λ (x : Process). x.pid) it
        pid_there (r' ∷ rs) (suc j) r here = pid_there rs j r here

-- the place of the forebear, where one is found
pub up_found : (s : State) (at f : ℕ) (p : Process) (r : Option ℕ) → Ascends s.processes → at < length s.processes
    → p ≡ get_or s.processes at p → p.forebear ≡ Some f
    → IfSome r (λ up. (up < length s.processes) × (slice_get s.processes up ≡ process_at s.processes f))
    → IfSome r (λ up. (up < length s.processes) × (forebear_of s (pid_at s.processes at) ≡ Some (pid_at s.processes up)))
up_found s at f p None up h is has found = tt
up_found s at f p (Some next) up h is has found =
    (found.0, forebear_at s at p up h is ∙ has ∙ ap Some (sym (place_pid s.processes next f found.0 found.1)))

pub up_none : (s : State) (at f : ℕ) (p : Process) (r : Option ℕ) → Ascends s.processes → at < length s.processes
    → p ≡ get_or s.processes at p → p.forebear ≡ Some f
    → IfNone r (process_at s.processes f ≡ None)
    → IfNone r ((g : ℕ) → forebear_of s (pid_at s.processes at) ≡ Some g → is_alive s.processes g ≡ false)
up_none s at f p None up h is has none = λ g is_g.
    let same : Some f ≡ Some g = sym has ∙ sym (forebear_at s at p up h is) ∙ is_g in
    let it : f ≡ g = cc in
    subst (λ (n : ℕ). is_alive s.processes n ≡ false) it (ap is_some none)
up_none s at f p (Some next) up h is has none = tt

pub no_up : (s : State) (at : ℕ) (p : Process) → Ascends s.processes → at < length s.processes → p ≡ get_or s.processes at p → p.forebear ≡ None
    → (g : ℕ) → forebear_of s (pid_at s.processes at) ≡ Some g → is_alive s.processes g ≡ false
no_up s at p up h is has g is_g = let wrong : None ≡ Some g = sym has ∙ sym (forebear_at s at p up h is) ∙ is_g in absurd (cc)

-- processes at two places have two pids
pids_apart : (ps : List Process) → Ascends ps → (i j : ℕ) → i < length ps → j < length ps → i ≢ j → pid_at ps i ≢ pid_at ps j
pids_apart ps up i j h k apart same =
    elim (cases_order i j) [
      | inl equal ↦ apart equal
      | inr (inl before) ↦ let less : pid_at ps i < pid_at ps j = ascending ps up i j before k in absurd (omega arith)
      | inr (inr later) ↦ let less : pid_at ps j < pid_at ps i = ascending ps up j i later h in absurd (omega arith)
    ]

-- ---- marks

-- the mark at a place
pub mark_at : (s : State) (root : ℕ) (marks : List (Option Bool)) (at : ℕ) (mark : Option Bool) → AreMarks s root marks → at < length s.processes
    → mark ≡ get_or marks at None → HoldsMark s root (pid_at s.processes at) mark
mark_at s root marks at mark are h is = subst (HoldsMark s root (pid_at s.processes at)) (sym is) (are.each at h)

-- with one more mark
pub marks_with : (s : State) (root : ℕ) (marks : List (Option Bool)) (at : ℕ) (mark : Option Bool) → AreMarks s root marks → at < length s.processes
    → HoldsMark s root (pid_at s.processes at) mark → AreMarks s root (slice_set marks at mark)
marks_with s root marks at mark are h holds = record {
  alive = are.alive;
  count = length-set marks at mark ∙ are.count;
  each = λ k lt. elim (cases_eq k at) [
    | inl same ↦
        let within : at < length marks = omega (arith, are.count) in
        let here : get_or (slice_set marks at mark) k None ≡ mark
        = ap (λ (j : ℕ). get_or (slice_set marks at mark) j None) same ∙ get_or-set_same marks at mark None within in
        subst (HoldsMark s root (pid_at s.processes k)) (sym here) (subst (λ (j : ℕ). HoldsMark s root (pid_at s.processes j) mark) (sym same) holds)
    | inr other ↦ subst (HoldsMark s root (pid_at s.processes k)) (sym (get_or-set_other marks at k mark None other)) (are.each k lt)
  ];
}

-- no mark
pub unmarked : {A : Type 0} (o : Option A) → ((x : A) → o ≡ Some x → ⊥) → None ≡ o
unmarked None other = refl
unmarked (Some x) other = absurd (other x refl)

pub unmarked_is : {A : Type 0} (o : Option A) → false ≡ is_some o → None ≡ o
unmarked_is None is = refl
unmarked_is (Some x) wrong = absurd (cc)

none_count : (ps : List Process) → length (map {A = Process} {B = Option Bool} (λ _. None) ps) ≡ length ps
none_count [] = refl
none_count (p ∷ ps) = ap suc (none_count ps)

none_known : (ps : List Process) (k : ℕ) → get_or (map {A = Process} {B = Option Bool} (λ _. None) ps) k None ≡ None
none_known (p ∷ ps) (suc k) = none_known ps k
none_known _ _ = refl

-- the first marks
pub marks_first : (s : State) (at : ℕ) (marks : List (Option Bool)) → Ascends s.processes → at < length s.processes
    → marks ≡ map (λ _. None) s.processes → AreMarks s (pid_at s.processes at) (slice_set marks at (Some true))
marks_first s at marks up h none =
    let count : length marks ≡ length s.processes = ap length none ∙ none_count s.processes in
    let root : ℕ = pid_at s.processes at in
    record {
      alive = alive_at s.processes at root h refl;
      count = length-set marks at (Some true) ∙ count;
      each = λ k lt. elim (cases_eq k at) [
        | inl same ↦
            let within : at < length marks = omega (arith, count) in
            let here : get_or (slice_set marks at (Some true)) k None ≡ Some true
            = ap (λ (j : ℕ). get_or (slice_set marks at (Some true)) j None) same ∙ get_or-set_same marks at (Some true) None within in
            subst (HoldsMark s root (pid_at s.processes k)) (sym here)
            (ap (λ (j : ℕ). reaches s root (pid_at s.processes j)) same ∙ root_reaches (length s.processes) s root)
        | inr other ↦
            let here : get_or (slice_set marks at (Some true)) k None ≡ None
            = get_or-set_other marks at k (Some true) None other ∙ ap (λ (ms : List (Option Bool)). get_or ms k None) none ∙ none_known s.processes k in
            subst (HoldsMark s root (pid_at s.processes k)) (sym here) (pids_apart s.processes up k at lt h other)
      ];
    }

-- ---- the list of the family

pub pid_in : (ps : List Process) (at : ℕ) → at < length ps → get_or (map (λ p. p.pid) ps) at 0 ≡ pid_at ps at
pid_in [] at h = absurd (omega arith)
pid_in (p ∷ ps) zero h = refl
pid_in (p ∷ ps) (suc at) h = pid_in ps at (omega arith)

pub pids_count : (ps : List Process) → length (map (λ p. p.pid) ps) ≡ length ps
pids_count [] = refl
pids_count (p ∷ ps) = ap suc (pids_count ps)

-- one more process that passes, or one that doesn't
family_more : (test : ℕ → Bool) (ps : List Process) (at : ℕ) → at < length ps
    → filter test (take (suc at) (map (λ p. p.pid) ps)) ≡ filter test (take at (map (λ p. p.pid) ps)) ++ filter test (pid_at ps at ∷ [])
family_more test ps at h =
    let within : at < length (map (λ p. p.pid) ps) = omega (arith, pids_count ps) in
    ap (filter test) (take-suc (map (λ p. p.pid) ps) at 0 within ∙ ap (λ (n : ℕ). take at (map (λ p. p.pid) ps) ++ n ∷ []) (pid_in ps at h))
    ∙ filter-append test (take at (map (λ p. p.pid) ps)) (pid_at ps at ∷ [])

pub family_with : (test : ℕ → Bool) (ps : List Process) (at : ℕ) (xs : List ℕ) → at < length ps → test (pid_at ps at) ≡ true
    → xs ≡ filter test (take at (map (λ p. p.pid) ps)) → xs ++ pid_at ps at ∷ [] ≡ filter test (take (at + 1) (map (λ p. p.pid) ps))
family_with test ps at xs h passes is =
    let next : suc at ≡ at + 1 = omega arith in
    ap (λ (ys : List ℕ). ys ++ pid_at ps at ∷ []) is
    ∙ ap (λ (ys : List ℕ). filter test (take at (map (λ p. p.pid) ps)) ++ ys) (sym (cond-true (test (pid_at ps at)) (pid_at ps at ∷ []) [] passes))
    ∙ sym (family_more test ps at h) ∙ ap (λ (n : ℕ). filter test (take n (map (λ p. p.pid) ps))) next

pub family_without : (test : ℕ → Bool) (ps : List Process) (at : ℕ) (xs : List ℕ) → at < length ps → test (pid_at ps at) ≡ false
    → xs ≡ filter test (take at (map (λ p. p.pid) ps)) → xs ≡ filter test (take (at + 1) (map (λ p. p.pid) ps))
family_without test ps at xs h fails is =
    let next : suc at ≡ at + 1 = omega arith in
    is ∙ sym (append-nil (filter test (take at (map (λ p. p.pid) ps))))
    ∙ ap (λ (ys : List ℕ). filter test (take at (map (λ p. p.pid) ps)) ++ ys) (sym (cond-false (test (pid_at ps at)) (pid_at ps at ∷ []) [] fails))
    ∙ sym (family_more test ps at h) ∙ ap (λ (n : ℕ). filter test (take n (map (λ p. p.pid) ps))) next

-- the family of a root that is found
pub family_there : (s : State) (at root : ℕ) → at < length s.processes → slice_get s.processes at ≡ process_at s.processes root
    → filter (reaches s (pid_at s.processes at)) (map (λ p. p.pid) s.processes) ≡ family s root
family_there s at root h found =
    let same : pid_at s.processes at ≡ root = place_pid s.processes at root h found in
    let alive : is_alive s.processes root ≡ true = alive_at s.processes at root h same in
    ap (λ (n : ℕ). filter (reaches s n) (map (λ p. p.pid) s.processes)) same
    ∙ sym (cond-true (is_alive s.processes root) (filter (reaches s root) (map (λ p. p.pid) s.processes)) [] alive)

-- what follows of the value, where there is one
pub if_ok_then : {T E : Type 0} {P Q : T → Type 0} (r : Result T E) → ((x : T) → P x → Q x) → IfOk r P → IfOk r Q
if_ok_then (Ok x) then h = then x h
if_ok_then (Err e) then h = tt

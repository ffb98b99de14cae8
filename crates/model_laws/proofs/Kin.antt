-- Families and chains of forebears under the three kinds of steps.
use Rattle.std.proofs.Common.{arith, ◌≡◌, ◌≢◌, ◌⊎◌, ℕ, true, false, List, Option, Some, None, refl, sym, ap, ◌∙◌, inl, inr}
use Rattle.std.specs.Prelude.{is_some, option_map}
use Rattle.std.proofs.lemmas.Bool.{cases_Bool, cases_eq, cond-true, cond-false}
use Rattle.cm_filter.specs.Filters.{Filter}
use Rattle.model_cred.specs.Credential.{Credential}
use Rattle.model_cred.specs.IdMap.{is_the}
use Rattle.model_cred.specs.Process.{Process, State, process_at, put_process, insert_process, without_process, is_alive, after_exit}
use Rattle.model_run.specs.Family.{Family, itself, child}
use Rattle.model_laws.specs.Families.{ChainEnds, first, next, ChainsEnd}
use Rattle.model_cred.proofs.Chains.{is_the_same, not_the, the_is}
use Rattle.model_cred.proofs.Lookups.{at_put_same, at_put_other, at_insert_same, at_insert_other, at_without_gone, at_without_other}

-- a test for something there
pub there : (o : Option Process) → is_some o ≡ true → (p : Process) × (o ≡ Some p)
there None wrong = absurd (cc)
there (Some p) is = (p, refl)

-- one that is found is alive
pub alive_found : (processes : List Process) (pid : ℕ) (p : Process) → process_at processes pid ≡ Some p → is_alive processes pid ≡ true
alive_found processes pid p is = ap is_some is

one_some : (p q : Process) (o : Option Process) → o ≡ Some p → o ≡ Some q → p ≡ q
one_some p q o first_is second_is = cc

-- Each process of the one state is in the other, with the same forebear.
pub record KinOf (p : Process) (s' : State) (pid : ℕ) : Type 0 where
  pub process : Process
  pub lives : process_at s'.processes pid ≡ Some process
  pub forebear : process.forebear ≡ p.forebear

abbrev pub KinStay : State → State → Type 0
KinStay s s' = (pid : ℕ) (p : Process) → process_at s.processes pid ≡ Some p → KinOf p s' pid

pub family_stays : (s s' : State) (root pid : ℕ) → KinStay s s' → Family s root pid → Family s' root pid
family_stays s s' root pid stay (itself alive) =
    let p : (p : Process) × (process_at s.processes root ≡ Some p) = there (process_at s.processes root) alive in
    itself (alive_found s'.processes root (stay root p.0 p.1).process (stay root p.0 p.1).lives)
family_stays s s' root pid stay (child n f p lives forebear rest) =
    let kin : KinOf p s' n = stay n p lives in
    child n f kin.process kin.lives (kin.forebear ∙ forebear) (family_stays s s' root f stay rest)

pub chain_stays : (s s' : State) (pid : ℕ) → KinStay s s' → ChainEnds s pid → ChainEnds s' pid
chain_stays s s' pid stay (first n p lives ends) =
    let kin : KinOf p s' n = stay n p lives in
    first n kin.process kin.lives (kin.forebear ∙ ends)
chain_stays s s' pid stay (next n f p lives forebear rest) =
    let kin : KinOf p s' n = stay n p lives in
    next n f kin.process kin.lives (kin.forebear ∙ forebear) (chain_stays s s' f stay rest)

-- ---- a call of one process
module _ (s s' : State) (p : Process) (lives : process_at s.processes p.pid ≡ Some p) (place : ℕ) (cred : Credential) (own : Filter)
    (is : s'.processes ≡ put_process (record p { space = place; cred = cred; filter = own }) s.processes) where
  pub caller_after : process_at s'.processes p.pid ≡ Some (record p { space = place; cred = cred; filter = own })
  caller_after = ap (λ ps. process_at ps p.pid) is ∙ at_put_same (record p { space = place; cred = cred; filter = own }) p s.processes lives

  pub other_after : (pid : ℕ) → pid ≢ p.pid → process_at s'.processes pid ≡ process_at s.processes pid
  other_after pid apart = ap (λ ps. process_at ps pid) is ∙ at_put_other (record p { space = place; cred = cred; filter = own }) s.processes pid apart

  pub call_kin : KinStay s s'
  call_kin pid q at =
      elim (cases_eq pid p.pid) [
        | inl same ↦
            let e : p ≡ q = one_some p q (process_at s.processes p.pid) lives (sym (ap (process_at s.processes) same) ∙ at) in
            record {
              process = record p { space = place; cred = cred; filter = own };
              lives = ap (process_at s'.processes) same ∙ caller_after;
              forebear = ap (λ (r : Process). r.forebear) e;
            }
        | inr other ↦ record { process = q; lives = other_after pid other ∙ at; forebear = refl }
      ]

  pub call_kin_back : KinStay s' s
  call_kin_back pid q at =
      elim (cases_eq pid p.pid) [
        | inl same ↦
            let e : record p { space = place; cred = cred; filter = own } ≡ q
            = one_some (record p { space = place; cred = cred; filter = own }) q (process_at s'.processes p.pid) caller_after
            (sym (ap (process_at s'.processes) same) ∙ at) in
            record { process = p; lives = ap (process_at s.processes) same ∙ lives; forebear = ap (λ (r : Process). r.forebear) e }
        | inr other ↦ record { process = q; lives = sym (other_after pid other) ∙ at; forebear = refl }
      ]

-- ---- a birth
module _ (s s' : State) (new : Process) (fresh : is_alive s.processes new.pid ≡ false) (is : s'.processes ≡ insert_process new s.processes) where
  pub new_after : process_at s'.processes new.pid ≡ Some new
  new_after = ap (λ ps. process_at ps new.pid) is ∙ at_insert_same new s.processes fresh

  pub old_after : (pid : ℕ) → pid ≢ new.pid → process_at s'.processes pid ≡ process_at s.processes pid
  old_after pid apart = ap (λ ps. process_at ps pid) is ∙ at_insert_other new s.processes pid apart

  -- one that is alive is another
  pub is_old : (pid : ℕ) (q : Process) → process_at s.processes pid ≡ Some q → pid ≢ new.pid
  is_old pid q at same = let alive : is_alive s.processes new.pid ≡ true = sym (ap (is_alive s.processes) same) ∙ alive_found s.processes pid q at in cc

  pub birth_kin : KinStay s s'
  birth_kin pid q at = record { process = q; lives = old_after pid (is_old pid q at) ∙ at; forebear = refl }

  -- no process had the child as its forebear
  no_orphan : ChainsEnd s → (pid : ℕ) (q : Process) → process_at s.processes pid ≡ Some q → q.forebear ≡ Some new.pid → ⊥
  no_orphan chains pid q at forebear = grind arith

  -- who is of the family after a birth was of it before, or is the child
  pub family_after_birth : ChainsEnd s → (root pid : ℕ) → Family s' root pid → Family s root pid ⊎ (pid ≡ new.pid)
  family_after_birth chains root pid (itself alive) =
      elim (cases_eq root new.pid) [
        | inl same ↦ inr same
        | inr other ↦ inl (itself (sym (ap is_some (old_after root other)) ∙ alive))
      ]
  family_after_birth chains root pid (child n f q at forebear rest) =
      elim (cases_eq n new.pid) [
        | inl same ↦ inr same
        | inr other ↦
            let before : process_at s.processes n ≡ Some q = sym (old_after n other) ∙ at in
            elim (family_after_birth chains root f rest) [
              | inl of_it ↦ inl (child n f q before forebear of_it)
              | inr same ↦ absurd (no_orphan chains n q before (forebear ∙ ap (λ (m : ℕ). Some m) same))
            ]
      ]

-- ---- an exit
-- the forebear that an exit leaves
after_gone : (gone p : Process) → p.forebear ≡ Some gone.pid → (after_exit gone p).forebear ≡ gone.forebear
after_gone gone p forebear =
    ap (λ (q : Process). q.forebear)
    (cond-true (is_the p.forebear gone.pid) (record p { forebear = gone.forebear }) p (is_the_same p.forebear gone.pid forebear))

pub after_other : (gone p : Process) → p.forebear ≢ Some gone.pid → after_exit gone p ≡ p
after_other gone p other =
    cond-false (is_the p.forebear gone.pid) (record p { forebear = gone.forebear }) p
    (not_the p.forebear gone.pid (λ f e same. other (e ∙ ap (λ (n : ℕ). Some n) same)))

module _ (s s' : State) (gone : Process) (lives : process_at s.processes gone.pid ≡ Some gone) (is : s'.processes ≡ without_process gone s.processes) where
  pub rest_after : (pid : ℕ) (q : Process) → pid ≢ gone.pid → process_at s.processes pid ≡ Some q → process_at s'.processes pid ≡ Some (after_exit gone q)
  rest_after pid q apart at = ap (λ ps. process_at ps pid) is ∙ at_without_other gone s.processes pid apart ∙ ap (option_map (after_exit gone)) at

  record WasThere (pid : ℕ) (q : Process) : Type 0 where
    other : pid ≢ gone.pid
    process : Process
    found : process_at s.processes pid ≡ Some process
    left : after_exit gone process ≡ q

  was_there : (pid : ℕ) (q : Process) → process_at s'.processes pid ≡ Some q → WasThere pid q
  was_there pid q at =
      elim (cases_eq pid gone.pid) [
        | inl same ↦
            absurd (let none : process_at s'.processes pid ≡ None
            = ap (process_at s'.processes) same ∙ ap (λ ps. process_at ps gone.pid) is
            ∙ at_without_gone gone s.processes in
            cc)
        | inr other ↦
            by (process_at s.processes pid) refl other
            (sym (at_without_other gone s.processes pid other) ∙ sym (ap (λ ps. process_at ps pid) is) ∙ at)
      ]
    where
      by : (o : Option Process) → process_at s.processes pid ≡ o → pid ≢ gone.pid → option_map (after_exit gone) o ≡ Some q → WasThere pid q
      by None found other wrong = absurd (cc)
      by (Some p) found other it = record { other = other; process = p; found = found; left = let e : after_exit gone p ≡ q = cc in e }

  -- who is of the family and stays is of it after the exit; who exits has a forebear that is
  pub record Through (root pid : ℕ) : Type 0 where
    pub same : pid ≡ gone.pid
    pub up : ℕ
    pub forebear : gone.forebear ≡ Some up
    pub family : Family s' root up

  pub family_after_exit : (root pid : ℕ) → root ≢ gone.pid → Family s root pid → ((pid ≢ gone.pid) × Family s' root pid) ⊎ Through root pid
  family_after_exit root pid other (itself alive) =
      let p : (p : Process) × (process_at s.processes root ≡ Some p) = there (process_at s.processes root) alive in
      inl (other, itself (alive_found s'.processes root (after_exit gone p.0) (rest_after root p.0 other p.1)))
  family_after_exit root pid other (child n f q at forebear rest) =
      elim (family_after_exit root f other rest) [
        | inl stays ↦ elim (cases_eq n gone.pid) [
          | inl same ↦
              let e : q ≡ gone = one_some q gone (process_at s.processes gone.pid) (sym (ap (process_at s.processes) same) ∙ at) lives in
              inr (record { same = same; up = f; forebear = sym (ap (λ (x : Process). x.forebear) e) ∙ forebear; family = stays.1 })
          | inr apart ↦
              let same_q : after_exit gone q ≡ q = after_other gone q (λ wrong. stays.0 (let it : Some f ≡ Some gone.pid = sym forebear ∙ wrong in cc)) in
              inl (apart, child n f q (rest_after n q apart at ∙ ap (λ (x : Process). Some x) same_q) forebear stays.1)
        ]
        | inr through ↦ elim (cases_eq n gone.pid) [
          | inl same ↦ inr (record { same = same; up = through.up; forebear = through.forebear; family = through.family })
          | inr apart ↦
              inl (
                apart,
                child n through.up (after_exit gone q) (rest_after n q apart at)
                    (after_gone gone q (forebear ∙ ap (λ (m : ℕ). Some m) through.same) ∙ through.forebear) through.family,
              )
        ]
      ]

  -- who is of the family after an exit was of it before
  pub family_before_exit : (root pid : ℕ) → Family s' root pid → (pid ≢ gone.pid) × Family s root pid
  family_before_exit root pid (itself alive) =
      let q : (q : Process) × (process_at s'.processes root ≡ Some q) = there (process_at s'.processes root) alive in
      let was : WasThere root q.0 = was_there root q.0 q.1 in
      (was.other, itself (alive_found s.processes root was.process was.found))
  family_before_exit root pid (child n f q at forebear rest) =
      let was : WasThere n q = was_there n q at in
      let left : (after_exit gone was.process).forebear ≡ Some f = ap (λ (x : Process). x.forebear) was.left ∙ forebear in
      let before : (f ≢ gone.pid) × Family s root f = family_before_exit root f rest in (
        was.other,
        elim (cases_Bool (is_the was.process.forebear gone.pid)) [
          | inl its ↦
              let fore : was.process.forebear ≡ Some gone.pid = the_is was.process.forebear gone.pid its in
              let up : gone.forebear ≡ Some f = sym (after_gone gone was.process fore) ∙ left in
              child n gone.pid was.process was.found fore (child gone.pid f gone lives up before.1)
          | inr others ↦
              let same_p : after_exit gone was.process ≡ was.process
              = cond-false (is_the was.process.forebear gone.pid) (record was.process { forebear = gone.forebear }) was.process others in
              child n f was.process was.found (sym (ap (λ (x : Process). x.forebear) same_p) ∙ left) before.1
        ],
      )

  -- chains of forebears after an exit
  record Passes (pid : ℕ) : Type 0 where
    same : pid ≡ gone.pid
    ends : (gone.forebear ≡ None) ⊎ ((f : ℕ) × (gone.forebear ≡ Some f) × ChainEnds s' f)

  chain_after_exit : (pid : ℕ) → ChainEnds s pid → ((pid ≢ gone.pid) × ChainEnds s' pid) ⊎ Passes pid
  chain_after_exit pid (first n q at none) =
      elim (cases_eq n gone.pid) [
        | inl same ↦
            let e : q ≡ gone = one_some q gone (process_at s.processes gone.pid) (sym (ap (process_at s.processes) same) ∙ at) lives in
            inr (record { same = same; ends = inl (sym (ap (λ (x : Process). x.forebear) e) ∙ none) })
        | inr apart ↦
            let same_q : after_exit gone q ≡ q = after_other gone q (λ wrong. let it : None ≡ Some gone.pid = sym none ∙ wrong in cc) in
            inl (apart, first n q (rest_after n q apart at ∙ ap (λ (x : Process). Some x) same_q) none)
      ]
  chain_after_exit pid (next n f q at forebear rest) =
      elim (chain_after_exit f rest) [
        | inl stays ↦ elim (cases_eq n gone.pid) [
          | inl same ↦
              let e : q ≡ gone = one_some q gone (process_at s.processes gone.pid) (sym (ap (process_at s.processes) same) ∙ at) lives in
              inr (record { same = same; ends = inr (f, sym (ap (λ (x : Process). x.forebear) e) ∙ forebear, stays.1) })
          | inr apart ↦
              let same_q : after_exit gone q ≡ q = after_other gone q (λ wrong. stays.0 (let it : Some f ≡ Some gone.pid = sym forebear ∙ wrong in cc)) in
              inl (apart, next n f q (rest_after n q apart at ∙ ap (λ (x : Process). Some x) same_q) forebear stays.1)
        ]
        | inr passes ↦ elim (cases_eq n gone.pid) [
          | inl same ↦ inr (record { same = same; ends = passes.ends })
          | inr apart ↦
              let fore : (after_exit gone q).forebear ≡ gone.forebear = after_gone gone q (forebear ∙ ap (λ (m : ℕ). Some m) passes.same) in
              let at' : process_at s'.processes n ≡ Some (after_exit gone q) = rest_after n q apart at in
              elim passes.ends [
                | inl none ↦ inl (apart, first n (after_exit gone q) at' (fore ∙ none))
                | inr up ↦ inl (apart, next n up.0 (after_exit gone q) at' (fore ∙ up.1) up.2)
              ]
        ]
      ]

  pub chains_after_exit : ChainsEnd s → ChainsEnd s'
  chains_after_exit chains pid alive =
      let q : (q : Process) × (process_at s'.processes pid ≡ Some q) = there (process_at s'.processes pid) alive in
      let was : WasThere pid q.0 = was_there pid q.0 q.1 in
      elim (chain_after_exit pid (chains pid (alive_found s.processes pid was.process was.found))) [
        | inl stays ↦ stays.1
        | inr passes ↦ absurd (was.other passes.same)
      ]

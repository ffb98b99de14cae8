-- The relation of a family and the function that computes it agree.
use Rattle.std.proofs.Common.{◌≡◌, ℕ, zero, suc, ◌+◌, ◌<◌, ◌≤◌, ◌==◌, ◌&&◌, Bool, true, false, List, [], ◌∷◌, length}
use Rattle.std.proofs.Common.{map, filter, ◌-◌, Option, Some, None, if◌then◌else◌, refl, sym, ap, ◌∙◌, inl, inr, subst}
use Rattle.std.proofs.Common.{arith, eqb}
use Rattle.std.specs.Prelude.{is_some}
use Rattle.std.specs.List.{list_any, IsDistinct, AllByRecursion}
use Rattle.std.specs.Cmp.{nat_eq_equiv}
use Rattle.std.proofs.lemmas.Bool.{cases_Bool, eqb-true, eq-eqb, and_parts, and_from, or_cases, or_left, or_right, or_parts, cond-false, false_from_ne_true}
use Rattle.std.proofs.lemmas.List.{length-map}
use Rattle.std.proofs.lemmas.Map.Made.{length-le_from_is_member}
use Rattle.std.proofs.lemmas.Map.Views.{any-filter_same}
use Rattle.model_cred.specs.Process.{Process, State, process_at, is_alive}
use Rattle.model_run.specs.Family.{Family, itself, child, family, reaches, reaches_within, forebear_of, forebear_in}
use Rattle.model_run.specs.Later.{is_member}
use Rattle.model_laws.specs.Families.{FamilyIsComputed, AreFamily}
use Rattle.model_laws.proofs.Kin.{alive_found}

-- a chain that reaches the root within some steps does so within one more
reaches_more : (k : ℕ) (s : State) (root : ℕ) (o : Option ℕ) → reaches_within k s root o ≡ true → reaches_within (suc k) s root o ≡ true
reaches_more k s root None wrong = absurd (cc)
reaches_more zero s root (Some pid) is = or_left (pid == root) _ is
reaches_more (suc k) s root (Some pid) is =
    elim (or_cases (pid == root) (reaches_within k s root (forebear_of s pid)) is) [
      | inl here ↦ or_left (pid == root) (reaches_within (suc k) s root (forebear_of s pid)) here
      | inr further ↦ or_right (pid == root) (reaches_within (suc k) s root (forebear_of s pid)) (reaches_more k s root (forebear_of s pid) further)
    ]

pub reaches_plus : (more k : ℕ) (s : State) (root pid : ℕ) → reaches_within k s root (Some pid) ≡ true → reaches_within (more + k) s root (Some pid) ≡ true
reaches_plus zero k s root pid is = let e : 0 + k ≡ k = omega arith in subst (λ (n : ℕ). reaches_within n s root (Some pid) ≡ true) (sym e) is
reaches_plus (suc more) k s root pid is =
    let e : suc more + k ≡ suc (more + k) = omega arith in
    subst (λ (n : ℕ). reaches_within n s root (Some pid) ≡ true) (sym e) (reaches_more (more + k) s root (Some pid) (reaches_plus more k s root pid is))

-- within some steps, and not within fewer
abbrev Exactly : ℕ → State → ℕ → ℕ → Type 0
Exactly zero s root pid = reaches_within zero s root (Some pid) ≡ true
Exactly (suc k) s root pid = (reaches_within (suc k) s root (Some pid) ≡ true) × (reaches_within k s root (Some pid) ≡ false)

exactly_reaches : (k : ℕ) (s : State) (root pid : ℕ) → Exactly k s root pid → reaches_within k s root (Some pid) ≡ true
exactly_reaches zero s root pid is = is
exactly_reaches (suc k) s root pid is = is.0

least : (k : ℕ) (s : State) (root pid : ℕ) → reaches_within k s root (Some pid) ≡ true → (m : ℕ) × Exactly m s root pid
least zero s root pid is = (zero, is)
least (suc k) s root pid is =
    elim (cases_Bool (reaches_within k s root (Some pid))) [
      | inl sooner ↦ least k s root pid sooner
      | inr later ↦ (suc k, (is, later))
    ]

-- who doesn't reach the root isn't the root
isnt_root : (k : ℕ) (s : State) (root pid : ℕ) → reaches_within k s root (Some pid) ≡ false → (pid == root) ≡ false
isnt_root zero s root pid is = is
isnt_root (suc k) s root pid is = (or_parts (pid == root) (reaches_within k s root (forebear_of s pid)) is).0

-- the forebear of one that reaches it within exactly so many steps does so within one less
exactly_next : (k : ℕ) (s : State) (root pid f : ℕ) → forebear_of s pid ≡ Some f → Exactly (suc k) s root pid → Exactly k s root f
exactly_next k s root pid f forebear is = grind arith

-- the processes of a chain, each once
record Chain (s : State) (root k : ℕ) : Type 0 where
  list : List ℕ
  count : length list ≡ suc k
  distinct : IsDistinct eqb list
  alive : (q : ℕ) → list_any (eqb q) list ≡ true → is_alive s.processes q ≡ true
  reach : (q : ℕ) → list_any (eqb q) list ≡ true → reaches_within k s root (Some q) ≡ true

none_same : (x : ℕ) (xs : List ℕ) → list_any (eqb x) xs ≡ false → AllByRecursion (λ y. eqb x y ≡ false) xs
none_same x [] out = tt
none_same x (y ∷ ys) out = let parts = or_parts (eqb x y) (list_any (eqb x) ys) out in (parts.0, none_same x ys parts.1)

pub distinct_cons : (x : ℕ) (xs : List ℕ) → list_any (eqb x) xs ≡ false → IsDistinct eqb xs → IsDistinct eqb (x ∷ xs)
unfolding IsDistinct
distinct_cons x xs out distinct = (none_same x xs out, distinct)

pub distinct_nil : IsDistinct eqb []
unfolding IsDistinct
distinct_nil = tt

-- the optional forebear of an optional process
found_forebear : (o : Option Process) (f : ℕ) → forebear_in o ≡ Some f → is_some o ≡ true
found_forebear None f wrong = absurd (cc)
found_forebear (Some p) f is = refl

chain_of : (k : ℕ) (s : State) (root pid : ℕ) → is_alive s.processes root ≡ true → Exactly k s root pid → Chain s root k
chain_of zero s root pid alive is = record {
  list = pid ∷ [];
  count = refl;
  distinct = distinct_cons pid [] refl distinct_nil;
  alive = λ q in_it. elim (or_cases (eqb q pid) false in_it) [
    | inl same ↦ ap (is_alive s.processes) (eqb-true q pid same ∙ eqb-true pid root is) ∙ alive
    | inr wrong ↦ absurd (cc)
  ];
  reach = λ q in_it. elim (or_cases (eqb q pid) false in_it) [
    | inl same ↦ ap (λ (n : ℕ). n == root) (eqb-true q pid same) ∙ is
    | inr wrong ↦ absurd (cc)
  ];
}
chain_of (suc k) s root pid alive is = further (forebear_of s pid) refl (λ f forebear. chain_of k s root f alive (exactly_next k s root pid f forebear is))
  where
    further : (o : Option ℕ) → forebear_of s pid ≡ o → ((f : ℕ) → forebear_of s pid ≡ Some f → Chain s root k) → Chain s root (suc k)
    further None none rest =
        absurd (elim (or_cases (pid == root) (reaches_within k s root (forebear_of s pid)) is.0) [
          | inl same ↦ let apart : (pid == root) ≡ false = isnt_root k s root pid is.1 in let no_way : true ≡ false = sym same ∙ apart in cc
          | inr reach ↦ let no_way : false ≡ true = sym (ap (reaches_within k s root) none) ∙ reach in cc
        ])
    further (Some f) forebear rest =
        let up : Chain s root k = rest f forebear in
        record {
          list = pid ∷ up.list;
          count = ap suc up.count;
          distinct = distinct_cons pid up.list
              (false_from_ne_true (list_any (eqb pid) up.list) (λ in_it. let no_way : true ≡ false = sym (up.reach pid in_it) ∙ is.1 in cc)) up.distinct;
          alive = λ q in_it. elim (or_cases (eqb q pid) (list_any (eqb q) up.list) in_it) [
            | inl same ↦ ap (is_alive s.processes) (eqb-true q pid same) ∙ found_forebear (process_at s.processes pid) f forebear
            | inr later ↦ up.alive q later
          ];
          reach = λ q in_it. elim (or_cases (eqb q pid) (list_any (eqb q) up.list) in_it) [
            | inl same ↦ ap (λ (n : ℕ). reaches_within (suc k) s root (Some n)) (eqb-true q pid same) ∙ is.0
            | inr later ↦ reaches_more k s root (Some q) (up.reach q later)
          ];
        }

-- who is alive is one of the pids
pub alive_pid : (processes : List Process) (q : ℕ) → is_alive processes q ≡ true → list_any (eqb q) (map (λ p. p.pid) processes) ≡ true
alive_pid [] q wrong = absurd (cc)
alive_pid (p ∷ processes) q alive =
    elim (cases_Bool (p.pid == q)) [
      | inl same ↦ or_left (eqb q p.pid) _ (eq-eqb q p.pid (sym (eqb-true p.pid q same)))
      | inr other ↦
          or_right (eqb q p.pid) (list_any (eqb q) (map (λ r. r.pid) processes))
          (alive_pid processes q (sym (ap is_some (cond-false (p.pid == q) (Some p) (process_at processes q) other)) ∙ alive))
    ]

-- and with the test turned round
pid_of_alive : (processes : List Process) (q : ℕ) → is_alive processes q ≡ true → list_any (λ n. n == q) (map (λ p. p.pid) processes) ≡ true
pid_of_alive [] q wrong = absurd (cc)
pid_of_alive (p ∷ processes) q alive =
    elim (cases_Bool (p.pid == q)) [
      | inl same ↦ or_left (p.pid == q) _ same
      | inr other ↦
          or_right (p.pid == q) (list_any (λ n. n == q) (map (λ r. r.pid) processes))
          (pid_of_alive processes q (sym (ap is_some (cond-false (p.pid == q) (Some p) (process_at processes q) other)) ∙ alive))
    ]

-- a chain has no more steps than there are processes
chain_short : (s : State) (root k : ℕ) → Chain s root k → k < length s.processes
chain_short s root k chain =
    let le : length chain.list ≤ length (map (λ p. p.pid) s.processes)
    = length-le_from_is_member nat_eq_equiv chain.list (map (λ p. p.pid) s.processes) chain.distinct
    (λ q in_it. alive_pid s.processes q (chain.alive q in_it)) in
    let count : length chain.list ≡ suc k = chain.count in
    let same : length (map (λ p. p.pid) s.processes) ≡ length s.processes = length-map s.processes (λ p. p.pid) in
    omega arith

-- a chain that reaches the root does so within as many steps as there are processes
pub reaches_soon : (k : ℕ) (s : State) (root pid : ℕ) → is_alive s.processes root ≡ true → reaches_within k s root (Some pid) ≡ true → reaches s root pid ≡ true
reaches_soon k s root pid alive is =
    let m : (m : ℕ) × Exactly m s root pid = least k s root pid is in
    let short : m.0 < length s.processes = chain_short s root m.0 (chain_of m.0 s root pid alive m.1) in
    let e : (length s.processes - m.0) + m.0 ≡ length s.processes = omega arith in
    subst (λ (n : ℕ). reaches_within n s root (Some pid) ≡ true) e
    (reaches_plus (length s.processes - m.0) m.0 s root pid (exactly_reaches m.0 s root pid m.1))

-- who is of the family reaches the root, within some steps
family_reaches : (s : State) (root pid : ℕ) → Family s root pid → (k : ℕ) × (reaches_within k s root (Some pid) ≡ true)
family_reaches s root pid (itself alive) = (zero, eq-eqb root root refl)
family_reaches s root pid (child n f p at forebear rest) =
    let up : (k : ℕ) × (reaches_within k s root (Some f) ≡ true) = family_reaches s root f rest in (
      suc up.0,
      or_right (n == root) (reaches_within up.0 s root (forebear_of s n))
          (ap (λ o. reaches_within up.0 s root (forebear_in o)) at ∙ ap (reaches_within up.0 s root) forebear ∙ up.1),
    )

family_root : (s : State) (root pid : ℕ) → Family s root pid → is_alive s.processes root ≡ true
family_root s root pid (itself alive) = alive
family_root s root pid (child n f p at forebear rest) = family_root s root f rest

family_alive : (s : State) (root pid : ℕ) → Family s root pid → is_alive s.processes pid ≡ true
family_alive s root pid (itself alive) = alive
family_alive s root pid (child n f p at forebear rest) = alive_found s.processes n p at

-- who reaches the root is of the family
reaches_family : (k : ℕ) (s : State) (root pid : ℕ) → is_alive s.processes root ≡ true → reaches_within k s root (Some pid) ≡ true → Family s root pid
reaches_family zero s root pid alive is = subst (Family s root) (sym (eqb-true pid root is)) (itself alive)
reaches_family (suc k) s root pid alive is =
    elim (or_cases (pid == root) (reaches_within k s root (forebear_of s pid)) is) [
      | inl same ↦ subst (Family s root) (sym (eqb-true pid root same)) (itself alive)
      | inr further ↦ through (process_at s.processes pid) refl further (λ f up. reaches_family k s root f alive up)
    ]
  where
    by_forebear : (p : Process) → process_at s.processes pid ≡ Some p → (o : Option ℕ) → p.forebear ≡ o → reaches_within k s root o ≡ true
        → ((f : ℕ) → reaches_within k s root (Some f) ≡ true → Family s root f) → Family s root pid
    by_forebear p at None forebear wrong rest = absurd (none_reaches k wrong)
      where
        none_reaches : (j : ℕ) → reaches_within j s root None ≡ true → ⊥
        none_reaches zero no_way = cc
        none_reaches (suc j) no_way = cc
    by_forebear p at (Some f) forebear up rest = child pid f p at forebear (rest f up)

    through : (o : Option Process) → process_at s.processes pid ≡ o → reaches_within k s root (forebear_of s pid) ≡ true
        → ((f : ℕ) → reaches_within k s root (Some f) ≡ true → Family s root f) → Family s root pid
    through None at reach rest = absurd (none k (sym (ap (λ q. reaches_within k s root (forebear_in q)) at) ∙ reach))
      where
        none : (j : ℕ) → reaches_within j s root None ≡ true → ⊥
        none zero no_way = cc
        none (suc j) no_way = cc
    through (Some p) at reach rest = by_forebear p at p.forebear refl (sym (ap (λ q. reaches_within k s root (forebear_in q)) at) ∙ reach) rest

-- membership in the computed family
family_member : (s : State) (root pid : ℕ) (b : Bool) → is_alive s.processes root ≡ b
    → is_member (if b then filter (reaches s root) (map (λ p. p.pid) s.processes) else []) pid
    ≡ (b && (reaches s root pid && is_member (map (λ p. p.pid) s.processes) pid))
family_member s root pid true is =
    any-filter_same (λ n. n == pid) (reaches s root) (reaches s root pid) (λ n same. ap (reaches s root) (eqb-true n pid same)) (map (λ p. p.pid) s.processes)
family_member s root pid false is = refl

pub family_is : (s : State) (root : ℕ) → AreFamily s root (family s root)
family_is s root pid = (
  λ is.
      let parts : (is_alive s.processes root ≡ true) × ((reaches s root pid && is_member (map (λ p. p.pid) s.processes) pid) ≡ true)
      = and_parts (is_alive s.processes root) (reaches s root pid && is_member (map (λ p. p.pid) s.processes) pid)
      (sym (family_member s root pid (is_alive s.processes root) refl) ∙ is) in
      let more : (reaches s root pid ≡ true) × (is_member (map (λ p. p.pid) s.processes) pid ≡ true)
      = and_parts (reaches s root pid) (is_member (map (λ p. p.pid) s.processes) pid) parts.1 in
      reaches_family (length s.processes) s root pid parts.0 more.0,
  λ of_it.
      let alive : is_alive s.processes root ≡ true = family_root s root pid of_it in
      let up : (k : ℕ) × (reaches_within k s root (Some pid) ≡ true) = family_reaches s root pid of_it in
      family_member s root pid (is_alive s.processes root) refl
      ∙ and_from (is_alive s.processes root) (reaches s root pid && is_member (map (λ p. p.pid) s.processes) pid) alive
      (and_from (reaches s root pid) (is_member (map (λ p. p.pid) s.processes) pid)
      (reaches_soon up.0 s root pid alive up.1) (pid_of_alive s.processes pid (family_alive s root pid of_it))),
)

pub family_is_computed : FamilyIsComputed
unfolding FamilyIsComputed
family_is_computed = family_is

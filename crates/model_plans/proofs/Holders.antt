-- Who holds the right among the members.
use Rattle.std.proofs.Common.{◌≡◌, ◌≢◌, ℕ, suc, ◌<◌, ◌≤◌, ◌==◌, Bool, true, false, List, [], ◌∷◌, map, filter}
use Rattle.std.proofs.Common.{Option, None, Some, if◌then◌else◌, refl, sym, ap, ◌∙◌, inl, inr, subst, arith}
use Rattle.std.specs.Prelude.{find, All}
use Rattle.std.proofs.lemmas.Bool.{cases_Bool, cases_eq, cond-true, cond-false, eqb-true, eq-eqb, or_cases, or_left, or_right}
use Rattle.std.proofs.lemmas.List.Elements.{All-head, All-tail, All-cons, All-nil, All-filter, All-weaker}
use Rattle.cm_filter.specs.declared.kind.CallKind.{CallKind}
use Rattle.model_cred.proofs.Orders.{AscendsFrom, ascends_forth}
use Rattle.model_cred.specs.Process.{Process, State, process_at, is_alive}
use Rattle.model_cred.specs.Right.{Right}
use Rattle.model_cred.specs.World.{World}
use Rattle.model_run.specs.Family.{reaches}
use Rattle.model_run.specs.Holds.{process_holds, holds_for}
use Rattle.model_run.specs.Later.{is_member}
use Rattle.model_plans.specs.Move.{Seat, seat_of, Move}
use Rattle.model_plans.specs.PlanRun.{PlanRun, setting_in, moves_made, holder}
use Rattle.model_plans.specs.Walk.{after_moves, seat_holds}
use Rattle.model_plans.specs.Changes.{moved, with_seat}
use Rattle.model_plans.specs.Firsts.{NoHolder, PidsAscend, FamilyAscends, HolderIsLeast, MoverDecides}
use Rattle.model_plans.proofs.Walks.{found_seated, walk_run}
use Rattle.model_plans.proofs.Others.{other_seated}

-- ---- the first that passes a test
-- what holds of each of a list holds of a member
pub all_member : (P : ℕ → Type 0) (pids : List ℕ) (pid : ℕ) → All P pids → is_member pids pid ≡ true → P pid
all_member P [] pid all is = absurd (cc)
all_member P (m ∷ pids) pid all is =
    elim (or_cases (m == pid) (is_member pids pid) is) [
      | inl same ↦ subst P (eqb-true m pid same) (All-head P m pids all)
      | inr later ↦ all_member P pids pid (All-tail P m pids all) later
    ]

-- none passes where none is found
none_passes : (test : ℕ → Bool) (pids : List ℕ) → find test pids ≡ None → (pid : ℕ) → is_member pids pid ≡ true → test pid ≡ false
none_passes test [] is pid member = absurd (cc)
none_passes test (m ∷ pids) is pid member =
    elim (cases_Bool (test m)) [
      | inl passes ↦ absurd (let wrong : Some m ≡ None = sym (cond-true (test m) (Some m) (find test pids) passes) ∙ is in cc)
      | inr fails ↦
          let rest : find test pids ≡ None = sym (cond-false (test m) (Some m) (find test pids) fails) ∙ is in
          elim (or_cases (m == pid) (is_member pids pid) member) [
            | inl same ↦ ap test (sym (eqb-true m pid same)) ∙ fails
            | inr later ↦ none_passes test pids rest pid later
          ]
    ]

-- the first of a list is a member of it, and so are the others
head_member : (m : ℕ) (pids : List ℕ) → is_member (m ∷ pids) m ≡ true
head_member m pids = or_left (m == m) (is_member pids m) (eq-eqb m m refl)

tail_member : (m : ℕ) (pids : List ℕ) (pid : ℕ) → is_member pids pid ≡ true → is_member (m ∷ pids) pid ≡ true
tail_member m pids pid member = or_right (m == pid) (is_member pids pid) member

pub all_members : (pids : List ℕ) → All (λ pid. is_member pids pid ≡ true) pids
all_members [] = All-nil (λ pid. is_member [] pid ≡ true)
all_members (m ∷ pids) =
    All-cons (λ pid. is_member (m ∷ pids) pid ≡ true) m pids (head_member m pids)
    (All-weaker (λ pid. is_member pids pid ≡ true) (λ pid. is_member (m ∷ pids) pid ≡ true) (λ pid member. tail_member m pids pid member) pids
    (all_members pids))

-- none is found where none passes
none_found : (test : ℕ → Bool) (pids : List ℕ) → ((pid : ℕ) → is_member pids pid ≡ true → test pid ≡ false) → find test pids ≡ None
none_found test [] fails = refl
none_found test (m ∷ pids) fails =
    cond-false (test m) (Some m) (find test pids) (fails m (head_member m pids))
    ∙ none_found test pids (λ pid member. fails pid (tail_member m pids pid member))

-- who is found is a member and passes
pub found_passes : (test : ℕ → Bool) (pids : List ℕ) (pid : ℕ) → find test pids ≡ Some pid → (is_member pids pid ≡ true) × (test pid ≡ true)
found_passes test [] pid is = absurd (cc)
found_passes test (m ∷ pids) pid is =
    elim (cases_Bool (test m)) [
      | inl passes ↦
          let it : Some m ≡ Some pid = sym (cond-true (test m) (Some m) (find test pids) passes) ∙ is in
          let same : m ≡ pid = cc in
          subst (λ (n : ℕ). (is_member (m ∷ pids) n ≡ true) × (test n ≡ true)) same (head_member m pids, passes)
      | inr fails ↦
          let rest : (is_member pids pid ≡ true) × (test pid ≡ true)
          = found_passes test pids pid (sym (cond-false (test m) (Some m) (find test pids) fails) ∙ is) in
          (tail_member m pids pid rest.0, rest.1)
    ]

pub holder_holds : (s : State) (members : List ℕ) (right : Right) (pid : ℕ) → holder s members right ≡ Some pid
    → (is_member members pid ≡ true) × (process_holds s pid right ≡ true)
holder_holds s members right pid is = found_passes (λ n. process_holds s n right) members pid is

-- where one alone can pass, it is found exactly where it does
one_found : (test : ℕ → Bool) (pids : List ℕ) (pid : ℕ) → is_member pids pid ≡ true
    → ((other : ℕ) → is_member pids other ≡ true → other ≢ pid → test other ≡ false)
    → test pid ≡ true → find test pids ≡ Some pid
one_found test [] pid member fails passes = absurd (cc)
one_found test (m ∷ pids) pid member fails passes =
    elim (cases_eq m pid) [
      | inl same ↦ cond-true (test m) (Some m) (find test pids) (ap test same ∙ passes) ∙ ap (λ (n : ℕ). Some n) same
      | inr other ↦
          cond-false (test m) (Some m) (find test pids) (fails m (head_member m pids) other)
          ∙ elim (or_cases (m == pid) (is_member pids pid) member) [
            | inl same ↦ absurd (other (eqb-true m pid same))
            | inr later ↦ one_found test pids pid later (λ n it apart. fails n (tail_member m pids n it) apart) passes
          ]
    ]

pub only_found : (test : ℕ → Bool) (pids : List ℕ) (pid : ℕ) → is_member pids pid ≡ true
    → ((other : ℕ) → is_member pids other ≡ true → other ≢ pid → test other ≡ false)
    → find test pids ≡ (if test pid then Some pid else None)
only_found test pids pid member fails =
    elim (cases_Bool (test pid)) [
      | inl passes ↦
          one_found test pids pid member fails passes ∙ sym (cond-true (test pid) (Some pid) None passes)
      | inr not_it ↦
          none_found test pids (λ n it. elim (cases_eq n pid) [
            | inl same ↦ ap test same ∙ not_it
            | inr other ↦ fails n it other
          ])
          ∙ sym (cond-false (test pid) (Some pid) None not_it)
    ]

pub no_holder : NoHolder
unfolding NoHolder
no_holder s members right = (
  none_passes (λ pid. process_holds s pid right) members,
  none_found (λ pid. process_holds s pid right) members,
)

-- ---- ascending members
-- the pids of processes that ascend
pids_ascend : (low : ℕ) (processes : List Process) → AscendsFrom low processes
    → All (λ n. low ≤ n) (map (λ p. p.pid) processes) × PidsAscend (map (λ p. p.pid) processes)
pids_ascend low [] ascends = (All-nil (λ n. low ≤ n), tt)
pids_ascend low (p ∷ processes) ascends =
    let rest = pids_ascend (suc p.pid) processes ascends.1 in
    let above : low ≤ p.pid = ascends.0 in (
      All-cons (λ n. low ≤ n) p.pid (map (λ r. r.pid) processes) above
          (All-weaker (λ n. suc p.pid ≤ n) (λ n. low ≤ n) (λ n higher. omega arith) (map (λ r. r.pid) processes) rest.0),
      (rest.0, rest.1),
    )

pub filter_ascends : (test : ℕ → Bool) (pids : List ℕ) → PidsAscend pids → PidsAscend (filter test pids)
filter_ascends test [] ascends = tt
filter_ascends test (pid ∷ pids) ascends =
    elim (test pid) as (λ (b : Bool). PidsAscend (if b then pid ∷ filter test pids else filter test pids)) [
      | true ↦ (All-filter test (λ later. pid < later) pids ascends.0, filter_ascends test pids ascends.1)
      | false ↦ filter_ascends test pids ascends.1
    ]

pub family_ascends : FamilyAscends
unfolding FamilyAscends
family_ascends s root ascends =
    elim (is_alive s.processes root)
    as (λ (b : Bool). PidsAscend (if b then filter (reaches s root) (map (λ p. p.pid) s.processes) else [])) [
      | true ↦
          filter_ascends (reaches s root) (map (λ p. p.pid) s.processes)
          (pids_ascend 0 s.processes (ascends_forth s.processes ascends)).1
      | false ↦ tt
    ]

-- the least that passes
record IsLeast (test : ℕ → Bool) (pids : List ℕ) (pid : ℕ) : Type 0 where
  member : is_member pids pid ≡ true
  passes : test pid ≡ true
  least : (other : ℕ) → is_member pids other ≡ true → test other ≡ true → pid ≤ other

found_least : (test : ℕ → Bool) (pids : List ℕ) (pid : ℕ) → PidsAscend pids → find test pids ≡ Some pid → IsLeast test pids pid
found_least test [] pid ascends is = absurd (cc)
found_least test (m ∷ pids) pid ascends is =
    elim (cases_Bool (test m)) [
      | inl passes ↦
          let it : Some m ≡ Some pid = sym (cond-true (test m) (Some m) (find test pids) passes) ∙ is in
          let same : m ≡ pid = cc in
          subst (IsLeast test (m ∷ pids)) same (record {
            member = head_member m pids;
            passes = passes;
            least = λ other member holds. elim (or_cases (m == other) (is_member pids other) member) [
              | inl e ↦ let e' : m ≡ other = eqb-true m other e in omega arith
              | inr later ↦ let less : m < other = all_member (λ n. m < n) pids other ascends.0 later in omega arith
            ];
          })
      | inr fails ↦
          let rest : IsLeast test pids pid = found_least test pids pid ascends.1 (sym (cond-false (test m) (Some m) (find test pids) fails) ∙ is) in
          record {
            member = tail_member m pids pid rest.member;
            passes = rest.passes;
            least = λ other member holds. elim (or_cases (m == other) (is_member pids other) member) [
              | inl e ↦ absurd (let no : true ≡ false = sym holds ∙ ap test (sym (eqb-true m other e)) ∙ fails in cc)
              | inr later ↦ rest.least other later holds
            ];
          }
    ]

least_found : (test : ℕ → Bool) (pids : List ℕ) (pid : ℕ) → PidsAscend pids → IsLeast test pids pid → find test pids ≡ Some pid
least_found test [] pid ascends is = absurd (let wrong : false ≡ true = is.member in cc)
least_found test (m ∷ pids) pid ascends is =
    elim (cases_Bool (test m)) [
      | inl passes ↦
          let low : pid ≤ m = is.least m (head_member m pids) passes in
          let same : m ≡ pid
          = elim (or_cases (m == pid) (is_member pids pid) is.member) [
            | inl e ↦ eqb-true m pid e
            | inr later ↦ let less : m < pid = all_member (λ n. m < n) pids pid ascends.0 later in absurd (omega arith)
          ] in
          cond-true (test m) (Some m) (find test pids) passes ∙ ap (λ (n : ℕ). Some n) same
      | inr fails ↦
          cond-false (test m) (Some m) (find test pids) fails
          ∙ least_found test pids pid ascends.1 (record {
            member = elim (or_cases (m == pid) (is_member pids pid) is.member) [
              | inl e ↦ absurd (let no : true ≡ false = sym is.passes ∙ ap test (sym (eqb-true m pid e)) ∙ fails in cc)
              | inr later ↦ later
            ];
            passes = is.passes;
            least = λ other member holds. is.least other (tail_member m pids other member) holds;
          })
    ]

pub holder_is_least : HolderIsLeast
unfolding HolderIsLeast
holder_is_least s members right pid ascends = (
  λ is. let least : IsLeast (λ n. process_holds s n right) members pid = found_least (λ n. process_holds s n right) members pid ascends is in
      record { member = least.member; holds = least.passes; least = least.least },
  λ is. least_found (λ n. process_holds s n right) members pid ascends (record { member = is.member; passes = is.holds; least = is.least }),
)

-- ---- the one who moved
-- with one at another seat the others hold what they held, and it holds what that seat gives
pub mover_decides_seated : (s : State) (members : List ℕ) (right : Right) (pid : ℕ) (p : Process) (seat : Seat) → process_at s.processes pid ≡ Some p
    → is_member members pid ≡ true → holder s members right ≡ None
    → holder (with_seat s p seat) members right ≡ (if holds_for s.spaces (Some (moved p seat)) right then Some pid else None)
mover_decides_seated s members right pid p seat lives member none =
    only_found (λ n. process_holds (with_seat s p seat) n right) members pid member
    (λ other it apart.
    ap (λ (o : Option Process). holds_for s.spaces o right) (other_seated s pid p seat other lives apart)
    ∙ none_passes (λ n. process_holds s n right) members none other it)
    ∙ ap (λ (o : Option Process). if holds_for s.spaces o right then Some pid else None) (found_seated s pid p seat lives)

pub mover_holds : (permitted : CallKind → Bool) (w : World) (s : State) (members : List ℕ) (right : Right) (pid : ℕ) (p : Process) (moves : List Move)
    → process_at s.processes pid ≡ Some p → is_member members pid ≡ true → holder s members right ≡ None
    → holder (moves_made permitted w s right pid moves).state members right
    ≡ (if seat_holds (setting_in permitted w s right p) (after_moves (setting_in permitted w s right p) (seat_of p) moves)
    then Some pid else None)
mover_holds permitted w s members right pid p moves lives member none =
    ap (λ (made : PlanRun). holder made.state members right) (walk_run permitted w s right pid p moves lives)
    ∙ mover_decides_seated s members right pid p (after_moves (setting_in permitted w s right p) (seat_of p) moves) lives member none

pub mover_decides : MoverDecides
unfolding MoverDecides
mover_decides = mover_holds

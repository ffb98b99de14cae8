-- Pids that ascend: what a search by halves finds among them, and what is left with one more or one less.
use Rattle.std.proofs.Common.{◌≡◌, ◌≢◌, ℕ, zero, suc, ◌<◌, ◌≤◌, ◌==◌, ◌||◌, Bool, true, false, not, List, [], ◌∷◌, filter, take, drop}
use Rattle.std.proofs.Common.{refl, sym, ◌∙◌, ap, inl, inr, subst, arith, nat_cmp, get_or, length, Result, Ok, Err}
use Rattle.std.specs.List.{All, insert, remove}
use Rattle.std.specs.List.Sorted.{IsBinarySearchResult}
use Rattle.std.specs.Result.{is_ok, MatchResult}
use mathlib.Core.Logic.{∥∥₁_elim}
use Rattle.std.proofs.Math.Bool.{or-true}
use Rattle.std.proofs.Math.Bridge.{le_prop}
use Rattle.std.proofs.lemmas.Bool.{cases_Bool, cases_lt, cond-true, cond-false, eqb-true, eq-eqb, ne_eqb}
use Rattle.std.proofs.lemmas.List.Elements.{All-append, All-cons, All-head, All-nil, All-tail, All-drop, All-take, All-from_get_or, All-get_or}
use Rattle.std.proofs.lemmas.List.Sorted.{searched}
use Rattle.cm_state.proofs.IdSets.{or_swapped}
use Rattle.model_plans.specs.Firsts.{PidsAscend}
use Rattle.model_run.specs.Later.{is_member}

-- ---- that they ascend
-- it is a proposition, so where a type keeps it, it is known outright
ascends_once : (pids : List ℕ) → IsProp (PidsAscend pids)
ascends_once [] = hlevel
ascends_once (pid ∷ pids) = let rest : IsProp (PidsAscend pids) = ascends_once pids in hlevel (le_prop, rest)

pub ascends_there : (pids : List ℕ) → ∥ PidsAscend pids ∥₁ → PidsAscend pids
ascends_there pids up = ∥∥₁_elim up (ascends_once pids) (λ it. it)

-- a later pid is not below an earlier one
rises : (pids : List ℕ) → PidsAscend pids → (i j : ℕ) → i ≤ j → j < length pids → get_or pids i 0 ≤ get_or pids j 0
rises [] up i j order within = absurd (omega (arith, within))
rises (pid ∷ pids) up zero zero order within = omega arith
rises (pid ∷ pids) up zero (suc j) order within =
    let above : pid < get_or pids j 0 = All-get_or (λ n. pid < n) pids j 0 (omega (arith, within)) up.0 in omega (arith, above)
rises (pid ∷ pids) up (suc i) zero order within = absurd (omega (arith, order))
rises (pid ∷ pids) up (suc i) (suc j) order within = rises pids up.1 i j (omega (arith, order)) (omega (arith, within))

-- Where a search by halves finds a pid, and between which it would stand where it doesn't.
abbrev pub Found : List ℕ → ℕ → Result ℕ ℕ → Type 0
Found pids pid r = MatchResult r (λ i. (i < length pids) × (get_or pids i 0 ≡ pid))
    (λ i. (i ≤ length pids) × ((k : ℕ) → k < i → get_or pids k 0 < pid) × ((k : ℕ) → i ≤ k → k < length pids → pid < get_or pids k 0))

pub search_finds : (pids : List ℕ) (pid : ℕ) (r found : Result ℕ ℕ) → r ≡ found → ∥ PidsAscend pids ∥₁
    → IsBinarySearchResult (λ y. nat_cmp y pid) pids r → Found pids pid found
search_finds pids pid r found same up is =
    subst (λ (x : Result ℕ ℕ). Found pids pid x) same (searched pids pid r is (rises pids (ascends_there pids up)))

-- ---- who is a member
-- the one at a place is
member_at : (pids : List ℕ) (i : ℕ) → i < length pids → is_member pids (get_or pids i 0) ≡ true
member_at [] i within = absurd (omega (arith, within))
member_at (pid ∷ pids) zero within = ap (λ (b : Bool). b || is_member pids pid) (eq-eqb pid pid refl)
member_at (pid ∷ pids) (suc i) within =
    ap (λ (b : Bool). (pid == get_or pids i 0) || b) (member_at pids i (omega (arith, within))) ∙ or-true (pid == get_or pids i 0)

-- who is none of them isn't
pub no_member : (pids : List ℕ) (pid : ℕ) → All (λ n. n ≢ pid) pids → is_member pids pid ≡ false
no_member [] pid others = refl
no_member (n ∷ pids) pid others = ap (λ (b : Bool). b || is_member pids pid) (ne_eqb n pid (All-head (λ m. m ≢ pid) n pids others)) ∙ no_member pids pid (All-tail (λ m. m ≢ pid) n pids others)

-- a search that finds none has gone past all
pub none_is : (pids : List ℕ) (pid i : ℕ) → Found pids pid (Err i) → All (λ n. n ≢ pid) pids
none_is pids pid i found =
    All-from_get_or (λ n. n ≢ pid) pids 0 (λ k within. elim (cases_lt k i) [
      | inl low ↦ λ same. absurd (omega (arith, same, found.1 k low))
      | inr high ↦ λ same. absurd (omega (arith, same, found.2 k high within))
    ])

-- what is found is a member
pub found_says : (pids : List ℕ) (pid : ℕ) (r : Result ℕ ℕ) → Found pids pid r → is_ok r ≡ is_member pids pid
found_says pids pid (Ok i) there = sym (subst (λ (n : ℕ). is_member pids n ≡ true) there.1 (member_at pids i there.0))
found_says pids pid (Err i) none = sym (no_member pids pid (none_is pids pid i none))

-- ---- one more
pub joined_ascend : (pids : List ℕ) (i pid : ℕ) → PidsAscend pids → Found pids pid (Err i) → PidsAscend (insert pids i pid)
joined_ascend [] zero pid up found = (All-nil (λ n. pid < n), tt)
joined_ascend [] (suc i) pid up found = absurd (omega (arith, found.0))
joined_ascend (p ∷ pids) zero pid up found =
    (All-from_get_or (λ n. pid < n) (p ∷ pids) 0 (λ k within. found.2 k (omega arith) within), up)
joined_ascend (p ∷ pids) (suc i) pid up found =
    let below : p < pid = found.1 zero (omega arith) in (
      All-append (λ n. p < n) (take i pids) (pid ∷ drop i pids) (All-take (λ n. p < n) i pids up.0)
          (All-cons (λ n. p < n) pid (drop i pids) below (All-drop (λ n. p < n) i pids up.0)),
      joined_ascend pids i pid up.1 (
        omega (arith, found.0),
        λ k low. found.1 (suc k) (omega (arith, low)),
        λ k high within. found.2 (suc k) (omega (arith, high)) (omega (arith, within)),
      ),
    )

pub joined_members : (pids : List ℕ) (i pid other : ℕ) → i ≤ length pids → is_member (insert pids i pid) other ≡ is_member (pid ∷ pids) other
joined_members [] zero pid other within = refl
joined_members [] (suc i) pid other within = absurd (omega (arith, within))
joined_members (p ∷ pids) zero pid other within = refl
joined_members (p ∷ pids) (suc i) pid other within =
    ap (λ (b : Bool). (p == other) || b) (joined_members pids i pid other (omega (arith, within)))
    ∙ or_swapped (p == other) (pid == other) (is_member pids other)

-- one who is a member already
pub joined_again : (pids : List ℕ) (pid other : ℕ) → is_member pids pid ≡ true → is_member pids other ≡ is_member (pid ∷ pids) other
joined_again pids pid other is =
    elim (cases_Bool (pid == other)) [
      | inl same ↦
          subst (λ (n : ℕ). is_member pids n ≡ true) (eqb-true pid other same) is
          ∙ sym (ap (λ (b : Bool). b || is_member pids other) same)
      | inr apart ↦ sym (ap (λ (b : Bool). b || is_member pids other) apart)
    ]

-- ---- one less
-- the pid isn't this one
abbrev pub other_than : ℕ → ℕ → Bool
other_than pid member = not (member == pid)

is_other : (pid n : ℕ) → n ≢ pid → other_than pid n ≡ true
is_other pid n apart = ap not (ne_eqb n pid apart)

-- who is none of them doesn't go
pub none_leaves : (pids : List ℕ) (pid : ℕ) → All (λ n. n ≢ pid) pids → filter (other_than pid) pids ≡ pids
none_leaves [] pid others = refl
none_leaves (n ∷ pids) pid others =
    cond-true (other_than pid n) (n ∷ filter (other_than pid) pids) (filter (other_than pid) pids) (is_other pid n (All-head (λ m. m ≢ pid) n pids others))
    ∙ ap (λ (ps : List ℕ). n ∷ ps) (none_leaves pids pid (All-tail (λ m. m ≢ pid) n pids others))

-- without the one at a place
pub left_is : (pids : List ℕ) (i pid : ℕ) → PidsAscend pids → i < length pids → get_or pids i 0 ≡ pid → remove pids i ≡ filter (other_than pid) pids
left_is [] i pid up within there = absurd (omega (arith, within))
left_is (p ∷ pids) zero pid up within there =
    let later : All (λ n. n ≢ pid) pids
    = All-from_get_or (λ n. n ≢ pid) pids 0 (λ k in_it same. absurd (omega (arith, same, there, All-get_or (λ n. p < n) pids k 0 in_it up.0))) in
    sym (cond-false (other_than pid p) (p ∷ filter (other_than pid) pids) (filter (other_than pid) pids)
    (ap (other_than pid) there ∙ ap not (eq-eqb pid pid refl)) ∙ none_leaves pids pid later)
left_is (p ∷ pids) (suc i) pid up within there =
    let above : p < get_or pids i 0 = All-get_or (λ n. p < n) pids i 0 (omega (arith, within)) up.0 in
    ap (λ (ps : List ℕ). p ∷ ps) (left_is pids i pid up.1 (omega (arith, within)) there)
    ∙ sym (cond-true (other_than pid p) (p ∷ filter (other_than pid) pids) (filter (other_than pid) pids)
    (is_other pid p (λ same. absurd (omega (arith, above, same, there)))))

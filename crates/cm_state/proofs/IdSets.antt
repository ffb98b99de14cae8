-- Lists of ids that ascend, each once: two with the same members are one list, and so sorting a list and dropping the
-- repeats gives its set.
use Rattle.std.proofs.Common.{◌≡◌, ℕ, zero, suc, ◌+◌, ◌<◌, ◌≤◌, ◌==◌, ◌||◌, Bool, true, false, List, [], ◌∷◌}
use Rattle.std.proofs.Common.{if◌then◌else◌, refl, sym, ◌∙◌, ap, inl, inr, subst, arith, slice_index_or, nat_lt}
use Rattle.std.proofs.Common.{nat_cmp, get_or, length, Result, Ok, Err}
use Rattle.std.specs.List.{All, AllPairs, dedup, dedup_from, list_any}
use mathlib.Core.Bool.{Bool-set}
use mathlib.Core.Logic.{∥∥₁_elim}
use Rattle.std.proofs.Math.Bridge.{le_prop}
use Rattle.std.specs.List.Sorted.{IsBinarySearchResult, IsPermutation, IsSorted}
use Rattle.std.specs.Result.{is_ok, MatchResult}
use Rattle.std.proofs.Math.Dec.{eqb}
use Rattle.std.proofs.lemmas.Bool.{cases_eq, cases_lt, cases_order, cond_both, eqb-true, eq-eqb, ne_eqb, or_from, or_left, true≢false, false≢true}
use Rattle.std.proofs.lemmas.List.Elements.{All-head, All-tail}
use Rattle.std.proofs.lemmas.List.Filters.{All-dedup}
use Rattle.std.proofs.lemmas.List.Kept.{AllPairs-from_increasing}
use Rattle.std.proofs.lemmas.Grind.{get_or_default_zero}
use Rattle.std.proofs.lemmas.List.Folds.{list_any_at, list_any_none}
use Rattle.std.proofs.lemmas.List.Sorted.{All-permutation, list_any-IsPermutation, searched}
use Rattle.std.proofs.lemmas.Map.Keys.{IsStrictlyIncreasing-dedup}
use Rattle.model_cred.specs.Credential.{AscendFrom, IsId, insert_id, id_set}
use Rattle.model_cred.proofs.IdSets.{set_ascends}

-- ---- tests in a row

or_twice : (a b : Bool) → (a || b) ≡ (a || (a || b))
or_twice true b = refl
or_twice false b = refl

pub or_swapped : (a b c : Bool) → (a || (b || c)) ≡ (b || (a || c))
or_swapped true true c = refl
or_swapped _ _ c = refl

-- where the first tests fail, the rest decide
or_rest : (a b c d : Bool) → a ≡ false → b ≡ false → (a || c) ≡ (b || d) → c ≡ d
or_rest true b c d wrong fails same = absurd (true≢false wrong)
or_rest false true c d fails wrong same = absurd (true≢false wrong)
or_rest false false c d fails fails' same = same

-- ---- the members of a list

-- whether the id is one of the list
abbrev pub has : List ℕ → ℕ → Bool
has ids id = list_any (λ other. other == id) ids

has_inserted : (id : ℕ) (ids : List ℕ) (x : ℕ) → has (insert_id id ids) x ≡ ((id == x) || has ids x)
has_inserted id [] x = refl
has_inserted id (other ∷ ids) x =
    let P : List ℕ → Type 0 = λ l. has l x ≡ ((id == x) || ((other == x) || has ids x)) in
    cond_both (nat_lt id other) (id ∷ other ∷ ids) (if id == other then other ∷ ids else other ∷ insert_id id ids) P
    (λ _. refl)
    (λ _. cond_both (id == other) (other ∷ ids) (other ∷ insert_id id ids) P
    (λ same. rw (eqb-true id other same) (or_twice (other == x) (has ids x)))
    (λ _. ap (λ b. (other == x) || b) (has_inserted id ids x) ∙ or_swapped (other == x) (id == x) (has ids x)))

-- the set of a list has its members
has_set : (ids : List ℕ) (x : ℕ) → has (id_set ids) x ≡ has ids x
has_set [] x = refl
has_set (id ∷ ids) x = has_inserted id (id_set ids) x ∙ ap (λ b. (id == x) || b) (has_set ids x)

has_deduped_from : (k : ℕ) (ids : List ℕ) (x : ℕ) → has (dedup_from eqb k ids) x ≡ ((k == x) || has ids x)
has_deduped_from k [] x = refl
has_deduped_from k (id ∷ ids) x =
    cond_both (eqb id k) (dedup_from eqb k ids) (k ∷ dedup_from eqb id ids) (λ l. has l x ≡ ((k == x) || ((id == x) || has ids x)))
    (λ same. has_deduped_from k ids x ∙ rw (eqb-true id k same) (or_twice (k == x) (has ids x)))
    (λ _. ap (λ b. (k == x) || b) (has_deduped_from id ids x))

-- a list without its repeats has its members
has_deduped : (ids : List ℕ) (x : ℕ) → has (dedup eqb ids) x ≡ has ids x
has_deduped [] x = refl
has_deduped (id ∷ ids) x = has_deduped_from id ids x

-- ---- lists that ascend

-- ids each of which is below all later ones ascend
ascends_from_pairs : (low : ℕ) (ids : List ℕ) → AllPairs (λ a b. a < b) ids → All (λ a. low ≤ a) ids → All IsId ids → AscendFrom low ids
ascends_from_pairs low [] rise above small = tt
ascends_from_pairs low (id ∷ ids) rise above small = (
  All-head (λ a. low ≤ a) id ids above,
  All-head IsId id ids small,
  ascends_from_pairs (id + 1) ids
      (λ i j d less within. rise (suc i) (suc j) d (omega arith) (omega arith))
      (λ k d within. let next : id < slice_index_or ids k d = rise zero (suc k) d (omega arith) (omega arith) in omega arith)
      (All-tail IsId id ids small),
)

-- an id below all of them is none of them
has_no_less : (low : ℕ) (ids : List ℕ) (x : ℕ) → AscendFrom low ids → x < low → has ids x ≡ false
has_no_less low [] x rise less = refl
has_no_less low (id ∷ ids) x rise less =
    let above = rise.0 in
    or_from (id == x) (has ids x) (ne_eqb id x (λ same. omega arith)) (has_no_less (id + 1) ids x rise.2 (omega arith))

has_first : (id : ℕ) (ids : List ℕ) → has (id ∷ ids) id ≡ true
has_first id ids = or_left (id == id) (has ids id) (eq-eqb id id refl)

-- two that have the same members begin alike
not_before : (id other : ℕ) (ids others : List ℕ) → AscendFrom other (other ∷ others) → has (id ∷ ids) id ≡ has (other ∷ others) id → id < other → ⊥
not_before id other ids others rise same less =
    true≢false (sym (has_first id ids) ∙ same ∙ has_no_less other (other ∷ others) id rise less)

-- and go on alike
rest_agrees : (id : ℕ) (ids others : List ℕ) → AscendFrom (id + 1) ids → AscendFrom (id + 1) others
    → ((x : ℕ) → has (id ∷ ids) x ≡ has (id ∷ others) x) → (x : ℕ) → has ids x ≡ has others x
rest_agrees id ids others rise climb same x =
    elim (cases_eq id x) [
      | inl here ↦ has_no_less (id + 1) ids x rise (omega arith) ∙ sym (has_no_less (id + 1) others x climb (omega arith))
      | inr apart ↦
          let differs = ne_eqb id x apart in
          or_rest (id == x) (id == x) (has ids x) (has others x) differs differs (same x)
    ]

-- two that have the same members are one list
same_ascending : (low : ℕ) (ids others : List ℕ) → AscendFrom low ids → AscendFrom low others → ((x : ℕ) → has ids x ≡ has others x) → ids ≡ others
same_ascending low [] [] rise climb same = refl
same_ascending low [] (other ∷ others) rise climb same = absurd (false≢true (same other ∙ has_first other others))
same_ascending low (id ∷ ids) [] rise climb same = absurd (false≢true (sym (same id) ∙ has_first id ids))
same_ascending low (id ∷ ids) (other ∷ others) rise climb same =
    elim (cases_order id other) [
      | inl first ↦
          let climbs : AscendFrom (id + 1) others = rw first climb.2 in
          let alike : (x : ℕ) → has (id ∷ ids) x ≡ has (id ∷ others) x =
          λ x. subst (λ o. has (id ∷ ids) x ≡ has (o ∷ others) x) (sym first) (same x) in
          rw first (ap (λ l. other ∷ l) (same_ascending (id + 1) ids others rise.2 climbs (rest_agrees id ids others rise.2 climbs alike)))
      | inr (inl less) ↦ absurd (not_before id other ids others (omega arith, climb.1, climb.2) (same id) less)
      | inr (inr less) ↦ absurd (not_before other id others ids (omega arith, rise.1, rise.2) (sym (same other)) less)
    ]

-- ---- sorting, and dropping the repeats

-- what a sorted list gives without its repeats: ids that ascend, the set of the list
pub record IsSetOf (list ids : List ℕ) : Type 0 where
  pub ascends : AscendFrom 0 ids
  pub is : ids ≡ id_set list

pub set_of_sorted : (list sorted : List ℕ) → IsPermutation list sorted → IsSorted nat_cmp sorted → All IsId list → IsSetOf list (dedup eqb sorted)
set_of_sorted list sorted moved up small =
    let rise = ascends_from_pairs 0 (dedup eqb sorted) (AllPairs-from_increasing _ (IsStrictlyIncreasing-dedup sorted up)) (λ k d within. omega arith)
    (All-dedup eqb IsId sorted (All-permutation IsId list sorted moved small)) in
    record {
      ascends = rise;
      is = same_ascending 0 _ _ rise (set_ascends list small)
          (λ x. has_deduped sorted x ∙ sym (list_any-IsPermutation (λ other. other == x) list sorted moved) ∙ sym (has_set list x));
    }

-- ---- looking by halves
-- the ids of a list that ascends from a low one on are not below it
not_below : (low : ℕ) (ids : List ℕ) → AscendFrom low ids → (j : ℕ) → j < length ids → low ≤ get_or ids j 0
not_below low [] rise j within = absurd (omega (arith, within))
not_below low (id ∷ ids) rise zero within = rise.0
not_below low (id ∷ ids) rise (suc j) within = omega (arith, rise.0, not_below (id + 1) ids rise.2 j (omega (arith, within)))

-- a later id is not below an earlier one
rises : (low : ℕ) (ids : List ℕ) → AscendFrom low ids → (i j : ℕ) → i ≤ j → j < length ids → get_or ids i 0 ≤ get_or ids j 0
rises low [] rise i j order within = absurd (omega (arith, within))
rises low (id ∷ ids) rise zero j order within = not_below id (id ∷ ids) (omega arith, rise.1, rise.2) j within
rises low (id ∷ ids) rise (suc i) zero order within = absurd (omega (arith, order))
rises low (id ∷ ids) rise (suc i) (suc j) order within = rises (id + 1) ids rise.2 i j (omega (arith, order)) (omega (arith, within))

said : (ids : List ℕ) (x : ℕ) (r : Result ℕ ℕ) → MatchResult r (λ i. (i < length ids) × (get_or ids i 0 ≡ x))
    (λ i. (i ≤ length ids) × ((k : ℕ) → k < i → get_or ids k 0 < x) × ((k : ℕ) → i ≤ k → k < length ids → x < get_or ids k 0))
    → is_ok r ≡ has ids x
said ids x (Ok i) there = sym (list_any_at (λ other. other == x) ids i 0 there.0 (eq-eqb (get_or ids i 0) x there.1))
said ids x (Err i) none = sym (list_any_none (λ other. other == x) ids (λ k d within. ne_eqb (get_or ids k d) x (λ same. apart k d within same)))
  where
    apart : (k d : ℕ) → k < length ids → get_or ids k d ≡ x → ⊥
    apart k d within same =
        let here : get_or ids k 0 ≡ x = sym (get_or_default_zero ids k d within) ∙ same in
        elim (cases_lt k i) [
          | inl low ↦ absurd (omega (arith, here, none.1 k low))
          | inr high ↦ absurd (omega (arith, here, none.2 k high within))
        ]

-- what a search by halves says of ids that ascend: whether the id is one of them
pub search_says : (ids : List ℕ) (x : ℕ) (r : Result ℕ ℕ) → ∥ AscendFrom 0 ids ∥₁ → IsBinarySearchResult (λ y. nat_cmp y x) ids r → is_ok r ≡ has ids x
search_says ids x r up found = ∥∥₁_elim up (Bool-set _ _) (λ rise. said ids x r (searched ids x r found (rises 0 ids rise)))

-- that ids ascend is a proposition
ascends_once : (low : ℕ) (ids : List ℕ) → IsProp (AscendFrom low ids)
ascends_once low [] = hlevel
ascends_once low (id ∷ ids) = let rest : IsProp (AscendFrom (id + 1) ids) = ascends_once (id + 1) ids in hlevel (le_prop, rest)

-- so of ids that ascend, as a type keeps it, it is known outright
pub ascends_there : (ids : List ℕ) → ∥ AscendFrom 0 ids ∥₁ → AscendFrom 0 ids
ascends_there ids up = ∥∥₁_elim up (ascends_once 0 ids) (λ rise. rise)

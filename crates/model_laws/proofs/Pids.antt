-- The least pid that isn't alive.
use Rattle.std.proofs.Common.{◌≡◌, ◌⊎◌, ℕ, zero, suc, ◌+◌, ◌<◌, ◌≤◌, not, Bool, true, false, List, length, map, Some}
use Rattle.std.proofs.Common.{None, refl, sym, ap, ◌∙◌, inl, inr, subst, arith, eqb}
use Rattle.std.specs.Prelude.{find, unwrap_or, nat_le}
use Rattle.std.specs.List.{list_any, range_with_len, IsDistinct}
use Rattle.std.specs.Cmp.{nat_eq_equiv}
use Rattle.std.proofs.lemmas.Bool.{cases_Bool, cases_lt, eqb-true, leb-true, cond-true, cond-false, and_parts, or_cases}
use Rattle.std.proofs.lemmas.Bool.{not_from_true, not_from_false, false_from_ne_true}
use Rattle.std.proofs.lemmas.List.{length-map}
use Rattle.std.proofs.lemmas.List.FromFn.{length-range_with_len}
use Rattle.std.proofs.lemmas.Map.Made.{length-le_from_is_member}
use Rattle.cm_base.specs.Limits.{last_pid}
use Rattle.model_cred.specs.Process.{Process, State, is_alive, is_pid}
use Rattle.model_run.specs.Ruling.{free_pid}
use Rattle.model_laws.specs.Owns.{IsLeastFree, LeastFreePid}
use Rattle.model_laws.proofs.Reaching.{alive_pid, distinct_cons, distinct_nil}

-- what a search among the numbers from one on finds: nothing, where all are alive, or the first that isn't
module _ (processes : List Process) where
  abbrev is_free : ℕ → Bool
  is_free pid = not (is_alive processes pid)

  record FirstFree (from n : ℕ) : Type 0 where
    pub low : from ≤ n
    pub free : is_alive processes n ≡ false
    pub earlier : (q : ℕ) → from ≤ q → q < n → is_alive processes q ≡ true

  record AllLive (from count : ℕ) : Type 0 where
    pub live : (q : ℕ) → from ≤ q → q < from + count → is_alive processes q ≡ true

  search : (count from : ℕ)
      → ((find is_free (range_with_len from count) ≡ None) × AllLive from count)
      ⊎ ((n : ℕ) × (find is_free (range_with_len from count) ≡ Some n) × FirstFree from n)
  search zero from = inl (refl, record { live = λ q low high. absurd (omega arith) })
  search (suc count) from =
      elim (cases_Bool (is_alive processes from)) [
        | inr dead ↦
            inr (
              from,
              cond-true (is_free from) (Some from) (find is_free (range_with_len (from + 1) count)) (not_from_false (is_alive processes from) dead),
              record { low = omega arith; free = dead; earlier = λ q low high. absurd (omega arith) },
            )
        | inl alive ↦
            let skip : find is_free (range_with_len from (suc count)) ≡ find is_free (range_with_len (from + 1) count)
            = cond-false (is_free from) (Some from) (find is_free (range_with_len (from + 1) count)) (not_from_true (is_alive processes from) alive) in
            let at : (q : ℕ) → from ≤ q → ((q ≡ from) ⊎ (from + 1 ≤ q))
            = λ (q : ℕ) (low : from ≤ q). elim (cases_lt from q) [ inl less ↦ inr (omega arith) | inr le ↦ inl (omega arith) ] in
            elim (search count (from + 1)) [
              | inl none ↦
                  inl (
                    skip ∙ none.0,
                    record {
                      live = λ q low high. elim (at q low) [
                        | inl same ↦ ap (is_alive processes) same ∙ alive
                        | inr above ↦ none.1.live q above (omega arith)
                      ];
                    },
                  )
              | inr found ↦
                  let low : from + 1 ≤ found.0 = found.2.low in
                  inr (
                    found.0,
                    skip ∙ found.1,
                    record {
                      low = omega arith;
                      free = found.2.free;
                      earlier = λ q below high. elim (at q below) [
                        | inl same ↦ ap (is_alive processes) same ∙ alive
                        | inr above ↦ found.2.earlier q above high
                      ];
                    },
                  )
            ]
      ]

-- the numbers of a range
range_bounds : (count from q : ℕ) → list_any (eqb q) (range_with_len from count) ≡ true → (from ≤ q) × (q < from + count)
range_bounds zero from q wrong = absurd (cc)
range_bounds (suc count) from q is =
    elim (or_cases (eqb q from) (list_any (eqb q) (range_with_len (from + 1) count)) is) [
      | inl same ↦ let e : q ≡ from = eqb-true q from same in (omega arith, omega arith)
      | inr rest ↦
          let parts : (from + 1 ≤ q) × (q < (from + 1) + count) = range_bounds count (from + 1) q rest in
          let low : from + 1 ≤ q = parts.0 in
          let high : q < (from + 1) + count = parts.1 in
          (omega arith, omega arith)
    ]

range_distinct : (count from : ℕ) → IsDistinct eqb (range_with_len from count)
range_distinct zero from = distinct_nil
range_distinct (suc count) from =
    distinct_cons from (range_with_len (from + 1) count)
    (false_from_ne_true (list_any (eqb from) (range_with_len (from + 1) count))
    (λ is. let low : from + 1 ≤ from = (range_bounds count (from + 1) from is).0 in omega arith))
    (range_distinct count (from + 1))

-- one of the first numbers, one more than there are processes, isn't alive
some_free : (processes : List Process) → AllLive processes 1 (suc (length processes)) → ⊥
some_free processes all =
    let le : length (range_with_len 1 (suc (length processes))) ≤ length (map (λ p. p.pid) processes)
    = length-le_from_is_member nat_eq_equiv (range_with_len 1 (suc (length processes))) (map (λ p. p.pid) processes) (range_distinct (suc (length processes)) 1)
    (λ q in_it.
    let bounds : (1 ≤ q) × (q < 1 + suc (length processes)) = range_bounds (suc (length processes)) 1 q in_it in
    alive_pid processes q (all.live q bounds.0 bounds.1)) in
    let count : length (range_with_len 1 (suc (length processes))) ≡ suc (length processes) = length-range_with_len 1 (suc (length processes)) in
    let same : length (map (λ p. p.pid) processes) ≡ length processes = length-map processes (λ p. p.pid) in
    omega arith

-- a pid is from 1 to the last
pid_bounds : (n : ℕ) → is_pid n ≡ true → (1 ≤ n) × (n ≤ last_pid)
pid_bounds n is = let parts = and_parts (nat_le 1 n) (nat_le n last_pid) is in (leb-true 1 n parts.0, leb-true n last_pid parts.1)

no_pid : (n : ℕ) → 1 ≤ n → is_pid n ≡ false → last_pid < n
no_pid n low is = grind arith

pub free_is_least : (s : State) → IsLeastFree s (free_pid s)
free_is_least s =
    elim (search s.processes (suc (length s.processes)) 1) [
      | inl none ↦ absurd (some_free s.processes none.1)
      | inr found ↦
          let is : free_pid s ≡ found.0 = ap (λ o. unwrap_or o 0) found.1 in
          subst (IsLeastFree s) (sym is) (record {
            fresh = λ _. found.2.free;
            least = λ pid a_pid below. found.2.earlier pid (pid_bounds pid a_pid).0 below;
            none = λ not_pid pid a_pid.
                let past : last_pid < found.0 = no_pid found.0 found.2.low not_pid in
                let last : pid ≤ last_pid = (pid_bounds pid a_pid).1 in
                found.2.earlier pid (pid_bounds pid a_pid).0 (omega arith);
          })
    ]

pub least_free_pid : LeastFreePid
unfolding LeastFreePid
least_free_pid = free_is_least

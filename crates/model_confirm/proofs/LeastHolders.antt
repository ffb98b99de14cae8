-- The least of the members that hold a right.
use Rattle.std.proofs.Common.{◌≡◌, ℕ, ◌≤◌, nat_le, ◌==◌, true, false, List, [], ◌∷◌, Option, None, Some, refl, sym, ap}
use Rattle.std.proofs.Common.{◌∙◌, inl, inr, subst, arith}
use Rattle.std.proofs.lemmas.Bool.{cases_Bool, cond-true, cond-false, eqb-true, eq-eqb, or_cases, or_left, or_right}
use Rattle.model_confirm.specs.Confirm.{lesser, least_holder}
use Rattle.model_cred.specs.Process.{State}
use Rattle.model_cred.specs.Right.{Right}
use Rattle.model_plans.specs.Firsts.{IsLeastHolder, NoneHolds}
use Rattle.model_run.specs.Holds.{process_holds}
use Rattle.model_run.specs.Later.{is_member}

-- what a least holder is, or that there is none
abbrev pub Least : State → List ℕ → Right → Option ℕ → Type 0
Least s members right None = NoneHolds s members right
Least s members right (Some pid) = IsLeastHolder s members right pid

module _ (s : State) (right : Right) (m : ℕ) (members : List ℕ) where
  head_member : is_member (m ∷ members) m ≡ true
  head_member = or_left (m == m) (is_member members m) (eq-eqb m m refl)

  tail_member : (pid : ℕ) → is_member members pid ≡ true → is_member (m ∷ members) pid ≡ true
  tail_member pid is = or_right (m == pid) (is_member members pid) is

  -- what holds of the first and of the others holds of each
  of_each : (P : ℕ → Type 0) → P m → ((pid : ℕ) → is_member members pid ≡ true → P pid) → (pid : ℕ) → is_member (m ∷ members) pid ≡ true → P pid
  of_each P first others pid is =
      elim (or_cases (m == pid) (is_member members pid) is) [
        | inl same ↦ subst P (eqb-true m pid same) first
        | inr later ↦ others pid later
      ]

  -- the first doesn't hold the right
  not_first : process_holds s m right ≡ false → (found : Option ℕ) → Least s members right found → Least s (m ∷ members) right found
  not_first fails None none = of_each (λ pid. process_holds s pid right ≡ false) fails none
  not_first fails (Some pid) is = record {
    member = tail_member pid is.member;
    holds = is.holds;
    least = of_each (λ other. process_holds s other right ≡ true → pid ≤ other)
        (λ holds. absurd (let no : true ≡ false = sym holds ∙ fails in cc)) is.least;
  }

  -- the first does
  first_least : process_holds s m right ≡ true → ((other : ℕ) → is_member members other ≡ true → process_holds s other right ≡ true → m ≤ other)
      → IsLeastHolder s (m ∷ members) right m
  first_least holds others = record {
    member = head_member;
    holds = holds;
    least = of_each (λ other. process_holds s other right ≡ true → m ≤ other) (λ _. omega arith) others;
  }

  with_first : process_holds s m right ≡ true → (found : Option ℕ) → Least s members right found
      → Least s (m ∷ members) right (lesser (Some m) found)
  with_first holds None none = first_least holds (λ other is it. absurd (let no : true ≡ false = sym it ∙ none other is in cc))
  with_first holds (Some pid) is =
      elim (cases_Bool (nat_le m pid)) [
        | inl low ↦
            let below : m ≤ pid = grind (arith, low) in
            subst (Least s (m ∷ members) right) (sym (cond-true (nat_le m pid) (Some m) (Some pid) low))
            (first_least holds (λ other it has. let more : pid ≤ other = is.least other it has in omega arith))
        | inr high ↦
            let above : pid ≤ m = grind (arith, high) in
            subst (Least s (m ∷ members) right) (sym (cond-false (nat_le m pid) (Some m) (Some pid) high))
            (record {
              member = tail_member pid is.member;
              holds = is.holds;
              least = of_each (λ other. process_holds s other right ≡ true → pid ≤ other) (λ _. above) is.least;
            })
      ]

-- The least holder is the least member that holds the right; where there is none, no member holds it.
pub least_is : (s : State) (members : List ℕ) (right : Right) → Least s members right (least_holder s members right)
least_is s [] right = λ pid is. absurd (let no : false ≡ true = is in cc)
least_is s (m ∷ members) right =
    let rest : Least s members right (least_holder s members right) = least_is s members right in
    let least : Option ℕ → Option ℕ = λ first. lesser first (least_holder s members right) in
    elim (cases_Bool (process_holds s m right)) [
      | inl holds ↦
          subst (λ (o : Option ℕ). Least s (m ∷ members) right (least o)) (sym (cond-true (process_holds s m right) (Some m) None holds))
          (with_first s right m members holds (least_holder s members right) rest)
      | inr fails ↦
          subst (λ (o : Option ℕ). Least s (m ∷ members) right (least o)) (sym (cond-false (process_holds s m right) (Some m) None fails))
          (not_first s right m members fails (least_holder s members right) rest)
    ]

-- There is one alone.
pub least_is_one : (s : State) (members : List ℕ) (right : Right) (found other : Option ℕ) → Least s members right found
    → Least s members right other → found ≡ other
least_is_one s members right None None one two = refl
least_is_one s members right None (Some q) one two = absurd (let no : true ≡ false = sym two.holds ∙ one q two.member in cc)
least_is_one s members right (Some p) None one two = absurd (let no : true ≡ false = sym one.holds ∙ two p one.member in cc)
least_is_one s members right (Some p) (Some q) one two =
    let low : p ≤ q = one.least q two.member two.holds in
    let high : q ≤ p = two.least p one.member one.holds in
    let same : p ≡ q = omega arith in
    ap (λ (n : ℕ). Some n) same

-- So what is such is the least holder.
pub least_only : (s : State) (members : List ℕ) (right : Right) (found : Option ℕ) → Least s members right found
    → least_holder s members right ≡ found
least_only s members right found is = least_is_one s members right (least_holder s members right) found (least_is s members right) is

-- Statements that are so or not so, and how they are put together.
use Rattle.std.proofs.Common.{◌≡◌, ◌⊎◌, ℕ, zero, suc, ◌+◌, ◌<◌, ◌==◌, Bool, true, false, Option, Some, refl, sym, ◌∙◌, inl, inr, subst, arith}
use Rattle.std.proofs.lemmas.Bool.{eqb-true, eq-eqb, false≢true}
use Rattle.model_cred.specs.IdMap.{is_the}
use Rattle.model_cred.proofs.Chains.{the_is, is_the_same}
use Rattle.model_verdict.proofs.Sums.{earlier_or_here}

-- it is so, or it isn't
abbrev pub Decided : Type 0 → Type 0
Decided A = A ⊎ (A → ⊥)

-- whether it is so
abbrev pub yes : {A : Type 0} → Decided A → Bool
yes (inl is) = true
yes (inr is_not) = false

pub yes_is : {A : Type 0} (d : Decided A) → yes d ≡ true → A
yes_is (inl is) so = is
yes_is (inr is_not) so = absurd (false≢true so)

pub is_yes : {A : Type 0} (d : Decided A) → A → yes d ≡ true
is_yes (inl is) it = refl
is_yes (inr is_not) it = absurd (is_not it)

pub never : Decided ⊥
never = inr (λ wrong. wrong)

pub tested_so : (b : Bool) → Decided (b ≡ true)
tested_so true = inl refl
tested_so false = inr (λ wrong. false≢true wrong)

pub tested_not : (b : Bool) → Decided (b ≡ false)
tested_not false = inl refl
tested_not true = inr (λ wrong. false≢true (sym wrong))

pub same_number : (m n : ℕ) → Decided (m ≡ n)
same_number m n = by (m == n) refl where
  by : (b : Bool) → (m == n) ≡ b → Decided (m ≡ n)
  by true is = inl (eqb-true m n is)
  by false is = inr (λ same. false≢true (sym is ∙ eq-eqb m n same))

pub same_option : (o : Option ℕ) (n : ℕ) → Decided (o ≡ Some n)
same_option o n = by (is_the o n) refl where
  by : (b : Bool) → is_the o n ≡ b → Decided (o ≡ Some n)
  by true is = inl (the_is o n is)
  by false is = inr (λ same. false≢true (sym is ∙ is_the_same o n same))

pub as_much : {A B : Type 0} → (A → B) → (B → A) → Decided A → Decided B
as_much to from (inl is) = inl (to is)
as_much to from (inr is_not) = inr (λ b. is_not (from b))

pub either : {A B : Type 0} → Decided A → Decided B → Decided (A ⊎ B)
either (inl a) b = inl (inl a)
either (inr not_a) (inl b) = inl (inr b)
either (inr not_a) (inr not_b) = inr (λ s. elim s [ inl a ↦ not_a a | inr b ↦ not_b b ])

pub both : {A B : Type 0} → Decided A → Decided B → Decided (A × B)
both (inl a) (inl b) = inl (a, b)
both (inr not_a) b = inr (λ t. not_a t.0)
both (inl a) (inr not_b) = inr (λ t. not_b t.1)

pub three : {A B C : Type 0} → Decided A → Decided B → Decided C → Decided (A × B × C)
three a b c = as_much (λ t. (t.0, t.1.0, t.1.1)) (λ t. (t.0, (t.1, t.2))) (both a (both b c))

pub four : {A B C D : Type 0} → Decided A → Decided B → Decided C → Decided D → Decided (A × B × C × D)
four a b c d = as_much (λ t. (t.0, t.1.0, t.1.1, t.1.2)) (λ t. (t.0, (t.1, t.2, t.3))) (both a (three b c d))

pub five : {A B C D E : Type 0} → Decided A → Decided B → Decided C → Decided D → Decided E → Decided (A × B × C × D × E)
five a b c d e = as_much (λ t. (t.0, t.1.0, t.1.1, t.1.2, t.1.3)) (λ t. (t.0, (t.1, t.2, t.3, t.4))) (both a (four b c d e))

pub six : {A B C D E F : Type 0} → Decided A → Decided B → Decided C → Decided D → Decided E → Decided F → Decided (A × B × C × D × E × F)
six a b c d e f = as_much (λ t. (t.0, t.1.0, t.1.1, t.1.2, t.1.3, t.1.4)) (λ t. (t.0, (t.1, t.2, t.3, t.4, t.5))) (both a (five b c d e f))

-- some number below a limit
pub some_below : (P : ℕ → Type 0) → ((x : ℕ) → Decided (P x)) → (limit : ℕ) → Decided ((x : ℕ) × (x < limit) × P x)
some_below P each zero = inr (λ t. let low : t.0 < 0 = t.1 in absurd (omega arith))
some_below P each (suc limit) = by (some_below P each limit) (each limit) where
  by : Decided ((x : ℕ) × (x < limit) × P x) → Decided (P limit) → Decided ((x : ℕ) × (x < suc limit) × P x)
  by (inl (x, low, is)) last = inl (x, omega arith, is)
  by (inr none) (inl is) = inl (limit, omega arith, is)
  by (inr none) (inr is_not) = inr (λ t. split t.0 t.1 t.2) where
    split : (x : ℕ) → x < suc limit → P x → ⊥
    split x low is = elim (cases x low) [
      | inl earlier ↦ none (x, earlier, is)
      | inr same ↦ is_not (subst P same is)
    ] where
      cases : (x : ℕ) → x < suc limit → (x < limit) ⊎ (x ≡ limit)
      cases x low = grind (arith, low)

-- some number, where each that it is so of is below a limit
pub some_low : (P : ℕ → Type 0) → ((x : ℕ) → Decided (P x)) → (limit : ℕ) → ((x : ℕ) → P x → x < limit) → Decided ((x : ℕ) × P x)
some_low P each limit low =
    as_much (λ t. (t.0, t.2)) (λ t. (t.0, low t.0 t.1, t.1)) (some_below P each limit)

-- the first number below a limit of which it is so
pub record FirstOf (P : ℕ → Type 0) : Type 0 where
  pub at : ℕ
  pub is : P at
  pub earlier : (x : ℕ) → x < at → P x → ⊥

none_more : (P : ℕ → Type 0) (k : ℕ) → ((x : ℕ) → x < k → P x → ⊥) → (P k → ⊥) → (x : ℕ) → x < suc k → P x → ⊥
none_more P k none last x low is = elim (earlier_or_here x k low) [
  | inl earlier ↦ none x earlier is
  | inr same ↦ last (subst P same is)
]

search_from : (P : ℕ → Type 0) → ((x : ℕ) → Decided (P x)) → (fuel k n : ℕ) → n < k + fuel → P n → ((x : ℕ) → x < k → P x → ⊥) → FirstOf P
search_from P each zero k n low is none = absurd (none n (omega (arith, low)) is)
search_from P each (suc fuel) k n low is none = elim (each k) [
  | inl here ↦ record { at = k; is = here; earlier = none }
  | inr not_here ↦ search_from P each fuel (suc k) n (omega (arith, low)) is (none_more P k none not_here)
]

pub first_of_which : (P : ℕ → Type 0) → ((x : ℕ) → Decided (P x)) → (n : ℕ) → P n → FirstOf P
first_of_which P each n is = search_from P each (suc n) 0 n (omega arith) is (λ x low. absurd (omega (arith, low)))

-- Members that stand in a space and pass a test: found from one, and given back.
use Rattle.std.proofs.Common.{◌≡◌, ℕ, ◌==◌, ◌&&◌, Bool, true, false, List, [], ◌∷◌, Option, None, Some, refl, sym, ap, ◌∙◌, inl, inr, subst}
use Rattle.std.specs.Prelude.{IsTrue}
use Rattle.std.specs.List.{list_any}
use Rattle.std.proofs.lemmas.Bool.{and_parts, and_from, or_cases, or_left, or_right, eqb-true, eq-eqb}
use Rattle.model_cred.specs.Credential.{Credential}
use Rattle.model_cred.specs.Process.{Process, State, process_at}
use Rattle.model_run.specs.Later.{is_member}

-- ---- lists
-- a test that passes where another does passes some item
pub any_more : {A : Type 0} (f g : A → Bool) (xs : List A) → ((x : A) → f x ≡ true → g x ≡ true) → list_any f xs ≡ true → list_any g xs ≡ true
any_more f g [] more some = absurd (cc)
any_more f g (x ∷ xs) more some = elim (or_cases (f x) (list_any f xs) some) [
  | inl here ↦ or_left (g x) (list_any g xs) (more x here)
  | inr later ↦ or_right (g x) (list_any g xs) (any_more f g xs more later)
]

-- the number is in the list, and passes
pub any_at : (test : ℕ → Bool) (xs : List ℕ) (n : ℕ) → list_any (λ m. m == n) xs ≡ true → test n ≡ true → list_any test xs ≡ true
any_at test xs n listed passes =
    any_more (λ m. m == n) test xs (λ m same. subst (λ (k : ℕ). test k ≡ true) (sym (eqb-true m n same)) passes) listed

-- an item that passes
pub record Passing (test : ℕ → Bool) (xs : List ℕ) : Type 0 where
  pub item : ℕ
  pub listed : list_any (λ m. m == item) xs ≡ true
  pub passes : test item ≡ true

pub any_which : (test : ℕ → Bool) (xs : List ℕ) → list_any test xs ≡ true → Passing test xs
any_which test [] some = absurd (cc)
any_which test (x ∷ xs) some = elim (or_cases (test x) (list_any test xs) some) [
  | inl here ↦ record { item = x; listed = or_left (x == x) (list_any (λ m. m == x) xs) (eq-eqb x x refl); passes = here }
  | inr later ↦
      let rest : Passing test xs = any_which test xs later in
      record { item = rest.item; listed = or_right (x == rest.item) (list_any (λ m. m == rest.item) xs) rest.listed; passes = rest.passes }
]

-- ---- members
-- an optional process stands in the space, and its credential passes
abbrev pub passes_in : ℕ → (Credential → Bool) → Option Process → Bool
passes_in n test None = false
passes_in n test (Some p) = p.space == n && test p.cred

-- some member stands in the space with a credential that passes
abbrev pub some_in : State → List ℕ → ℕ → (Credential → Bool) → Bool
some_in s members n test = list_any (λ pid. passes_in n test (process_at s.processes pid)) members

-- such a member
pub record MemberIn (s : State) (members : List ℕ) (n : ℕ) (test : Credential → Bool) : Type 0 where
  pub pid : ℕ
  pub p : Process
  pub member : IsTrue (is_member members pid)
  pub at : process_at s.processes pid ≡ Some p
  pub space : p.space ≡ n
  pub passes : test p.cred ≡ true

pub some_from : (s : State) (members : List ℕ) (n : ℕ) (test : Credential → Bool) (pid : ℕ) (p : Process) → IsTrue (is_member members pid)
    → process_at s.processes pid ≡ Some p → p.space ≡ n → test p.cred ≡ true → some_in s members n test ≡ true
some_from s members n test pid p member at space passes =
    any_at (λ other. passes_in n test (process_at s.processes other)) members pid member
    (ap (passes_in n test) at ∙ and_from (p.space == n) (test p.cred) (eq-eqb p.space n space) passes)

which_passes : (n : ℕ) (test : Credential → Bool) (o : Option Process) → passes_in n test o ≡ true
    → (p : Process) × (o ≡ Some p) × (p.space ≡ n) × (test p.cred ≡ true)
which_passes n test None wrong = absurd (cc)
which_passes n test (Some p) is =
    let both = and_parts (p.space == n) (test p.cred) is in (p, refl, eqb-true p.space n both.0, both.1)

pub some_which : (s : State) (members : List ℕ) (n : ℕ) (test : Credential → Bool) → some_in s members n test ≡ true → MemberIn s members n test
some_which s members n test some =
    let found : Passing (λ pid. passes_in n test (process_at s.processes pid)) members
    = any_which (λ pid. passes_in n test (process_at s.processes pid)) members some in
    let it = which_passes n test (process_at s.processes found.item) found.passes in
    record { pid = found.item; p = it.0; member = found.listed; at = it.1; space = it.2; passes = it.3 }

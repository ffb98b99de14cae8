-- Sums over the numbers below a limit, and a sequence that falls and so comes to rest.
use Rattle.std.proofs.Common.{◌≡◌, ◌⊎◌, ℕ, zero, suc, ◌+◌, ◌<◌, ◌≤◌, Bool, true, false, refl, sym, inl, inr, subst, arith}

pub sum_below : (ℕ → ℕ) → ℕ → ℕ
sum_below g zero = 0
sum_below g (suc n) = sum_below g n + g n

pub sum_more : (g h : ℕ → ℕ) (n : ℕ) → ((i : ℕ) → i < n → g i ≤ h i) → sum_below g n ≤ sum_below h n
unfolding sum_below
sum_more g h zero more = omega arith
sum_more g h (suc n) more =
    let rest : sum_below g n ≤ sum_below h n = sum_more g h n (λ i low. more i (omega (arith, low))) in
    let last : g n ≤ h n = more n (omega arith) in
    omega (arith, rest, last)

-- a number below the next one is below it or is it
pub earlier_or_here : (i n : ℕ) → i < suc n → (i < n) ⊎ (i ≡ n)
earlier_or_here i n low = grind (arith, low)

-- where no term falls and the sum doesn't grow, no term grows
pub sum_same : (g h : ℕ → ℕ) (n : ℕ) → ((i : ℕ) → i < n → g i ≤ h i) → sum_below h n ≤ sum_below g n → (i : ℕ) → i < n → h i ≤ g i
unfolding sum_below
sum_same g h zero more less i low = absurd (omega (arith, low))
sum_same g h (suc n) more less i low =
    let before : sum_below g n ≤ sum_below h n = sum_more g h n (λ j below. more j (omega (arith, below))) in
    let last : g n ≤ h n = more n (omega arith) in
    elim (earlier_or_here i n low) [
      | inl earlier ↦ sum_same g h n (λ j below. more j (omega (arith, below))) (omega (arith, less, before, last)) i earlier
      | inr here ↦ subst (λ (j : ℕ). h j ≤ g j) (sym here) (omega (arith, less, before, last))
    ]

-- a bit as a number
pub bit : Bool → ℕ
bit false = 0
bit true = 1

pub bit_more : (a b : Bool) → (a ≡ true → b ≡ true) → bit a ≤ bit b
unfolding bit
bit_more true false more = absurd (let no : false ≡ true = more refl in cc)
bit_more _ _ more = omega arith

pub more_bit : (a b : Bool) → bit b ≤ bit a → b ≡ true → a ≡ true
unfolding bit
more_bit true b less is = refl
more_bit false true less is = absurd (omega (arith, less))
more_bit false false less is = absurd (let no : false ≡ true = is in cc)

pub grown_or_not : (m n : ℕ) → (n ≤ m) ⊎ (m < n)
grown_or_not m n = grind arith

comes_to_rest : (f : ℕ → ℕ) (fuel k : ℕ) → f k ≤ fuel → (j : ℕ) × (f j ≤ f (suc j))
comes_to_rest f zero k low = (k, omega (arith, low))
comes_to_rest f (suc fuel) k low = elim (grown_or_not (f (suc k)) (f k)) [
  | inl rests ↦ (k, rests)
  | inr falls ↦ comes_to_rest f fuel (suc k) (omega (arith, low, falls))
]

-- a sequence doesn't fall for ever
pub some_rest : (f : ℕ → ℕ) → (j : ℕ) × (f j ≤ f (suc j))
some_rest f = comes_to_rest f (f 0) 0 (omega arith)

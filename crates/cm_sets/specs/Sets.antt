-- Sets of numbers. A set is told by what it holds; here is what is said of one set, and of two.
use Rattle.std.specs.Prelude.{◌↔◌, ◌⊎◌, ℕ, ◌<◌}

-- the one or the other holds the number
abbrev pub InEither : (ℕ → Type 0) → (ℕ → Type 0) → ℕ → Type 0
InEither One Other n = One n ⊎ Other n

-- both hold the number
abbrev pub InBoth : (ℕ → Type 0) → (ℕ → Type 0) → ℕ → Type 0
InBoth One Other n = One n × Other n

-- Both hold the same numbers.
abbrev pub AreSame : (ℕ → Type 0) → (ℕ → Type 0) → Type 0
AreSame One Other = (n : ℕ) → One n ↔ Other n

-- Each number that the one holds, the wider holds.
abbrev pub IsWithin : (ℕ → Type 0) → (ℕ → Type 0) → Type 0
IsWithin One Wider = (n : ℕ) → One n → Wider n

-- The one holds a number that the other doesn't: this one.
abbrev pub Exceeds : (ℕ → Type 0) → (ℕ → Type 0) → Type 0
Exceeds One Other = (n : ℕ) × One n × (¬ Other n)

-- No number is held.
abbrev pub HoldsNone : (ℕ → Type 0) → Type 0
HoldsNone Set = (n : ℕ) → ¬ Set n

-- A number is held: this one.
abbrev pub HoldsSome : (ℕ → Type 0) → Type 0
HoldsSome Set = (n : ℕ) × Set n

-- Each number that is held is below the count.
abbrev pub IsBelow : ℕ → (ℕ → Type 0) → Type 0
IsBelow count Set = (n : ℕ) → Set n → n < count

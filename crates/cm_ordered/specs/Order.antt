-- Things in the order of their numbers, each found by its place.
use Rattle.std.specs.Prelude.{◌≡◌, ℕ, ◌==◌, zero, suc, Bool, true, false, not, nat_lt, filter, slice_get, List, [], ◌∷◌}
use Rattle.std.specs.Prelude.{length, if◌then◌else◌}
use Rattle.std.specs.List.{AllWithin}
use Rattle.std.specs.Option.{option_map_or}

-- the test says this of each of them
abbrev pub AllSay : {A : Type 0} → (A → Bool) → Bool → List A → Type 0
AllSay test answer [] = Unit {0}
AllSay test answer (x ∷ xs) = (test x ≡ answer) × AllSay test answer xs

-- each comes before all those that stand after it
abbrev pub Ascends : {A : Type 0} → (A → A → Bool) → List A → Type 0
Ascends before [] = Unit {0}
Ascends before (x ∷ xs) = AllSay (before x) true xs × Ascends before xs

-- ---- by numbers
-- the thing with the lower number comes before the other one
abbrev pub before_by : {A : Type 0} → (A → ℕ) → A → A → Bool
before_by number = λ x y. nat_lt (number x) (number y)

-- the thing has a lower number
abbrev pub below_by : {A : Type 0} → (A → ℕ) → ℕ → A → Bool
below_by number n = λ x. nat_lt (number x) n

-- the thing has that number
abbrev pub has_number : {A : Type 0} → (A → ℕ) → ℕ → A → Bool
has_number number n = λ x. number x == n

-- a thing in its place among others in the order of their numbers, instead of one of its number
abbrev pub put_by : {A : Type 0} → (A → ℕ) → A → List A → List A
put_by number new [] = new ∷ []
put_by number new (old ∷ others) =
    if nat_lt (number new) (number old) then new ∷ old ∷ others
    else if nat_lt (number old) (number new) then old ∷ put_by number new others else new ∷ others

-- all but the thing of that number
abbrev pub others_by : {A : Type 0} → (A → ℕ) → ℕ → List A → List A
others_by number n xs = filter (λ x. not (has_number number n x)) xs

-- ---- places
-- the things before the place are below what is looked for, and no other ones are
abbrev pub IsCut : {A : Type 0} → (A → Bool) → List A → ℕ → Type 0
IsCut below [] at = at ≡ 0
IsCut below (x ∷ xs) zero = (below x ≡ false) × AllSay below false xs
IsCut below (x ∷ xs) (suc at) = (below x ≡ true) × IsCut below xs at

-- the things before the one place are below what is looked for, and those from the other one on are not
abbrev pub IsBetween : {A : Type 0} → (A → Bool) → List A → ℕ → ℕ → Type 0
IsBetween below xs from end = AllWithin (λ x. below x ≡ true) xs 0 from × AllWithin (λ x. below x ≡ false) xs end
    (length xs)

-- what is looked for stands at the place
abbrev pub is_at : {A : Type 0} → (A → Bool) → List A → ℕ → Bool
is_at same xs at = option_map_or same (slice_get xs at) false

-- what is looked for stands at the place, and nowhere else
abbrev pub StandsAt : {A : Type 0} → (A → Bool) → List A → ℕ → Type 0
StandsAt same [] at = ⊥
StandsAt same (x ∷ xs) zero = (same x ≡ true) × AllSay same false xs
StandsAt same (x ∷ xs) (suc at) = (same x ≡ false) × StandsAt same xs at

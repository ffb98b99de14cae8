-- A list whose elements are changed one after another.
use Rattle.std.proofs.Common.{◌≡◌, ℕ, zero, suc, ◌<◌, length, List, [], ◌∷◌, map, refl, ◌∙◌, ap, arith, get_or, slice_set}

-- the list with its first so many elements changed
abbrev pub map_first : {A : Type 0} → ℕ → (A → A) → List A → List A
map_first zero f xs = xs
map_first (suc i) f [] = []
map_first (suc i) f (x ∷ xs) = f x ∷ map_first i f xs

-- one more of them is changed
pub map_next : {A : Type 0} (f : A → A) (i : ℕ) (xs : List A) (old new : A) → i < length xs → old ≡ get_or (map_first i f xs) i old → new ≡ f old
    → slice_set (map_first i f xs) i new ≡ map_first (suc i) f xs
map_next f i [] old new h is made = absurd (omega arith)
map_next f zero (x ∷ xs) old new h is made = ap (λ y. y ∷ xs) (made ∙ ap f is)
map_next f (suc i) (x ∷ xs) old new h is made = ap (λ ys. f x ∷ ys) (map_next f i xs old new (omega arith) is made)

-- all of them are changed
pub map_whole : {A : Type 0} (f : A → A) (xs : List A) → map_first (length xs) f xs ≡ map f xs
map_whole f [] = refl
map_whole f (x ∷ xs) = ap (λ ys. f x ∷ ys) (map_whole f xs)

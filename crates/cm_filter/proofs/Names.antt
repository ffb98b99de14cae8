-- The first unknown one among names.
use Rattle.std.proofs.Common.{◌≡◌, suc, ◌+◌, Bool, not, List, [], ◌∷◌, length, map, refl, ap, cond}
use Rattle.std.specs.Prelude.{position}
use Rattle.std.specs.List.{prefix_len}

prefix_len-map : {A B : Type 0} (p : B → Bool) (f : A → B) (xs : List A) → prefix_len p (map f xs) ≡ prefix_len (λ x. p (f x)) xs
prefix_len-map p f [] = refl
prefix_len-map p f (x ∷ xs) = ap (λ n. cond (p (f x)) (1 + n) 0) (prefix_len-map p f xs)

length-map : {A B : Type 0} (f : A → B) (xs : List A) → length (map f xs) ≡ length xs
length-map f [] = refl
length-map f (x ∷ xs) = ap suc (length-map f xs)

-- the place among things that have names is the place among their names
pub position_map : {A B : Type 0} (p : B → Bool) (f : A → B) (xs : List A) → position p (map f xs) ≡ position (λ x. p (f x)) xs
position_map p f xs = rw (prefix_len-map (λ b. not (p b)) f xs, length-map f xs)

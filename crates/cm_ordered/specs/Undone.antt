-- Lists of things that have numbers, and what puts them back as they were at a savepoint.
use Rattle.std.specs.Prelude.{◌≡◌, ℕ, ◌≤◌, Bool, true, find, length, List, [], ◌∷◌, ◌++◌}
use Rattle.std.specs.Prelude.{Option, Some, None, if◌then◌else◌}
use Rattle.cm_ordered.specs.Order.{Ascends, before_by, has_number, others_by, put_by}

-- Whether a savepoint is set, and what stood at numbers before their changes since then, the last one last.
pub record Undo (A : Type 0) : Type 0 where
  pub saving : Bool
  pub entries : List (ℕ × Option A)

-- A list: its things, those at the savepoint, where one is set, and for how many there is room.
pub record Tracked (A : Type 0) : Type 0 where
  pub items : List A
  pub saved : Option (List A)
  pub room : ℕ

-- what stood at a number, where it stood
abbrev pub put_back : {A : Type 0} → (A → ℕ) → ℕ → Option A → List A → List A
put_back number n (Some x) xs = put_by number x xs
put_back number n None xs = others_by number n xs

-- all that was saved put back, the last of it first
abbrev pub undone : {A : Type 0} → (A → ℕ) → List (ℕ × Option A) → List A → List A
undone number [] xs = xs
undone number (u ∷ us) xs = put_back number u.0 u.1 (undone number us xs)

-- there is room for the list while all is put back
abbrev pub HasRoom : {A : Type 0} → (A → ℕ) → ℕ → List (ℕ × Option A) → List A → Type 0
HasRoom number room [] xs = length xs ≤ room
HasRoom number room (u ∷ us) xs = (length (undone number (u ∷ us) xs) ≤ room) × HasRoom number room us xs

-- what stands at a number saved too, where a savepoint is set
abbrev pub saving_at : {A : Type 0} → (A → ℕ) → ℕ → List A → Undo A → Undo A
saving_at number n xs u =
    if u.saving then record { saving = true; entries = u.entries ++ (n, find (has_number number n) xs) ∷ [] } else u

-- the list at the savepoint, where one is set
abbrev pub saved_list : {A : Type 0} → (A → ℕ) → Undo A → List A → Option (List A)
saved_list number u xs = if u.saving then Some (undone number u.entries xs) else None

-- The list stands in its order, and can be put back.
pub record CanUndo {A : Type 0} (number : A → ℕ) (u : Undo A) (xs : List A) (places : ℕ) : Type 0 where
  pub ascends : Ascends (before_by number) xs
  pub room : u.saving ≡ true → HasRoom number places u.entries xs

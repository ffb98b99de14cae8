-- The user id that is sought for a capability over a space, said a second way.
use Rattle.std.specs.Prelude.{◌≡◌, ◌≢◌, ℕ, IsTrue, None, Some}
use Rattle.model_cred.specs.Right.{Cap}
use Rattle.model_cred.specs.Space.{Spaces, IsTree, is_at_or_above, space_of}
use Rattle.model_plans.specs.Move.{sought_uid}

-- the third space is at or above the second, and its parent is the first: it is the next one on the way down
abbrev pub IsOnTheWay : Spaces → ℕ → ℕ → ℕ → Type 0
IsOnTheWay spaces at n next = IsTrue (is_at_or_above spaces next n) × ((space_of spaces next).parent ≡ Some at)

-- Where a member is in a space above that of the right, the owner of the next space on the way down is sought; there is
-- such a space. Elsewhere no user id is sought.
pub record SoughtOwner (spaces : Spaces) (at cap n : ℕ) : Type 0 where
  pub owner : (next : ℕ) → IsOnTheWay spaces at n next
      → sought_uid spaces at (Cap cap n) ≡ Some (space_of spaces next).owner
  pub one : IsTrue (is_at_or_above spaces at n) → at ≢ n → (next : ℕ) × IsOnTheWay spaces at n next
  pub above : (next : ℕ) → IsOnTheWay spaces at n next → IsTrue (is_at_or_above spaces at n) × (at ≢ n)
  pub none : ((next : ℕ) → IsOnTheWay spaces at n next → ⊥) → sought_uid spaces at (Cap cap n) ≡ None

-- So it is in each tree of spaces.
unfoldable pub OwnersAreSought : Type 0
OwnersAreSought = (spaces : Spaces) (at cap n : ℕ) → IsTree spaces → SoughtOwner spaces at cap n

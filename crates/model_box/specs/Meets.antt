-- Bounds that meet a right, and what closed covering bounds exclude.
use Rattle.std.specs.Prelude.{◌⊎◌, ℕ, ◌<◌, IsTrue}
use Rattle.model_cred.specs.Right.{Right, Cap, Uid, Gid}
use Rattle.model_cred.specs.Space.{Spaces, is_at_or_above, stands, space_of}
use Rattle.model_box.specs.Row.{Part, EffectiveUids, EffectiveGids, Groups, PermittedCaps, Row, Standing, Fresh}
use Rattle.model_box.specs.Row.{row_number, space_under, HasMembers}
use Rattle.model_box.specs.Spread.{IsNext}

-- The bounds meet the right by this row, the spaces being those of the query. A capability over a space: by the
-- standing row of the space or of one above it, where a member there can have the capability itself, or of one above
-- it, where a member can own the next space on the chain. An id: by any row that can have it.
abbrev pub MeetsAt : Spaces → (Row → Part → ℕ → Type 0) → Right → Row → Type 0
MeetsAt spaces bounds (Cap cap n) (Standing a) =
    (IsTrue (is_at_or_above spaces a n) × HasMembers (bounds (Standing a)) × bounds (Standing a) PermittedCaps cap)
    ⊎ ((m : ℕ) × IsNext spaces a n m × bounds (Standing a) EffectiveUids (space_of spaces m).owner)
MeetsAt spaces bounds (Cap cap n) (Fresh a) = ⊥
MeetsAt spaces bounds (Uid id) row = bounds row EffectiveUids id
MeetsAt spaces bounds (Gid id) row = bounds row EffectiveGids id ⊎ bounds row Groups id

-- The bounds meet the right: by some row of a standing space.
abbrev pub Meets : Spaces → (Row → Part → ℕ → Type 0) → Right → Type 0
Meets spaces bounds right = (row : Row) × IsTrue (stands spaces (space_under row)) × MeetsAt spaces bounds right row

-- the first row by which the bounds meet the right
pub record IsFirstMet (spaces : Spaces) (bounds : Row → Part → ℕ → Type 0) (right : Right) (row : Row) : Type 0 where
  pub standing : IsTrue (stands spaces (space_under row))
  pub meets : MeetsAt spaces bounds right row
  pub first : (earlier : Row) → row_number earlier < row_number row → MeetsAt spaces bounds right earlier → ⊥

-- the space that the right names, where it names one, stands
abbrev pub IsOverStanding : Spaces → Right → Type 0
IsOverStanding spaces (Cap cap n) = IsTrue (stands spaces n)
IsOverStanding spaces (Uid id) = Unit {0}
IsOverStanding spaces (Gid id) = Unit {0}

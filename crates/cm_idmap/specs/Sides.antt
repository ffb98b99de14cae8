-- The two sides of an extent, and lists in the order of one of them.
use Rattle.std.specs.Prelude.{ℕ, ◌+◌, ◌<◌, ◌≤◌, Bool, List, slice_index_or, length}
use Rattle.model_cred.specs.IdMap.{Extent, lies_in}
use Rattle.cm_idmap.specs.declared.side.Side.{Side}
use Rattle.cm_idmap.specs.declared.side.Side.TheVariants.{Inside, Outside}

-- the first id of the extent on that side
abbrev pub first_of : Side → Extent → ℕ
first_of Inside e = e.inside
first_of Outside e = e.outside

-- the extent holds the id on that side
abbrev pub holds : Side → ℕ → Extent → Bool
holds side id e = lies_in (first_of side e) e.length id

-- Each extent of the list begins, on that side, after the ids of each one before it.
abbrev pub AscendsOn : Side → List Extent → Type 0
AscendsOn side list =
    (i j : ℕ) (d : Extent) → i < j → j < length list
    → first_of side (slice_index_or list i d) + (slice_index_or list i d).length
    ≤ first_of side (slice_index_or list j d)

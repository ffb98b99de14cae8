-- What can come into maps, of users' ids and of groups' alike.
use Rattle.std.specs.Prelude.{◌≡◌, ℕ, IsTrue, is_none, List, Option, Some}
use Rattle.cm_box_rows.specs.declared.kind.IdKind.{IdKind}
use Rattle.cm_box_rows.specs.declared.kind.IdKind.TheVariants.{Users}
use Rattle.cm_box_rows.specs.declared.kind.IdKind.TheVariants as kinds
use Rattle.cm_box_rows.specs.Spread.{NewIdBy}
use Rattle.cm_filter.specs.declared.kind.CallKind.{CallKind}
use Rattle.cm_filter.specs.declared.kind.CallKind.TheVariants as call
use Rattle.model_cred.specs.IdMap.{Extent}
use Rattle.model_cred.specs.Space.{Space, Spaces, space_of}
use Rattle.model_box.specs.Row.{Part, Row, Standing}

-- the call that writes the map of these ids
abbrev pub call_for : IdKind → CallKind
call_for Users = call.WriteUidMap
call_for kinds.Groups = call.WriteGidMap

-- the map of these ids
abbrev pub map_of : IdKind → Space → Option (List Extent)
map_of Users space = space.uids
map_of kinds.Groups space = space.gids

-- what can come into the map of a standing space, where it isn't written
abbrev pub IdsWritten : IdKind → Spaces → (Row → Part → ℕ → Type 0) → ℕ → ℕ → Type 0
IdsWritten kind spaces bounds n x =
    IsTrue (is_none (map_of kind (space_of spaces n)))
    × ((q : ℕ) × ((space_of spaces n).parent ≡ Some q)
    × NewIdBy kind (bounds (Standing n)) (bounds (Standing q)) (space_of spaces n).owner x)

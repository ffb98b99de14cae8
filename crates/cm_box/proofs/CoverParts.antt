-- Where a row holds what the start bounds hold there: what the space maps, and what each member has that stands in it.
use Rattle.std.proofs.Common.{◌≡◌, ℕ, ◌*◌, ◌<◌, ◌≤◌, ◌==◌, Bool, true, false, List, length, get_or, refl, subst, inl}
use Rattle.std.proofs.Common.{inr, arith}
use Rattle.std.specs.Prelude.{◌↔◌, IsTrue, All, Any}
use Rattle.std.proofs.lemmas.Bool.{eqb-true, eq-eqb, ltb-true}
use Rattle.std.proofs.lemmas.List.Folds.{Any-from_list_any, list_any_at}
use Rattle.std.proofs.lemmas.List.Elements.{All-get_or, All-from_get_or}
use Rattle.model_cred.specs.Process.{State}
use Rattle.model_cred.specs.Space.{Space, space_of}
use Rattle.model_run.specs.Later.{is_member}
use Rattle.model_box.specs.Bounds.{BoxRow, row_in}
use Rattle.model_box.specs.Row.{Part, MappedUids, MappedGids, Row, Standing, row_at, space_under}
use Rattle.model_box.specs.Start.{HoldsStart, HoldsStartAt, SpaceMaps}
use Rattle.cm_box_rows.specs.Members.{MapHeld, MemberHeld}
use Rattle.model_cred.specs.IdMap.{extents_of}
use Rattle.cm_box_rows.specs.Rows.{HoldsAll, RowHolds, RowsHold}
use Rattle.cm_box.proofs.Numbers.{all_rows}
use Rattle.cm_box_rows.proofs.Tests.{no}

-- what holds of each of a list holds of each number that is in it
each_member : (P : ℕ → Type 0) (members : List ℕ) → All P members → (pid : ℕ) → IsTrue (is_member members pid) → P pid
each_member P members all pid member =
    let found : Any (λ m. (m == pid) ≡ true) members = Any-from_list_any (λ m. m == pid) members member in
    let here : P found.1 = subst P found.3 (All-get_or P members found.0 found.1 found.2 all) in
    subst P (eqb-true found.1 pid found.4) here

every_place : (P : ℕ → Type 0) (members : List ℕ) → ((pid : ℕ) → IsTrue (is_member members pid) → P pid) → All P members
every_place P members all =
    All-from_get_or P members 0 (λ i low. all (get_or members i 0)
    (list_any_at (λ m. m == get_or members i 0) members i 0 low (eq-eqb (get_or members i 0) (get_or members i 0)
    refl)))

-- the space's maps are held where both of its maps are
pub maps_held : (space : Space) (row : Part → ℕ → Type 0)
    → (MapHeld (extents_of space.uids) (row MappedUids) × MapHeld (extents_of space.gids) (row MappedGids))
    ↔ HoldsAll row (SpaceMaps space)
maps_held space row = (to, λ all. (all MappedUids, all MappedGids)) where
  to : MapHeld (extents_of space.uids) (row MappedUids) × MapHeld (extents_of space.gids) (row MappedGids)
      → HoldsAll row (SpaceMaps space)
  to held MappedUids x out = held.0 x out
  to held MappedGids x out = held.1 x out
  to held _ x none = absurd none

-- as the answers of tests
pub maps_not : (space : Space) (row : Part → ℕ → Type 0) → ¬ (MapHeld (extents_of space.uids) (row MappedUids))
    → IsTrue false ↔ HoldsAll row (SpaceMaps space)
maps_not space row out = no (HoldsAll row (SpaceMaps space)) (λ all. out ((maps_held space row).1 all).0)

pub maps_rest : (space : Space) (row : Part → ℕ → Type 0) (b : Bool) → MapHeld (extents_of space.uids) (row MappedUids)
    → IsTrue b ↔ MapHeld (extents_of space.gids) (row MappedGids) → IsTrue b ↔ HoldsAll row (SpaceMaps space)
maps_rest space row b uids told = (
  λ is. (maps_held space row).0 (uids, told.0 is),
  λ all. told.1 ((maps_held space row).1 all).1,
)

-- a standing row holds its start where it holds the maps of its space and what each member has that stands there
module _ (s : State) (members : List ℕ) (bounds : Row → Part → ℕ → Type 0) (n : ℕ) where
  pub standing_held : (HoldsAll (bounds (Standing n)) (SpaceMaps (space_of s.spaces n))
      × All (MemberHeld s n (bounds (Standing n))) members)
      ↔ HoldsStartAt s members bounds (Standing n)
  standing_held = (to, from) where
    to : HoldsAll (bounds (Standing n)) (SpaceMaps (space_of s.spaces n))
        × All (MemberHeld s n (bounds (Standing n))) members
        → HoldsStartAt s members bounds (Standing n)
    to held part x (inl (pid, p, member, at, same, has)) =
        each_member (MemberHeld s n (bounds (Standing n))) members held.1 pid member p at same part x has
    to held part x (inr maps) = held.0 part x maps

    from : HoldsStartAt s members bounds (Standing n)
        → HoldsAll (bounds (Standing n)) (SpaceMaps (space_of s.spaces n))
        × All (MemberHeld s n (bounds (Standing n))) members
    from all = (
      λ part x maps. all part x (inr maps),
      every_place (MemberHeld s n (bounds (Standing n))) members (λ pid member p at same part x has. all part x
          (inl (pid, p, member, at, same, has))),
    )

-- the same of the row at its place in a list
module _ (s : State) (members : List ℕ) (rows : List BoxRow) (n : ℕ) (row : BoxRow) (space : Space) where
  pub start_not : row ≡ row_in rows (2 * n) → space ≡ space_of s.spaces n
      → ¬ (HoldsAll (RowHolds row) (SpaceMaps space))
      → IsTrue false ↔ HoldsStartAt s members (RowsHold rows) (Standing n)
  start_not is at out = no (HoldsStartAt s members (RowsHold rows) (Standing n)) (λ all. out (
      rw (is, at) ((standing_held s members (RowsHold rows) n).1 all).0
      ))

  pub start_rest : (b : Bool) → row ≡ row_in rows (2 * n) → space ≡ space_of s.spaces n
      → HoldsAll (RowHolds row) (SpaceMaps space)
      → IsTrue b ↔ All (MemberHeld s n (RowHolds row)) members
      → IsTrue b ↔ HoldsStartAt s members (RowsHold rows) (Standing n)
  start_rest b is at maps told =
      let both = standing_held s members (RowsHold rows) n in
      let maps' : HoldsAll (RowHolds (row_in rows (2 * n))) (SpaceMaps (space_of s.spaces n)) = rw (← is, ← at) maps in
      let told' : IsTrue b ↔ All (MemberHeld s n (RowHolds (row_in rows (2 * n)))) members = rw (← is) told in
      (λ one. both.0 (maps', told'.0 one), λ all. told'.1 (both.1 all).1)

-- all rows of standing spaces were looked at
pub all_start : (s : State) (members : List ℕ) (bounds : Row → Part → ℕ → Type 0) (y : ℕ) → 2 * length s.spaces ≤ y
    → ((z : ℕ) → z < y → HoldsStartAt s members bounds (row_at z)) → HoldsStart s members bounds
all_start s members bounds y past each row standing =
    all_rows (HoldsStartAt s members bounds) (length s.spaces) (λ z low. each z (omega arith)) row
    (ltb-true (space_under row) (length s.spaces) standing)

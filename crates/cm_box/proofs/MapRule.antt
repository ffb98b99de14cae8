-- The rule on maps at one row, of users' ids and of groups' alike.
use Rattle.std.proofs.Common.{◌≡◌, ℕ, Bool, false, ◌∙◌}
use Rattle.std.specs.Prelude.{◌↔◌, IsTrue}
use Rattle.std.proofs.lemmas.Bool.{false≢true}
use Rattle.cm_filter.specs.declared.kind.CallKind.{CallKind}
use Rattle.cm_sets.specs.Sets.{AreSame, IsWithin}
use Rattle.model_cred.specs.Space.{Spaces}
use Rattle.model_box.specs.Closed.{ByMaps}
use Rattle.model_box.specs.Row.{Part, MappedUids, MappedGids, Row, Standing, Fresh, HasMembers}
use Rattle.cm_box_rows.specs.declared.kind.IdKind.{IdKind}
use Rattle.cm_box_rows.specs.declared.kind.IdKind.TheVariants.{Users}
use Rattle.cm_box_rows.specs.declared.kind.IdKind.TheVariants as kinds
use Rattle.cm_box_rows.specs.Kinds.{mapped}
use Rattle.cm_box_rows.specs.Rows.{HoldsAll}
use Rattle.cm_box_rows.specs.Spread.{FreshIdBy}
use Rattle.cm_box.specs.Mapping.{IdsWritten, call_for}

module _ (permitted : CallKind → Bool) (spaces : Spaces) (bounds : Row → Part → ℕ → Type 0) where
  -- what comes to both maps is all that comes
  pub both_maps : (row : Row) → IsWithin (ByMaps permitted spaces bounds row MappedUids) (bounds row MappedUids)
      → IsWithin (ByMaps permitted spaces bounds row MappedGids) (bounds row MappedGids)
      → HoldsAll (bounds row) (ByMaps permitted spaces bounds row)
  both_maps (Standing n) uids gids MappedUids x by = uids x by
  both_maps (Standing n) uids gids MappedGids x by = gids x by
  both_maps (Fresh n) uids gids MappedUids x by = uids x by
  both_maps (Fresh n) uids gids MappedGids x by = gids x by
  both_maps _ uids gids _ x none = absurd none

  -- what comes to one
  abbrev pub Comes : IdKind → Row → ℕ → Type 0
  Comes kind row = ByMaps permitted spaces bounds row (mapped kind)

  by_standing : (kind : IdKind) (n x : ℕ)
      → Comes kind (Standing n) x ↔ (IsTrue (permitted (call_for kind)) × IdsWritten kind spaces bounds n x)
  by_standing Users n x = (λ by. (by.0, (by.1, by.2)), λ by. (by.0, by.1.0, by.1.1))
  by_standing kinds.Groups n x = (λ by. (by.0, (by.1, by.2)), λ by. (by.0, by.1.0, by.1.1))

  by_fresh : (kind : IdKind) (n x : ℕ)
      → Comes kind (Fresh n) x
      ↔ (IsTrue (permitted (call_for kind)) × HasMembers (bounds (Fresh n))
      × FreshIdBy kind (bounds (Standing n)) (bounds (Fresh n)) x)
  by_fresh Users n x = (λ by. by, λ by. by)
  by_fresh kinds.Groups n x = (λ by. by, λ by. by)

  -- nothing comes while its call isn't permitted, and to a fresh row while it has no members
  pub none_called : (kind : IdKind) (row : Row) → false ≡ permitted (call_for kind) → (x : ℕ) → Comes kind row x → ⊥
  none_called kind (Standing n) out x by = false≢true (out ∙ ((by_standing kind n x).0 by).0)
  none_called kind (Fresh n) out x by = false≢true (out ∙ ((by_fresh kind n x).0 by).0)

  pub none_there : (kind : IdKind) (n : ℕ) → (HasMembers (bounds (Fresh n)) → ⊥) → (x : ℕ) → Comes kind (Fresh n) x → ⊥
  none_there kind n none x by = none ((by_fresh kind n x).0 by).1

  -- else it is what can be written
  pub comes_standing : (kind : IdKind) (n : ℕ) → IsTrue (permitted (call_for kind))
      → AreSame (IdsWritten kind spaces bounds n) (Comes kind (Standing n))
  comes_standing kind n can x = (λ new. (by_standing kind n x).1 (can, new), λ by. ((by_standing kind n x).0 by).1)

  pub comes_fresh : (kind : IdKind) (n : ℕ) → IsTrue (permitted (call_for kind)) → HasMembers (bounds (Fresh n))
      → AreSame (FreshIdBy kind (bounds (Standing n)) (bounds (Fresh n))) (Comes kind (Fresh n))
  comes_fresh kind n can some x =
      (λ new. (by_fresh kind n x).1 (can, some, new), λ by. ((by_fresh kind n x).0 by).2)

-- sets that hold the same are within the same bounds
pub same_within : (Set Other Bound : ℕ → Type 0) → AreSame Set Other → IsWithin Set Bound ↔ IsWithin Other Bound
same_within Set Other Bound same = (
  λ within x has. within x ((same x).1 has),
  λ within x has. within x ((same x).0 has),
)

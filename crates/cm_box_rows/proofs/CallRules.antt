-- The rules of the calls, as the answers of the tests that their functions make.
use Rattle.std.proofs.Common.{◌≡◌, ℕ, Bool, true, refl}
use Rattle.std.specs.Prelude.{◌↔◌, IsTrue}
use Rattle.cm_base.specs.CapSet.{holds}
use Rattle.cm_sets.specs.Sets.{IsWithin}
use Rattle.cm_idset.specs.Held.{Held}
use Rattle.model_box.specs.Bounds.{BoxRow}
use Rattle.model_box.specs.Gains.{Settable, GainsGroups, GainsInheritable, GainsRoot}
use Rattle.model_rules.specs.Caps.{cap_setgid, cap_setpcap}
use Rattle.cm_box_rows.specs.Rows.{RowHolds, HoldsAll}
use Rattle.cm_box_rows.proofs.GainedRows.{settable_told}
use Rattle.cm_box_rows.proofs.RowParts.{Raised}
use Rattle.cm_box_rows.proofs.Settable.{groups_held, inheritable_held, root_held}
use Rattle.cm_box_rows.proofs.Tests.{on}

-- what can be set is within a bound, where the capability is told by a test
pub settable_within_told : (b : Bool) (Old Mapped Bound : ℕ → Type 0) (P Q : Type 0) → P ↔ Q
    → IsTrue b ↔ IsWithin (Settable Old Mapped P) Bound
    → IsTrue b ↔ IsWithin (Settable Old Mapped Q) Bound
settable_within_told b Old Mapped Bound P Q same told = (
  λ is x can. told.0 is x ((settable_told Old Mapped P Q same x).1 can),
  λ within. told.1 (λ x can. within x ((settable_told Old Mapped P Q same x).0 can)),
)

module _ (row : BoxRow) (p : Bool) where
  -- the capability for user ids, for group ids and for capabilities
  abbrev pub IsPrivileged : ℕ → Type 0
  IsPrivileged cap = IsTrue p ↔ IsTrue (holds row.permitted cap)

  pub cap_set : (b : Bool) → IsPrivileged cap_setpcap
      → IsTrue b
      ↔ IsWithin (Settable (λ x. IsTrue (holds row.permitted x)) (λ x. IsTrue (holds row.bounding x)) (IsTrue p))
      (λ x. IsTrue (holds row.inheritable x))
      → IsTrue b ↔ HoldsAll (RowHolds row) (GainsInheritable (RowHolds row))
  cap_set b can told =
      on (settable_within_told b (λ x. IsTrue (holds row.permitted x)) (λ x. IsTrue (holds row.bounding x))
      (λ x. IsTrue (holds row.inheritable x))
      (IsTrue p) (IsTrue (holds row.permitted cap_setpcap)) can told)
      (inheritable_held (RowHolds row))

  pub all_groups : (b : Bool) → IsPrivileged cap_setgid → p ≡ true
      → IsTrue b ↔ IsWithin (Held row.mapped_gids) (Held row.groups)
      → IsTrue b ↔ HoldsAll (RowHolds row) (GainsGroups (RowHolds row))
  all_groups b can is told = (
    λ held. (groups_held (RowHolds row)).0 (λ x has. told.0 held x has.1),
    λ all. told.1 (λ x mapped. (groups_held (RowHolds row)).1 all x (can.0 is, mapped)),
  )

  pub root_open : (b : Bool) → IsPrivileged cap_setpcap → p ≡ true → Raised row.lock_clear 0
      → IsTrue b ↔ Raised row.root_counts 0
      → IsTrue b ↔ HoldsAll (RowHolds row) (GainsRoot (RowHolds row))
  root_open b can is unlocked told = (
    λ held. (root_held (RowHolds row)).0 (λ has. (told.0 held).1),
    λ all. told.1 (refl, (root_held (RowHolds row)).1 all (can.0 is, unlocked.1)),
  )

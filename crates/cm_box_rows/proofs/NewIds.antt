-- What can come into the maps of later spaces, with a capability that a test tells.
use Rattle.std.proofs.Common.{◌≡◌, ℕ, Bool, false}
use Rattle.std.specs.Prelude.{◌↔◌, IsTrue}
use Rattle.cm_sets.specs.Sets.{IsWithin}
use Rattle.model_rules.specs.Caps.{cap_setuid, cap_setgid}
use Rattle.model_box.specs.Bounds.{BoxRow}
use Rattle.model_box.specs.Gains.{Settable}
use Rattle.model_box.specs.Row.{Part, EffectiveUids, EffectiveGids, MappedUids, MappedGids, PermittedCaps}
use Rattle.cm_box_rows.specs.Rows.{RowHolds}
use Rattle.cm_box_rows.specs.Spread.{FreshUidBy, FreshGidBy}
use Rattle.cm_box_rows.proofs.CallRules.{settable_within_told}
use Rattle.cm_box_rows.proofs.Mapping.{fresh_uids, fresh_gids}
use Rattle.cm_box_rows.proofs.Spreading.{refused}
use Rattle.cm_box_rows.proofs.Tests.{on, no}

-- ---- the later spaces below a standing one
module _ (row fresh : Part → ℕ → Type 0) (can : Type 0) where
  fresh_uids_told : (b : Bool) → can ↔ row PermittedCaps cap_setuid
      → IsTrue b ↔ IsWithin (Settable (row EffectiveUids) (row MappedUids) can) (fresh MappedUids)
      → IsTrue b ↔ ((x : ℕ) → FreshUidBy row x → fresh MappedUids x)
  fresh_uids_told b is told =
      on (settable_within_told b (row EffectiveUids) (row MappedUids) (fresh MappedUids) can (row PermittedCaps cap_setuid) is told)
      (fresh_uids row fresh)

  fresh_gids_not : can ↔ row PermittedCaps cap_setgid
      → IsTrue false ↔ IsWithin (Settable (row EffectiveGids) (row MappedGids) can) (fresh MappedGids)
      → IsTrue false ↔ ((x : ℕ) → FreshGidBy row fresh x → fresh MappedGids x)
  fresh_gids_not is told =
      let out =
      settable_within_told false (row EffectiveGids) (row MappedGids) (fresh MappedGids) can (row PermittedCaps cap_setgid) is told in
      no ((x : ℕ) → FreshGidBy row fresh x → fresh MappedGids x)
      (λ all. refused _ out ((fresh_gids row fresh).1 all).0)

-- ---- the tests, with the rows as they are read
module _ (r f row fresh : BoxRow) (r_is : r ≡ row) (f_is : f ≡ fresh) (can : Type 0) where
  pub fresh_uids_read : (b : Bool) → can ↔ RowHolds r PermittedCaps cap_setuid
      → IsTrue b ↔ IsWithin (Settable (RowHolds r EffectiveUids) (RowHolds r MappedUids) can) (RowHolds f MappedUids)
      → IsTrue b ↔ ((x : ℕ) → FreshUidBy (RowHolds row) x → RowHolds fresh MappedUids x)
  fresh_uids_read b is told = rw (← r_is, ← f_is) (fresh_uids_told (RowHolds r) (RowHolds f) can b is told)

  pub fresh_gids_refused : can ↔ RowHolds r PermittedCaps cap_setgid
      → IsTrue false ↔ IsWithin (Settable (RowHolds r EffectiveGids) (RowHolds r MappedGids) can) (RowHolds f MappedGids)
      → IsTrue false ↔ ((x : ℕ) → FreshGidBy (RowHolds row) (RowHolds fresh) x → RowHolds fresh MappedGids x)
  fresh_gids_refused is told = rw (← r_is, ← f_is) (fresh_gids_not (RowHolds r) (RowHolds f) can is told)

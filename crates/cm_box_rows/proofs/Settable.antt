-- Where a row holds what calls add to one of its parts alone.
use Rattle.std.proofs.Common.{ℕ, refl}
use Rattle.std.specs.Prelude.{◌↔◌}
use Rattle.cm_sets.specs.Sets.{IsWithin}
use Rattle.model_box.specs.Row.{Part, Groups}
use Rattle.model_box.specs.Row.{MappedGids, PermittedCaps, InheritableCaps, BoundingCaps, RootCounts, LockClear}
use Rattle.model_box.specs.Gains.{Settable, GainsGroups, GainsInheritable, GainsRoot}
use Rattle.model_rules.specs.Caps.{cap_setgid, cap_setpcap}
use Rattle.cm_box_rows.specs.Rows.{HoldsAll}

module _ (row : Part → ℕ → Type 0) where
  -- what comes to one part alone is held where that part holds it
  pub groups_held : ((x : ℕ) → row PermittedCaps cap_setgid × row MappedGids x → row Groups x)
      ↔ HoldsAll row (GainsGroups row)
  groups_held = (to, λ all x new. all Groups x new) where
    to : ((x : ℕ) → row PermittedCaps cap_setgid × row MappedGids x → row Groups x) → HoldsAll row (GainsGroups row)
    to held Groups x new = held x new
    to held _ x none = absurd none

  pub inheritable_held :
      IsWithin (Settable (row PermittedCaps) (row BoundingCaps) (row PermittedCaps cap_setpcap)) (row InheritableCaps)
      ↔ HoldsAll row (GainsInheritable row)
  inheritable_held = (to, λ all x new. all InheritableCaps x new) where
    to :
        IsWithin (Settable (row PermittedCaps) (row BoundingCaps) (row PermittedCaps cap_setpcap)) (row InheritableCaps)
        → HoldsAll row (GainsInheritable row)
    to held InheritableCaps x new = held x new
    to held _ x none = absurd none

  pub root_held : (row PermittedCaps cap_setpcap × row LockClear 0 → row RootCounts 0) ↔ HoldsAll row (GainsRoot row)
  root_held = (to, λ all has. all RootCounts 0 (refl, has.0, has.1)) where
    to : (row PermittedCaps cap_setpcap × row LockClear 0 → row RootCounts 0) → HoldsAll row (GainsRoot row)
    to held RootCounts x has = rw has.0 (held (has.1, has.2))
    to held _ x none = absurd none

-- What can come into the maps of later spaces, case by case.
use Rattle.std.proofs.Common.{ℕ, inl, inr}
use Rattle.std.specs.Prelude.{◌↔◌}
use Rattle.cm_sets.specs.Sets.{IsWithin, InBoth}
use Rattle.model_rules.specs.Caps.{cap_setuid, cap_setgid}
use Rattle.model_box.specs.Gains.{Settable}
use Rattle.model_box.specs.Row.{Part, EffectiveUids, EffectiveGids, MappedUids, MappedGids, PermittedCaps}
use Rattle.cm_box_rows.specs.Spread.{FreshUidBy, FreshGidBy}

module _ (row fresh : Part → ℕ → Type 0) where
  -- the ids that a call can set are mapped in the fresh row
  abbrev pub UidsSettableIn : Type 0
  UidsSettableIn = IsWithin (Settable (row EffectiveUids) (row MappedUids) (row PermittedCaps cap_setuid)) (fresh MappedUids)

  abbrev pub GidsSettableIn : Type 0
  GidsSettableIn = IsWithin (Settable (row EffectiveGids) (row MappedGids) (row PermittedCaps cap_setgid)) (fresh MappedGids)

  -- those that can come are
  abbrev pub UidsIn : Type 0
  UidsIn = (x : ℕ) → FreshUidBy row x → fresh MappedUids x

  abbrev pub GidsIn : Type 0
  GidsIn = (x : ℕ) → FreshGidBy row fresh x → fresh MappedGids x

  -- the later spaces below a standing one
  pub fresh_uids : UidsSettableIn ↔ UidsIn
  fresh_uids = (to, from) where
    to : UidsSettableIn → UidsIn
    to within x (mapped, inl id) = within x (inl (id, mapped))
    to within x (mapped, inr can) = within x (inr (can, mapped))

    from : UidsIn → UidsSettableIn
    from held x (inl (id, mapped)) = held x (mapped, inl id)
    from held x (inr (can, mapped)) = held x (mapped, inr can)

  pub fresh_gids : (GidsSettableIn × IsWithin (InBoth (fresh EffectiveGids) (row MappedGids)) (fresh MappedGids)) ↔ GidsIn
  fresh_gids = (to, λ held. (by_set held, λ x both. held x (both.1, inr (inl both.0)))) where
    to : GidsSettableIn × IsWithin (InBoth (fresh EffectiveGids) (row MappedGids)) (fresh MappedGids) → GidsIn
    to both x (mapped, inl id) = both.0 x (inl (id, mapped))
    to both x (mapped, inr (inl id)) = both.1 x (id, mapped)
    to both x (mapped, inr (inr can)) = both.0 x (inr (can, mapped))

    by_set : GidsIn → GidsSettableIn
    by_set held x (inl (id, mapped)) = held x (mapped, inl id)
    by_set held x (inr (can, mapped)) = held x (mapped, inr (inr can))

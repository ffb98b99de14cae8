-- What a row holds of a member's credentials.
use Rattle.std.proofs.Common.{ℕ, ◌==◌, ◌||◌, List, refl, inl, inr}
use Rattle.std.specs.Prelude.{IsTrue}
use Rattle.std.specs.List.{list_any}
use Rattle.std.proofs.lemmas.Bool.{or_cases, eqb-true}
use Rattle.model_cred.specs.Credential.{Credential, FourIds, is_one_of_three}
use Rattle.model_box.specs.Row.{Part, Uids, EffectiveUids, FsUids, Gids, EffectiveGids, FsGids, Groups, PermittedCaps}
use Rattle.model_box.specs.Row.{InheritableCaps, BoundingCaps, NewPrivs, RootCounts, LockClear, CredHas}
use Rattle.model_box.proofs.Ids.{is_real, is_effective, is_saved}
use Rattle.cm_box_rows.specs.Members.{FourHeld, SetsHeld, FlagsHeld}
use Rattle.cm_box_rows.specs.Rows.{HoldsAll}

-- each of the three ids is held
three_held : (Three : ℕ → Type 0) (ids : FourIds) → Three ids.real → Three ids.effective → Three ids.saved
    → (x : ℕ) → IsTrue (is_one_of_three ids x) → Three x
three_held Three ids real effective saved x one = elim (or_cases (x == ids.real || x == ids.effective) (x == ids.saved)
    one) [
      | inr is ↦ rw (eqb-true x ids.saved is) saved
      | inl two ↦ elim (or_cases (x == ids.real) (x == ids.effective) two) [
        | inl is ↦ rw (eqb-true x ids.real is) real
        | inr is ↦ rw (eqb-true x ids.effective is) effective
      ]
    ]

-- the set holds the supplementary groups
abbrev pub GroupsHeld : (ℕ → Type 0) → List ℕ → Type 0
GroupsHeld Set groups = (x : ℕ) → IsTrue (list_any (λ group. group == x) groups) → Set x

module _ (row : Part → ℕ → Type 0) (c : Credential) where
  -- the parts of a credential that a row holds, as one record
  pub record Parts : Type 0 where
    pub uid : FourHeld (row Uids) (row EffectiveUids) (row FsUids) c.uid
    pub gid : FourHeld (row Gids) (row EffectiveGids) (row FsGids) c.gid
    pub groups : GroupsHeld (row Groups) c.groups
    pub sets : SetsHeld row c
    pub flags : FlagsHeld row c

  pub all_of_parts : Parts → HoldsAll row (CredHas c)
  all_of_parts held Uids x has = three_held (row Uids) c.uid held.uid.real held.uid.three held.uid.saved x has
  all_of_parts held EffectiveUids x has = rw has held.uid.effective
  all_of_parts held FsUids x has = rw has held.uid.fs
  all_of_parts held Gids x has = three_held (row Gids) c.gid held.gid.real held.gid.three held.gid.saved x has
  all_of_parts held EffectiveGids x has = rw has held.gid.effective
  all_of_parts held FsGids x has = rw has held.gid.fs
  all_of_parts held Groups x has = held.groups x has
  all_of_parts held PermittedCaps x has = held.sets.permitted x has
  all_of_parts held InheritableCaps x has = held.sets.inheritable x has
  all_of_parts held BoundingCaps x has = held.sets.bounding x has
  all_of_parts held NewPrivs x has = rw has.0 (held.flags.new_privs has.1)
  all_of_parts held RootCounts x has = rw has.0 (held.flags.root has.1)
  all_of_parts held LockClear x has = rw has.0 (held.flags.lock has.1)
  all_of_parts held _ x none = absurd none

  pub parts_of_all : HoldsAll row (CredHas c) → Parts
  parts_of_all all = record {
    uid = record {
      real = all Uids c.uid.real (is_real c.uid);
      saved = all Uids c.uid.saved (is_saved c.uid);
      three = all Uids c.uid.effective (is_effective c.uid);
      effective = all EffectiveUids c.uid.effective refl;
      fs = all FsUids c.uid.fs refl;
    };
    gid = record {
      real = all Gids c.gid.real (is_real c.gid);
      saved = all Gids c.gid.saved (is_saved c.gid);
      three = all Gids c.gid.effective (is_effective c.gid);
      effective = all EffectiveGids c.gid.effective refl;
      fs = all FsGids c.gid.fs refl;
    };
    groups = all Groups;
    sets = record { permitted = all PermittedCaps; inheritable = all InheritableCaps; bounding = all BoundingCaps };
    flags = record {
      new_privs = λ clear. all NewPrivs 0 (refl, clear);
      root = λ clear. all RootCounts 0 (refl, clear);
      lock = λ clear. all LockClear 0 (refl, clear);
    };
  }

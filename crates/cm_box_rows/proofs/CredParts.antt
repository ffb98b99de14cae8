-- What a row holds of a credential, as the answers of the tests of its parts.
use Rattle.std.proofs.Common.{◌≡◌, ℕ, Bool, false, List, sym, subst}
use Rattle.std.specs.Prelude.{◌↔◌, IsTrue}
use Rattle.std.proofs.lemmas.Bool.{iff_false}
use Rattle.cm_idset.specs.Held.{Held}
use Rattle.model_cred.specs.Credential.{Credential, FourIds}
use Rattle.model_box.specs.Bounds.{BoxRow}
use Rattle.model_box.specs.Row.{CredHas}
use Rattle.cm_box_rows.specs.Members.{FourHeld, SetsHeld, FlagsHeld}
use Rattle.cm_box_rows.specs.Rows.{RowHolds, HoldsAll}
use Rattle.cm_box_rows.proofs.MemberParts.{GroupsHeld, all_of_parts, parts_of_all}
use Rattle.cm_box_rows.proofs.Tests.{no}

module _ (row : BoxRow) (c : Credential) where
  -- the row holds the ids of these
  abbrev pub UidsHeld : FourIds → Type 0
  UidsHeld ids = FourHeld (Held row.uids) (Held row.effective_uids) (Held row.fs_uids) ids

  abbrev pub GidsHeld : FourIds → Type 0
  GidsHeld ids = FourHeld (Held row.gids) (Held row.effective_gids) (Held row.fs_gids) ids

  -- where one part isn't held, not all is
  pub uids_out : (ids : FourIds) (b : Bool) → ids ≡ c.uid → IsTrue b ↔ UidsHeld ids → b ≡ false
      → IsTrue false ↔ HoldsAll (RowHolds row) (CredHas c)
  uids_out ids b is told out =
      no (HoldsAll (RowHolds row) (CredHas c))
      (λ all. iff_false told out (subst UidsHeld (sym is) (parts_of_all (RowHolds row) c all).uid))

  pub gids_out : (ids : FourIds) (b : Bool) → ids ≡ c.gid → IsTrue b ↔ GidsHeld ids → b ≡ false
      → IsTrue false ↔ HoldsAll (RowHolds row) (CredHas c)
  gids_out ids b is told out =
      no (HoldsAll (RowHolds row) (CredHas c))
      (λ all. iff_false told out (subst GidsHeld (sym is) (parts_of_all (RowHolds row) c all).gid))

  pub groups_out : (groups : List ℕ) (b : Bool) → groups ≡ c.groups → IsTrue b ↔ GroupsHeld (Held row.groups) groups
      → b ≡ false
      → IsTrue false ↔ HoldsAll (RowHolds row) (CredHas c)
  groups_out groups b is told out =
      no (HoldsAll (RowHolds row) (CredHas c))
      (λ all. iff_false told out
      (subst (λ (g : List ℕ). GroupsHeld (Held row.groups) g) (sym is) (parts_of_all (RowHolds row) c all).groups))

  pub sets_out : (b : Bool) → IsTrue b ↔ SetsHeld (RowHolds row) c → b ≡ false
      → IsTrue false ↔ HoldsAll (RowHolds row) (CredHas c)
  sets_out b told out = no (HoldsAll (RowHolds row) (CredHas c)) (λ all. iff_false told out
      (parts_of_all (RowHolds row) c all).sets)

  -- where all others are held, all is held where the flags are
  pub all_in : (uid gid : FourIds) (groups : List ℕ) (b : Bool) → uid ≡ c.uid → gid ≡ c.gid → groups ≡ c.groups
      → UidsHeld uid → GidsHeld gid → GroupsHeld (Held row.groups) groups → SetsHeld (RowHolds row) c
      → IsTrue b ↔ FlagsHeld (RowHolds row) c → IsTrue b ↔ HoldsAll (RowHolds row) (CredHas c)
  all_in uid gid groups b u g s uids gids in_groups sets told = (
    λ one. all_of_parts (RowHolds row) c (record {
      uid = subst UidsHeld u uids;
      gid = subst GidsHeld g gids;
      groups = subst (λ (l : List ℕ). GroupsHeld (Held row.groups) l) s in_groups;
      sets = sets;
      flags = told.0 one;
    }),
    λ all. told.1 (parts_of_all (RowHolds row) c all).flags,
  )

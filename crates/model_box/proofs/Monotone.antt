-- To larger bounds each rule adds at least as much, and they meet at least as much; where more calls are permitted each
-- rule adds at least as much.
use Rattle.std.proofs.Common.{ℕ, Bool, Option, None, Some, inl, inr, arith}
use Rattle.std.specs.Prelude.{List, IsTrue, ◌||◌, true, false, refl}
use Rattle.std.proofs.lemmas.Bool.{or_left, or_right}
use Rattle.cm_filter.specs.declared.kind.CallKind.{CallKind}
use Rattle.cm_filter.specs.declared.kind.CallKind.TheVariants as kind
use Rattle.model_cred.specs.Files.{FileTable}
use Rattle.model_cred.specs.IdMap.{Extent}
use Rattle.model_cred.specs.Right.{Right, Cap, Uid, Gid}
use Rattle.model_cred.specs.Space.{Spaces, space_of}
use Rattle.model_rules.specs.FileView.{FileView, view}
use Rattle.model_box.specs.Row.{Part, EffectiveUids, EffectiveGids, Groups, MappedUids, MappedGids, PermittedCaps, NewPrivs}
use Rattle.model_box.specs.Row.{Row, Standing, Fresh, space_under, IsWithin, HasMembers}
use Rattle.model_box.specs.Rule.{Rule, SetUid, SetFsUid, SetGid, SetFsGid, SetGroups, CapSet, SecureBits, ExecUid}
use Rattle.model_box.specs.Rule.{ExecGid, ExecCaps, ExecRoot, Create, Join, Maps}
use Rattle.model_box.specs.Gains.{SettableUid, SettableGid, SpreadsUid, SpreadsGid, GainsFsUid, GainsFsGid, GainsGroups, GainsInheritable, GainsRoot}
use Rattle.model_box.specs.Files.{IdIn, HasOther, CanRun, SetIdCan, TakesCan, MayBeZero, ZeroIn, ZeroAbove, RootCan, FileGives}
use Rattle.model_box.specs.Spread.{Brings, CanMake, CanJoin, NewUid, NewGid, FreshUid, FreshGid}
use Rattle.model_box.specs.Closed.{Adds, OwnerByFile, GroupByFile, CapByFile, CapByRoot, OnlyCaps, ByJoining, ByMaps, Closed}
use Rattle.model_box.specs.Meets.{Meets, MeetsAt}

in_more : (id : Option ℕ) (One Other : ℕ → Type 0) → ((x : ℕ) → One x → Other x) → IdIn id One → IdIn id Other
in_more None One Other more held = held
in_more (Some x) One Other more held = more x held

spreads_uid_more : (R S : Part → ℕ → Type 0) (New Newer : ℕ → Type 0) → ((part : Part) (x : ℕ) → R part x → S part x)
    → ((x : ℕ) → New x → Newer x) → (part : Part) (x : ℕ) → SpreadsUid R New part x → SpreadsUid S Newer part x
spreads_uid_more R S New Newer more newer part x added = grind (arith, more, newer)

spreads_gid_more : (R S : Part → ℕ → Type 0) (New Newer : ℕ → Type 0) → ((part : Part) (x : ℕ) → R part x → S part x)
    → ((x : ℕ) → New x → Newer x) → (part : Part) (x : ℕ) → SpreadsGid R New part x → SpreadsGid S Newer part x
spreads_gid_more R S New Newer more newer part x added = grind (arith, more, newer)

only_caps_more : (One Other : ℕ → Type 0) → ((x : ℕ) → One x → Other x) → (part : Part) (x : ℕ) → OnlyCaps One part x → OnlyCaps Other part x
only_caps_more One Other more part x added = grind (arith, more)

zero_more : (uids : Option (List Extent)) (One Other : ℕ → Type 0) → ((x : ℕ) → One x → Other x) → (x : ℕ)
    → MayBeZero uids One x → MayBeZero uids Other x
zero_more None One Other more x held = more x held
zero_more (Some map) One Other more x held = held

module _ (R S : Part → ℕ → Type 0) (more : (part : Part) (x : ℕ) → R part x → S part x) where
  gains_fs_uid_more : (part : Part) (x : ℕ) → GainsFsUid R part x → GainsFsUid S part x
  gains_fs_uid_more part x added = grind (arith, more)

  gains_fs_gid_more : (part : Part) (x : ℕ) → GainsFsGid R part x → GainsFsGid S part x
  gains_fs_gid_more part x added = grind (arith, more)

  gains_groups_more : (part : Part) (x : ℕ) → GainsGroups R part x → GainsGroups S part x
  gains_groups_more part x added = grind (arith, more)

  gains_inheritable_more : (part : Part) (x : ℕ) → GainsInheritable R part x → GainsInheritable S part x
  gains_inheritable_more part x added = grind (arith, more)

  gains_root_more : (part : Part) (x : ℕ) → GainsRoot R part x → GainsRoot S part x
  gains_root_more part x added = grind (arith, more)

  pub brings_more : (part : Part) (x : ℕ) → Brings R part x → Brings S part x
  brings_more part x added = grind (arith, more)

  other_more : (part : Part) (id : Option ℕ) → HasOther (R part) id → HasOther (S part) id
  other_more part id held = (held.0, more part held.0 held.1, held.2)

  id_more : (part : Part) (id : Option ℕ) → IdIn id (R part) → IdIn id (S part)
  id_more part id held = in_more id (R part) (S part) (more part) held

  pub can_run_more : (f : FileView) → CanRun R f → CanRun S f
  can_run_more f held = grind (arith, more, id_more, other_more)

  set_id_more : (spaces : Spaces) (n : ℕ) (f : FileView) → SetIdCan spaces n R f → SetIdCan spaces n S f
  set_id_more spaces n f held = grind (arith, more, id_more)

  pub file_gives_more : (f : FileView) (x : ℕ) → FileGives R f x → FileGives S f x
  file_gives_more f x held = grind (arith, more)

  owner_more : (files : FileTable) (spaces : Spaces) (n x : ℕ) → OwnerByFile files spaces n R x → OwnerByFile files spaces n S x
  owner_more files spaces n x (k, program, runs, set_id, bit, same) =
      (k, program, can_run_more (view files k) runs, set_id_more spaces n (view files k) set_id, bit, same)

  group_more : (files : FileTable) (spaces : Spaces) (n x : ℕ) → GroupByFile files spaces n R x → GroupByFile files spaces n S x
  group_more files spaces n x (k, program, runs, set_id, bit, both, same) =
      (k, program, can_run_more (view files k) runs, set_id_more spaces n (view files k) set_id, bit, both, same)

module _ (bounds wider : Row → Part → ℕ → Type 0) (within : IsWithin bounds wider) where
  zero_in_more : (spaces : Spaces) (row : Row) (x : ℕ) → ZeroIn spaces bounds row x → ZeroIn spaces wider row x
  zero_in_more spaces (Standing n) x held =
      zero_more (space_of spaces n).uids (bounds (Standing n) MappedUids) (wider (Standing n) MappedUids) (within (Standing n) MappedUids) x held
  zero_in_more spaces (Fresh n) x held = within (Fresh n) MappedUids x held

  pub zero_id_more : (spaces : Spaces) (row : Row) (id : Option ℕ) → IdIn id (ZeroIn spaces bounds row) → IdIn id (ZeroIn spaces wider row)
  zero_id_more spaces row id held = in_more id (ZeroIn spaces bounds row) (ZeroIn spaces wider row) (zero_in_more spaces row) held

  zero_above_more : (spaces : Spaces) (n : ℕ) (id : Option ℕ) → ZeroAbove spaces bounds n id → ZeroAbove spaces wider n id
  zero_above_more spaces n id (a, above, held) = (a, above, zero_id_more spaces (Standing a) id held)

  root_more : (spaces : Spaces) (row : Row) (id : Option ℕ) → RootCan spaces bounds row id → RootCan spaces wider row id
  root_more spaces (Standing n) id held = zero_above_more spaces n id held
  root_more spaces (Fresh n) id (inl held) = inl (zero_id_more spaces (Fresh n) id held)
  root_more spaces (Fresh n) id (inr held) = inr (zero_above_more spaces n id held)

  takes_more : (spaces : Spaces) (row : Row) (f : FileView) → TakesCan spaces bounds row f → TakesCan spaces wider row f
  takes_more spaces row f (free, has, raises, root) = (within row NewPrivs 0 free, has, raises, root_more spaces row f.root root)

  cap_by_file_more : (files : FileTable) (spaces : Spaces) (row : Row) (x : ℕ) → CapByFile files spaces bounds row x → CapByFile files spaces wider row x
  cap_by_file_more files spaces row x (k, program, runs, takes, gives) = (
    k,
    program,
    can_run_more (bounds row) (wider row) (within row) (view files k) runs,
    takes_more spaces row (view files k) takes,
    file_gives_more (bounds row) (wider row) (within row) (view files k) x gives,
  )

  cap_by_root_more : (spaces : Spaces) (row : Row) (x : ℕ) → CapByRoot spaces bounds row x → CapByRoot spaces wider row x
  cap_by_root_more spaces row x held = grind (arith, within, zero_in_more)

  can_make_more : (spaces : Spaces) (n : ℕ) → CanMake spaces bounds n → CanMake spaces wider n
  can_make_more spaces n (level, (u, eu, mu), (g, eg, mg)) = (
    level,
    (u, within (Standing n) EffectiveUids u eu, within (Standing n) MappedUids u mu),
    (g, within (Standing n) EffectiveGids g eg, within (Standing n) MappedGids g mg),
  )

  pub members_more : (row : Row) → HasMembers (bounds row) → HasMembers (wider row)
  members_more row held = (held.0, within row EffectiveUids held.0 held.1)

  pub can_join_more : (spaces : Spaces) (a n : ℕ) → CanJoin spaces bounds a n → CanJoin spaces wider a n
  can_join_more spaces a n (m, next, members, inl cap) = (m, next, members_more (Standing a) members, inl (within (Standing a) PermittedCaps _ cap))
  can_join_more spaces a n (m, next, members, inr owns) = (m, next, members_more (Standing a) members, inr (within (Standing a) EffectiveUids _ owns))

  joining_more : (spaces : Spaces) (n : ℕ) (part : Part) (x : ℕ) → ByJoining spaces bounds n part x → ByJoining spaces wider n part x
  joining_more spaces n part x (a, joins, brings) =
      (a, can_join_more spaces a n joins, brings_more (bounds (Standing a)) (wider (Standing a)) (within (Standing a)) part x brings)

  new_uid_more : (n q owner x : ℕ) → NewUid bounds n q owner x → NewUid wider n q owner x
  new_uid_more n q owner x held = grind (arith, within)

  new_gid_more : (n q owner x : ℕ) → NewGid bounds n q owner x → NewGid wider n q owner x
  new_gid_more n q owner x held = grind (arith, within)

  fresh_uid_more : (n x : ℕ) → FreshUid bounds n x → FreshUid wider n x
  fresh_uid_more n x held = grind (arith, within)

  fresh_gid_more : (n x : ℕ) → FreshGid bounds n x → FreshGid wider n x
  fresh_gid_more n x held = grind (arith, within)

  maps_more : (permitted : CallKind → Bool) (spaces : Spaces) (row : Row) (part : Part) (x : ℕ)
      → ByMaps permitted spaces bounds row part x → ByMaps permitted spaces wider row part x
  maps_more permitted spaces row part x added = grind (arith, new_uid_more, new_gid_more, fresh_uid_more, fresh_gid_more, members_more)

  -- what the rules add that look at one row
  adds_more_here : (permitted : CallKind → Bool) (files : FileTable) (spaces : Spaces) (rule : Rule) (row : Row) (part : Part) (x : ℕ)
      → Adds permitted files spaces bounds rule row part x → Adds permitted files spaces wider rule row part x
  adds_more_here permitted files spaces SetUid row part x (p, m, added) = (
    p,
    members_more row m,
    spreads_uid_more (bounds row) (wider row) (SettableUid (bounds row)) (SettableUid (wider row)) (within row)
        (λ y held. grind (arith, within)) part x added,
  )
  adds_more_here permitted files spaces SetFsUid row part x (p, m, added) =
      (p, members_more row m, gains_fs_uid_more (bounds row) (wider row) (within row) part x added)
  adds_more_here permitted files spaces SetGid row part x (p, m, added) = (
    p,
    members_more row m,
    spreads_gid_more (bounds row) (wider row) (SettableGid (bounds row)) (SettableGid (wider row)) (within row)
        (λ y held. grind (arith, within)) part x added,
  )
  adds_more_here permitted files spaces SetFsGid row part x (p, m, added) =
      (p, members_more row m, gains_fs_gid_more (bounds row) (wider row) (within row) part x added)
  adds_more_here permitted files spaces SetGroups row part x (p, m, word, added) =
      (p, members_more row m, word, gains_groups_more (bounds row) (wider row) (within row) part x added)
  adds_more_here permitted files spaces CapSet row part x (p, m, added) =
      (p, members_more row m, gains_inheritable_more (bounds row) (wider row) (within row) part x added)
  adds_more_here permitted files spaces SecureBits row part x (p, m, added) =
      (p, members_more row m, gains_root_more (bounds row) (wider row) (within row) part x added)
  adds_more_here permitted files spaces ExecUid row part x (p, m, added) = (
    p,
    members_more row m,
    spreads_uid_more (bounds row) (wider row) (OwnerByFile files spaces (space_under row) (bounds row))
        (OwnerByFile files spaces (space_under row) (wider row)) (within row)
        (owner_more (bounds row) (wider row) (within row) files spaces (space_under row)) part x added,
  )
  adds_more_here permitted files spaces ExecGid row part x (p, m, added) = (
    p,
    members_more row m,
    spreads_gid_more (bounds row) (wider row) (GroupByFile files spaces (space_under row) (bounds row))
        (GroupByFile files spaces (space_under row) (wider row)) (within row)
        (group_more (bounds row) (wider row) (within row) files spaces (space_under row)) part x added,
  )
  adds_more_here permitted files spaces ExecCaps row part x (p, m, added) = (
    p,
    members_more row m,
    only_caps_more (CapByFile files spaces bounds row) (CapByFile files spaces wider row)
        (cap_by_file_more files spaces row) part x added,
  )
  adds_more_here permitted files spaces ExecRoot row part x (p, m, added) =
      (p, members_more row m, only_caps_more (CapByRoot spaces bounds row) (CapByRoot spaces wider row) (cap_by_root_more spaces row) part x added)
  adds_more_here permitted files spaces Create (Fresh n) part x (p, makes, brings) =
      (p, can_make_more spaces n makes, brings_more (bounds (Standing n)) (wider (Standing n)) (within (Standing n)) part x brings)
  adds_more_here permitted files spaces Join (Standing n) part x (p, added) = (p, joining_more spaces n part x added)
  adds_more_here permitted files spaces Maps row part x added = maps_more permitted spaces row part x added
  adds_more_here permitted files spaces _ _ part x added = added

-- To larger bounds each rule adds at least as much.
pub adds_more : (permitted : CallKind → Bool) (files : FileTable) (spaces : Spaces) (bounds wider : Row → Part → ℕ → Type 0)
    → IsWithin bounds wider → (rule : Rule) (row : Row) (part : Part) (x : ℕ)
    → Adds permitted files spaces bounds rule row part x → Adds permitted files spaces wider rule row part x
adds_more permitted files spaces bounds wider within rule row part x added =
    adds_more_here bounds wider within permitted files spaces rule row part x added

-- ---- what they meet
pub meets_at_more : (spaces : Spaces) (bounds wider : Row → Part → ℕ → Type 0) → IsWithin bounds wider → (right : Right) (row : Row)
    → MeetsAt spaces bounds right row → MeetsAt spaces wider right row
meets_at_more spaces bounds wider within (Cap cap n) (Standing a) (inl (above, members, held)) =
    inl (above, members_more bounds wider within (Standing a) members, within (Standing a) PermittedCaps cap held)
meets_at_more spaces bounds wider within (Cap cap n) (Standing a) (inr (m, next, owner)) = inr (m, next, within (Standing a) EffectiveUids _ owner)
meets_at_more spaces bounds wider within (Cap cap n) (Fresh a) wrong = wrong
meets_at_more spaces bounds wider within (Uid id) row held = within row EffectiveUids id held
meets_at_more spaces bounds wider within (Gid id) row (inl held) = inl (within row EffectiveGids id held)
meets_at_more spaces bounds wider within (Gid id) row (inr held) = inr (within row Groups id held)

-- Larger bounds meet at least as much.
pub meets_more : (spaces : Spaces) (bounds wider : Row → Part → ℕ → Type 0) → IsWithin bounds wider → (right : Right)
    → Meets spaces bounds right → Meets spaces wider right
meets_more spaces bounds wider within right (row, standing, held) = (row, standing, meets_at_more spaces bounds wider within right row held)

-- ---- what is permitted
three_more : (a b d a' b' d' : Bool) → (IsTrue a → IsTrue a') → (IsTrue b → IsTrue b') → (IsTrue d → IsTrue d')
    → IsTrue (a || b || d) → IsTrue (a' || b' || d')
three_more true b d a' b' d' first second third held = or_left (a' || b') d' (or_left a' b' (first refl))
three_more false true d a' b' d' first second third held = or_left (a' || b') d' (or_right a' b' (second refl))
three_more false false d a' b' d' first second third held = or_right (a' || b') d' (third held)

two_more : (a b a' b' : Bool) → (IsTrue a → IsTrue a') → (IsTrue b → IsTrue b') → IsTrue (a || b) → IsTrue (a' || b')
two_more true b a' b' first second held = or_left a' b' (first refl)
two_more false b a' b' first second held = or_right a' b' (second held)

module _ (permitted wider : CallKind → Bool) (more : (k : CallKind) → IsTrue (permitted k) → IsTrue (wider k))
    (files : FileTable) (spaces : Spaces) (bounds : Row → Part → ℕ → Type 0) where
  -- one of the calls on which a rule rests
  one_of_two : (a b : CallKind) → IsTrue (permitted a || permitted b) → IsTrue (wider a || wider b)
  one_of_two a b held = two_more (permitted a) (permitted b) (wider a) (wider b) (more a) (more b) held

  one_of_three : (a b d : CallKind) → IsTrue (permitted a || permitted b || permitted d) → IsTrue (wider a || wider b || wider d)
  one_of_three a b d held = three_more (permitted a) (permitted b) (permitted d) (wider a) (wider b) (wider d) (more a) (more b) (more d) held

  maps_permit_more : (row : Row) (part : Part) (x : ℕ) → ByMaps permitted spaces bounds row part x → ByMaps wider spaces bounds row part x
  maps_permit_more (Standing n) MappedUids x (p, one, added) = (more kind.WriteUidMap p, one, added)
  maps_permit_more (Standing n) MappedGids x (p, one, added) = (more kind.WriteGidMap p, one, added)
  maps_permit_more (Fresh n) MappedUids x (p, one, added) = (more kind.WriteUidMap p, one, added)
  maps_permit_more (Fresh n) MappedGids x (p, one, added) = (more kind.WriteGidMap p, one, added)
  maps_permit_more _ _ x added = added

  -- Where more calls are permitted each rule adds at least as much.
  pub permits_more : (rule : Rule) (row : Row) (part : Part) (x : ℕ)
      → Adds permitted files spaces bounds rule row part x → Adds wider files spaces bounds rule row part x
  permits_more SetUid row part x (p, m, added) = (one_of_three kind.SetUid kind.SetReUid kind.SetResUid p, m, added)
  permits_more SetFsUid row part x (p, m, added) = (more kind.SetFsUid p, m, added)
  permits_more SetGid row part x (p, m, added) = (one_of_three kind.SetGid kind.SetReGid kind.SetResGid p, m, added)
  permits_more SetFsGid row part x (p, m, added) = (more kind.SetFsGid p, m, added)
  permits_more SetGroups row part x (p, m, word, added) = (more kind.SetGroups p, m, word, added)
  permits_more CapSet row part x (p, m, added) = (more kind.CapSet p, m, added)
  permits_more SecureBits row part x (p, m, added) = (more kind.SecureBits p, m, added)
  permits_more ExecUid row part x (p, m, added) = (more kind.Exec p, m, added)
  permits_more ExecGid row part x (p, m, added) = (more kind.Exec p, m, added)
  permits_more ExecCaps row part x (p, m, added) = (more kind.Exec p, m, added)
  permits_more ExecRoot row part x (p, m, added) = (more kind.Exec p, m, added)
  permits_more Create (Standing n) part x added = added
  permits_more Create (Fresh n) part x (p, makes, brings) = (one_of_two kind.Unshare kind.CloneUser p, makes, brings)
  permits_more Join (Standing n) part x (p, added) = (more kind.SetNs p, added)
  permits_more Join (Fresh n) part x added = added
  permits_more Maps row part x added = maps_permit_more row part x added

  -- So bounds that are closed under a filter are closed under each that excludes more.
  pub closed_for_fewer : Closed wider files spaces bounds → Closed permitted files spaces bounds
  closed_for_fewer closed rule row standing part x added = closed rule row standing part x (permits_more rule row part x added)

-- What each rule adds is decided, and bounded, where the bounds are; so is whether bounds meet a right.
use Rattle.std.proofs.Common.{◌≡◌, ◌⊎◌, ℕ, suc, ◌<◌, ◌≤◌, ◌||◌, Bool, true, false, not, List, Option, None, Some, length, refl, sym, ap, ◌∙◌, inr, subst, arith}
use Rattle.std.specs.Prelude.{IsTrue, is_some, is_none, nat_lt}
use Rattle.std.proofs.lemmas.Bool.{ltb-true, false≢true}
use Rattle.cm_base.specs.CapSet.{holds, full}
use Rattle.cm_filter.specs.declared.kind.CallKind.{CallKind}
use Rattle.cm_filter.specs.declared.kind.CallKind.TheVariants as kind
use Rattle.model_cred.specs.Files.{FileTable}
use Rattle.model_cred.specs.IdMap.{Extent, is_the, down}
use Rattle.model_cred.specs.Right.{Right, Cap, Uid, Gid}
use Rattle.model_cred.specs.Space.{Spaces, IsTree, space_of, level, is_at_or_above}
use Rattle.model_rules.specs.Caps.{cap_setuid, cap_setgid, cap_setpcap, cap_sys_admin, cap_dac_override}
use Rattle.model_rules.specs.Exec.{attribute_sets}
use Rattle.model_rules.specs.FileView.{FileView, plain_view, view, has_bit, may_raise_in}
use Rattle.model_rules.specs.Namespaces.{deepest}
use Rattle.model_box.specs.Row.{Part, Uids, EffectiveUids, FsUids, Gids, EffectiveGids, FsGids, Groups, MappedUids, MappedGids}
use Rattle.model_box.specs.Row.{PermittedCaps, InheritableCaps, BoundingCaps, NewPrivs, RootCounts, LockClear, Row, Standing, Fresh}
use Rattle.model_box.specs.Row.{space_under, HasMembers}
use Rattle.model_box.specs.Rule.{Rule, SetUid, SetFsUid, SetGid, SetFsGid, SetGroups, CapSet, SecureBits, ExecUid}
use Rattle.model_box.specs.Rule.{ExecGid, ExecCaps, ExecRoot, Create, Join, Maps}
use Rattle.model_box.specs.Closed.{Adds, OwnerByFile, GroupByFile, CapByFile, CapByRoot, OnlyCaps, ByJoining, ByMaps}
use Rattle.model_box.specs.Files.{IdIn, HasOther, CanRun, SetIdCan, MayBeZero, ZeroIn, ZeroAbove, RootCan, TakesCan, FileGives, is_program}
use Rattle.model_box.specs.Gains.{SettableUid, SettableGid, SpreadsUid, SpreadsGid, GainsFsUid, GainsFsGid, GainsGroups, GainsInheritable, GainsRoot}
use Rattle.model_box.specs.Meets.{MeetsAt}
use Rattle.model_box.specs.Spread.{Brings, Meet, IsNext, CanMake, CanJoin, NewUid, NewGid}
use Rattle.model_box.proofs.Excludes.{tree_earlier}
use Rattle.model_box.proofs.Trees.{at_or_above_low}
use Rattle.model_box.proofs.Views.{view_past}
use Rattle.model_verdict.proofs.Deciding.{Decided, never, tested_so, same_number, same_option, as_much, either, both, three, four, five, six, some_low}

-- ---- files
-- a file that isn't as a plain one is in the table
row_low : (files : FileTable) (k : ℕ) → (view files k ≡ plain_view → ⊥) → k < length files.rows
row_low files k there = by (nat_lt k (length files.rows)) refl where
  by : (b : Bool) → nat_lt k (length files.rows) ≡ b → k < length files.rows
  by true low = ltb-true k (length files.rows) low
  by false high = let past : length files.rows ≤ k = grind (arith, high) in absurd (there (view_past files k past))

owner_low : (files : FileTable) (k x : ℕ) → (view files k).owner ≡ Some x → k < length files.rows
owner_low files k x owner = row_low files k (λ past. let no : None ≡ Some x = sym (ap (λ (f : FileView). f.owner) past) ∙ owner in absurd (cc))

group_low : (files : FileTable) (k x : ℕ) → (view files k).group ≡ Some x → k < length files.rows
group_low files k x group = row_low files k (λ past. let no : None ≡ Some x = sym (ap (λ (f : FileView). f.group) past) ∙ group in absurd (cc))

caps_low : (files : FileTable) (k : ℕ) → is_some (view files k).caps ≡ true → k < length files.rows
caps_low files k has = row_low files k (λ past. false≢true (sym (ap (λ (f : FileView). is_some f.caps) past) ∙ has))

-- ---- one row
id_in : (id : Option ℕ) (Set : ℕ → Type 0) → ((x : ℕ) → Decided (Set x)) → Decided (IdIn id Set)
id_in None Set each = never
id_in (Some x) Set each = each x

module _ (row : Part → ℕ → Type 0) (each : (part : Part) (x : ℕ) → Decided (row part x)) (limit : ℕ)
    (low : (part : Part) (x : ℕ) → row part x → x < limit) where
  has_members : Decided (HasMembers row)
  has_members = some_low (row EffectiveUids) (each EffectiveUids) limit (low EffectiveUids)

  has_other : (part : Part) (id : Option ℕ) → Decided (HasOther (row part) id)
  has_other part id =
      as_much (λ t. (t.0, t.1.0, t.1.1)) (λ t. (t.0, (t.1, t.2)))
      (some_low (λ x. row part x × IsTrue (not (is_the id x))) (λ x. both (each part x) (tested_so (not (is_the id x)))) limit (λ x t. low part x t.0))

  settable_uid : (x : ℕ) → Decided (SettableUid row x)
  settable_uid x = either (both (each Uids x) (each MappedUids x)) (both (each PermittedCaps cap_setuid) (each MappedUids x))

  settable_gid : (x : ℕ) → Decided (SettableGid row x)
  settable_gid x = either (both (each Gids x) (each MappedGids x)) (both (each PermittedCaps cap_setgid) (each MappedGids x))

  spreads_uid : (New : ℕ → Type 0) → ((x : ℕ) → Decided (New x)) → (part : Part) (x : ℕ) → Decided (SpreadsUid row New part x)
  spreads_uid New new EffectiveUids x = new x
  spreads_uid New new Uids x = either (each EffectiveUids x) (new x)
  spreads_uid New new FsUids x = either (each EffectiveUids x) (new x)
  spreads_uid New new _ x = never

  spreads_gid : (New : ℕ → Type 0) → ((x : ℕ) → Decided (New x)) → (part : Part) (x : ℕ) → Decided (SpreadsGid row New part x)
  spreads_gid New new EffectiveGids x = new x
  spreads_gid New new Gids x = either (each EffectiveGids x) (new x)
  spreads_gid New new FsGids x = either (each EffectiveGids x) (new x)
  spreads_gid New new _ x = never

  gains_fs_uid : (part : Part) (x : ℕ) → Decided (GainsFsUid row part x)
  gains_fs_uid FsUids x = settable_uid x
  gains_fs_uid _ x = never

  gains_fs_gid : (part : Part) (x : ℕ) → Decided (GainsFsGid row part x)
  gains_fs_gid FsGids x = settable_gid x
  gains_fs_gid _ x = never

  gains_groups : (part : Part) (x : ℕ) → Decided (GainsGroups row part x)
  gains_groups Groups x = both (each PermittedCaps cap_setgid) (each MappedGids x)
  gains_groups _ x = never

  gains_inheritable : (part : Part) (x : ℕ) → Decided (GainsInheritable row part x)
  gains_inheritable InheritableCaps x =
      either (both (each PermittedCaps x) (each BoundingCaps x)) (both (each PermittedCaps cap_setpcap) (each BoundingCaps x))
  gains_inheritable _ x = never

  gains_root : (part : Part) (x : ℕ) → Decided (GainsRoot row part x)
  gains_root RootCounts x = three (same_number x 0) (each PermittedCaps cap_setpcap) (each LockClear 0)
  gains_root _ x = never

  can_run : (f : FileView) → Decided (CanRun row f)
  can_run f =
      both (tested_so (not f.noexec))
      (either (both (id_in f.owner (row FsUids) (each FsUids)) (tested_so (has_bit f 0o100)))
      (either
      (three (either (id_in f.group (row FsGids) (each FsGids)) (id_in f.group (row Groups) (each Groups))) (has_other FsUids f.owner)
      (tested_so (has_bit f 0o010)))
      (either (three (has_other FsUids f.owner) (has_other FsGids f.group) (tested_so (has_bit f 0o001)))
      (four (each PermittedCaps cap_dac_override) (id_in f.owner (row MappedUids) (each MappedUids))
      (id_in f.group (row MappedGids) (each MappedGids)) (tested_so (has_bit f 0o111))))))

  set_id_can : (spaces : Spaces) (n : ℕ) (f : FileView) → Decided (SetIdCan spaces n row f)
  set_id_can spaces n f =
      four (each NewPrivs 0) (tested_so (may_raise_in spaces n f)) (id_in f.owner (row MappedUids) (each MappedUids))
      (id_in f.group (row MappedGids) (each MappedGids))

  owner_by_file : (files : FileTable) (spaces : Spaces) (n x : ℕ) → Decided (OwnerByFile files spaces n row x)
  owner_by_file files spaces n x =
      as_much (λ t. (t.0, t.1.0, t.1.1, t.1.2, t.1.3, t.1.4)) (λ t. (t.0, (t.1, t.2, t.3, t.4, t.5)))
      (some_low
      (λ k. IsTrue (is_program files k) × CanRun row (view files k) × SetIdCan spaces n row (view files k)
      × IsTrue (has_bit (view files k) 0o4000) × ((view files k).owner ≡ Some x))
      (λ k. five (tested_so (is_program files k)) (can_run (view files k)) (set_id_can spaces n (view files k))
      (tested_so (has_bit (view files k) 0o4000)) (same_option (view files k).owner x))
      (length files.rows) (λ k t. owner_low files k x t.4))

  group_by_file : (files : FileTable) (spaces : Spaces) (n x : ℕ) → Decided (GroupByFile files spaces n row x)
  group_by_file files spaces n x =
      as_much (λ t. (t.0, t.1.0, t.1.1, t.1.2, t.1.3, t.1.4, t.1.5)) (λ t. (t.0, (t.1, t.2, t.3, t.4, t.5, t.6)))
      (some_low
      (λ k. IsTrue (is_program files k) × CanRun row (view files k) × SetIdCan spaces n row (view files k)
      × IsTrue (has_bit (view files k) 0o2000) × IsTrue (has_bit (view files k) 0o010) × ((view files k).group ≡ Some x))
      (λ k. six (tested_so (is_program files k)) (can_run (view files k)) (set_id_can spaces n (view files k))
      (tested_so (has_bit (view files k) 0o2000)) (tested_so (has_bit (view files k) 0o010)) (same_option (view files k).group x))
      (length files.rows) (λ k t. group_low files k x t.5))

  file_gives : (f : FileView) (x : ℕ) → Decided (FileGives row f x)
  file_gives f x =
      either (both (each InheritableCaps x) (tested_so (holds (attribute_sets f.caps).inheritable x)))
      (both (tested_so (holds (attribute_sets f.caps).permitted x)) (each BoundingCaps x))

  brings : (part : Part) (x : ℕ) → Decided (Brings row part x)
  brings Uids x = each Uids x
  brings EffectiveUids x = each EffectiveUids x
  brings FsUids x = each FsUids x
  brings Gids x = each Gids x
  brings EffectiveGids x = each EffectiveGids x
  brings FsGids x = each FsGids x
  brings Groups x = each Groups x
  brings PermittedCaps x = tested_so (holds full x)
  brings BoundingCaps x = tested_so (holds full x)
  brings NewPrivs x = each NewPrivs x
  brings RootCounts x = same_number x 0
  brings LockClear x = same_number x 0
  brings _ x = never

-- ---- bounds
-- each is decided, and all are below the limit
pub record Fine (limit : ℕ) (bounds : Row → Part → ℕ → Type 0) : Type 0 where
  pub each : (row : Row) (part : Part) (x : ℕ) → Decided (bounds row part x)
  pub low : (row : Row) (part : Part) (x : ℕ) → bounds row part x → x < limit

module _ (permitted : CallKind → Bool) (files : FileTable) (spaces : Spaces) (tree : IsTree spaces) (limit : ℕ)
    (bounds : Row → Part → ℕ → Type 0) (fine : Fine limit bounds) where
  above_low : (a n : ℕ) → IsTrue (is_at_or_above spaces a n) → a < suc n
  above_low a n above = let low : a ≤ n = at_or_above_low spaces (tree_earlier spaces tree) a n above in omega arith

  meet : (row : Row) (part : Part) (Other : ℕ → Type 0) → ((x : ℕ) → Decided (Other x)) → Decided (Meet (bounds row part) Other)
  meet row part Other other =
      as_much (λ t. (t.0, t.1.0, t.1.1)) (λ t. (t.0, (t.1, t.2)))
      (some_low (λ x. bounds row part x × Other x) (λ x. both (fine.each row part x) (other x)) limit (λ x t. fine.low row part x t.0))

  may_be_zero : (map : Option (List Extent)) (row : Row) (x : ℕ) → Decided (MayBeZero map (bounds row MappedUids) x)
  may_be_zero None row x = fine.each row MappedUids x
  may_be_zero (Some map) row x = tested_so (is_the (down map 0) x)

  zero_in : (row : Row) (x : ℕ) → Decided (ZeroIn spaces bounds row x)
  zero_in (Standing n) x = may_be_zero (space_of spaces n).uids (Standing n) x
  zero_in (Fresh n) x = fine.each (Fresh n) MappedUids x

  zero_above : (n : ℕ) (id : Option ℕ) → Decided (ZeroAbove spaces bounds n id)
  zero_above n id =
      as_much (λ t. (t.0, t.1.0, t.1.1)) (λ t. (t.0, (t.1, t.2)))
      (some_low (λ a. IsTrue (is_at_or_above spaces a n) × IdIn id (ZeroIn spaces bounds (Standing a)))
      (λ a. both (tested_so (is_at_or_above spaces a n)) (id_in id (ZeroIn spaces bounds (Standing a)) (zero_in (Standing a))))
      (suc n) (λ a t. above_low a n t.0))

  root_can : (row : Row) (id : Option ℕ) → Decided (RootCan spaces bounds row id)
  root_can (Standing n) id = zero_above n id
  root_can (Fresh n) id = either (id_in id (ZeroIn spaces bounds (Fresh n)) (zero_in (Fresh n))) (zero_above n id)

  takes_can : (row : Row) (f : FileView) → Decided (TakesCan spaces bounds row f)
  takes_can row f =
      four (fine.each row NewPrivs 0) (tested_so (is_some f.caps)) (tested_so (may_raise_in spaces (space_under row) f)) (root_can row f.root)

  cap_by_file : (row : Row) (x : ℕ) → Decided (CapByFile files spaces bounds row x)
  cap_by_file row x =
      as_much (λ t. (t.0, t.1.0, t.1.1, t.1.2, t.1.3)) (λ t. (t.0, (t.1, t.2, t.3, t.4)))
      (some_low
      (λ k. IsTrue (is_program files k) × CanRun (bounds row) (view files k) × TakesCan spaces bounds row (view files k)
      × FileGives (bounds row) (view files k) x)
      (λ k. four (tested_so (is_program files k)) (can_run (bounds row) (fine.each row) limit (fine.low row) (view files k)) (takes_can row (view files k))
      (file_gives (bounds row) (fine.each row) limit (fine.low row) (view files k) x))
      (length files.rows) (λ k t. caps_low files k t.2.1))

  cap_by_root : (row : Row) (x : ℕ) → Decided (CapByRoot spaces bounds row x)
  cap_by_root row x =
      four (fine.each row RootCounts 0) (fine.each row NewPrivs 0) (meet row Uids (ZeroIn spaces bounds row) (zero_in row))
      (either (fine.each row InheritableCaps x) (fine.each row BoundingCaps x))

  only_caps : (Set : ℕ → Type 0) → ((x : ℕ) → Decided (Set x)) → (part : Part) (x : ℕ) → Decided (OnlyCaps Set part x)
  only_caps Set set PermittedCaps x = set x
  only_caps Set set _ x = never

  can_make : (n : ℕ) → Decided (CanMake spaces bounds n)
  can_make n =
      three (tested_so (nat_lt (level spaces n) deepest))
      (meet (Standing n) EffectiveUids (bounds (Standing n) MappedUids) (fine.each (Standing n) MappedUids))
      (meet (Standing n) EffectiveGids (bounds (Standing n) MappedGids) (fine.each (Standing n) MappedGids))

  is_next : (a n m : ℕ) → Decided (IsNext spaces a n m)
  is_next a n m = both (tested_so (is_at_or_above spaces m n)) (same_option (space_of spaces m).parent a)

  members : (row : Row) → Decided (HasMembers (bounds row))
  members row = has_members (bounds row) (fine.each row) limit (fine.low row)

  can_join : (a n : ℕ) → Decided (CanJoin spaces bounds a n)
  can_join a n =
      as_much (λ t. (t.0, t.1.0, t.1.1, t.1.2)) (λ t. (t.0, (t.1, t.2, t.3)))
      (some_low
      (λ m. IsNext spaces a n m × HasMembers (bounds (Standing a))
      × (bounds (Standing a) PermittedCaps cap_sys_admin ⊎ bounds (Standing a) EffectiveUids (space_of spaces m).owner))
      (λ m. three (is_next a n m) (members (Standing a))
      (either (fine.each (Standing a) PermittedCaps cap_sys_admin) (fine.each (Standing a) EffectiveUids (space_of spaces m).owner)))
      (suc n) (λ m t. above_low m n t.0.0))

  joiner_low : (a n : ℕ) → CanJoin spaces bounds a n → a < suc n
  joiner_low a n (m, next, has, power) =
      let child : a < m = tree_earlier spaces tree m a next.1 in
      let low : m < suc n = above_low m n next.0 in
      omega arith

  by_joining : (n : ℕ) (part : Part) (x : ℕ) → Decided (ByJoining spaces bounds n part x)
  by_joining n part x =
      as_much (λ t. (t.0, t.1.0, t.1.1)) (λ t. (t.0, (t.1, t.2)))
      (some_low (λ a. CanJoin spaces bounds a n × Brings (bounds (Standing a)) part x)
      (λ a. both (can_join a n) (brings (bounds (Standing a)) (fine.each (Standing a)) limit (fine.low (Standing a)) part x))
      (suc n) (λ a t. joiner_low a n t.0))

  new_uid : (n q owner x : ℕ) → Decided (NewUid bounds n q owner x)
  new_uid n q owner x =
      both (fine.each (Standing q) MappedUids x)
      (either (fine.each (Standing q) PermittedCaps cap_setuid)
      (both (same_number x owner)
      (either (fine.each (Standing q) EffectiveUids owner)
      (both (fine.each (Standing n) EffectiveUids owner) (fine.each (Standing n) PermittedCaps cap_setuid)))))

  new_gid : (n q owner x : ℕ) → Decided (NewGid bounds n q owner x)
  new_gid n q owner x =
      both (fine.each (Standing q) MappedGids x)
      (either (fine.each (Standing q) PermittedCaps cap_setgid)
      (either (both (fine.each (Standing q) EffectiveUids owner) (fine.each (Standing q) EffectiveGids x))
      (three (fine.each (Standing n) EffectiveUids owner) (fine.each (Standing n) PermittedCaps cap_setgid) (fine.each (Standing n) EffectiveGids x))))

  of_parent : (o : Option ℕ) (P : ℕ → Type 0) → ((q : ℕ) → Decided (P q)) → Decided ((q : ℕ) × (o ≡ Some q) × P q)
  of_parent None P each = inr (λ t. let no : None ≡ Some t.0 = t.1 in absurd (cc))
  of_parent (Some p) P each =
      as_much (λ is. (p, refl, is)) (λ t. let same : p ≡ t.0 = one p t.0 t.1 in subst P (sym same) t.2) (each p) where
        one : (m n : ℕ) → Some m ≡ Some n → m ≡ n
        one m n is = cc

  by_maps : (row : Row) (part : Part) (x : ℕ) → Decided (ByMaps permitted spaces bounds row part x)
  by_maps (Standing n) MappedUids x =
      three (tested_so (permitted kind.WriteUidMap)) (tested_so (is_none (space_of spaces n).uids))
      (of_parent (space_of spaces n).parent (λ q. NewUid bounds n q (space_of spaces n).owner x) (λ q. new_uid n q (space_of spaces n).owner x))
  by_maps (Standing n) MappedGids x =
      three (tested_so (permitted kind.WriteGidMap)) (tested_so (is_none (space_of spaces n).gids))
      (of_parent (space_of spaces n).parent (λ q. NewGid bounds n q (space_of spaces n).owner x) (λ q. new_gid n q (space_of spaces n).owner x))
  by_maps (Fresh n) MappedUids x =
      three (tested_so (permitted kind.WriteUidMap)) (members (Fresh n))
      (both (fine.each (Standing n) MappedUids x) (either (fine.each (Standing n) EffectiveUids x) (fine.each (Standing n) PermittedCaps cap_setuid)))
  by_maps (Fresh n) MappedGids x =
      three (tested_so (permitted kind.WriteGidMap)) (members (Fresh n))
      (both (fine.each (Standing n) MappedGids x)
      (either (fine.each (Standing n) EffectiveGids x)
      (either (fine.each (Fresh n) EffectiveGids x) (fine.each (Standing n) PermittedCaps cap_setgid))))
  by_maps _ _ x = never

  -- What a rule adds is decided.
  pub adds_decided : (rule : Rule) (row : Row) (part : Part) (x : ℕ) → Decided (Adds permitted files spaces bounds rule row part x)
  adds_decided SetUid row part x =
      three (tested_so (permitted kind.SetUid || permitted kind.SetReUid || permitted kind.SetResUid)) (members row)
      (spreads_uid (bounds row) (fine.each row) limit (fine.low row) (SettableUid (bounds row))
      (settable_uid (bounds row) (fine.each row) limit (fine.low row)) part x)
  adds_decided SetFsUid row part x =
      three (tested_so (permitted kind.SetFsUid)) (members row) (gains_fs_uid (bounds row) (fine.each row) limit (fine.low row) part x)
  adds_decided SetGid row part x =
      three (tested_so (permitted kind.SetGid || permitted kind.SetReGid || permitted kind.SetResGid)) (members row)
      (spreads_gid (bounds row) (fine.each row) limit (fine.low row) (SettableGid (bounds row))
      (settable_gid (bounds row) (fine.each row) limit (fine.low row)) part x)
  adds_decided SetFsGid row part x =
      three (tested_so (permitted kind.SetFsGid)) (members row) (gains_fs_gid (bounds row) (fine.each row) limit (fine.low row) part x)
  adds_decided SetGroups row part x =
      four (tested_so (permitted kind.SetGroups)) (members row) (tested_so (not (space_of spaces (space_under row)).deny))
      (gains_groups (bounds row) (fine.each row) limit (fine.low row) part x)
  adds_decided CapSet row part x =
      three (tested_so (permitted kind.CapSet)) (members row) (gains_inheritable (bounds row) (fine.each row) limit (fine.low row) part x)
  adds_decided SecureBits row part x =
      three (tested_so (permitted kind.SecureBits)) (members row) (gains_root (bounds row) (fine.each row) limit (fine.low row) part x)
  adds_decided ExecUid row part x =
      three (tested_so (permitted kind.Exec)) (members row)
      (spreads_uid (bounds row) (fine.each row) limit (fine.low row) (OwnerByFile files spaces (space_under row) (bounds row))
      (owner_by_file (bounds row) (fine.each row) limit (fine.low row) files spaces (space_under row)) part x)
  adds_decided ExecGid row part x =
      three (tested_so (permitted kind.Exec)) (members row)
      (spreads_gid (bounds row) (fine.each row) limit (fine.low row) (GroupByFile files spaces (space_under row) (bounds row))
      (group_by_file (bounds row) (fine.each row) limit (fine.low row) files spaces (space_under row)) part x)
  adds_decided ExecCaps row part x =
      three (tested_so (permitted kind.Exec)) (members row) (only_caps (CapByFile files spaces bounds row) (cap_by_file row) part x)
  adds_decided ExecRoot row part x =
      three (tested_so (permitted kind.Exec)) (members row) (only_caps (CapByRoot spaces bounds row) (cap_by_root row) part x)
  adds_decided Create (Fresh n) part x =
      three (tested_so (permitted kind.Unshare || permitted kind.CloneUser)) (can_make n)
      (brings (bounds (Standing n)) (fine.each (Standing n)) limit (fine.low (Standing n)) part x)
  adds_decided Join (Standing n) part x = both (tested_so (permitted kind.SetNs)) (by_joining n part x)
  adds_decided Maps row part x = by_maps row part x
  adds_decided _ _ part x = never

  -- So is whether bounds meet a right by a row.
  pub meets_at_decided : (right : Right) (row : Row) → Decided (MeetsAt spaces bounds right row)
  meets_at_decided (Cap c n) (Standing a) =
      either (three (tested_so (is_at_or_above spaces a n)) (members (Standing a)) (fine.each (Standing a) PermittedCaps c))
      (as_much (λ t. (t.0, t.1.0, t.1.1)) (λ t. (t.0, (t.1, t.2)))
      (some_low (λ m. IsNext spaces a n m × bounds (Standing a) EffectiveUids (space_of spaces m).owner)
      (λ m. both (is_next a n m) (fine.each (Standing a) EffectiveUids (space_of spaces m).owner)) (suc n) (λ m t. above_low m n t.0.0)))
  meets_at_decided (Cap c n) (Fresh a) = never
  meets_at_decided (Uid id) row = fine.each row EffectiveUids id
  meets_at_decided (Gid id) row = either (fine.each row EffectiveGids id) (fine.each row Groups id)

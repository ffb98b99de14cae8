-- execve keeps its caller within its row.
use Rattle.std.proofs.Common.{◌≡◌, ℕ, ◌<◌, ◌≤◌, Bool, true, false, ◌&&◌, ◌||◌, not, Some, None, Option, List, length, refl, sym, ap, ◌∙◌, inl, inr, arith}
use Rattle.std.specs.Prelude.{◌⊎◌, IsTrue, is_some, is_none, slice_get, unwrap_or, if◌then◌else◌}
use Rattle.std.specs.List.{list_any}
use Rattle.std.proofs.lemmas.Bool.{false≢true, and_parts, and_from, or_cases, or_parts, eqb-true, eq-eqb, not-true, not-false, ltb-true}
use Rattle.cm_base.specs.CapSet.{holds, is_within, union, meet, none, full}
use Rattle.cm_base.specs.declared.errno.Errno.TheVariants.{EPERM, EACCES}
use Rattle.cm_base.specs.declared.res.FileRef.{FileRef}
use Rattle.cm_base.specs.declared.res.FileRef.TheVariants.{Row as FileRow, Plain}
use Rattle.cm_base.proofs.CapSets.{holds_none, holds_union, holds_meet, member_of_wider, within_reflexive, none_within, within_meet, second_within_union}
use Rattle.cm_filter.specs.declared.kind.CallKind.{CallKind}
use Rattle.cm_filter.specs.declared.kind.CallKind.TheVariants as kind
use Rattle.model_cred.specs.Credential.{Credential}
use Rattle.model_cred.specs.Files.{FileTable, Mount}
use Rattle.model_cred.specs.Files as declared_files
use Rattle.model_cred.specs.IdMap.{Extent, down, extents_of, is_outside, is_the}
use Rattle.model_cred.specs.Space.{Space, Spaces, stands, space_of, chain, is_at_or_above}
use Rattle.model_rules.specs.Answer.{Answer, done, refused}
use Rattle.model_rules.specs.Caps.{cap_dac_override}
use Rattle.model_rules.specs.CapCalls.{without_keep_caps}
use Rattle.model_rules.specs.Exec.{is_in_group, execute_bit, may_override, may_run, interpreter_of, run_file}
use Rattle.model_rules.specs.Exec.{named_file, may_exec, setuid_counts, setgid_counts, attribute_counts, is_privileged}
use Rattle.model_rules.specs.Exec.{uids_after, gids_after, FileSets, no_sets, attribute_sets, own_sets, would_lack}
use Rattle.model_rules.specs.Exec.{raised_sets, is_excepted, sets_for, ambient_after, permitted_after, with_sets}
use Rattle.model_rules.specs.Exec.{cred_after, execve}
use Rattle.model_rules.specs.FileView.{FileView, plain_view, view, view_in, view_if, has_bit, is_mapped_id}
use Rattle.model_rules.specs.FileView.{is_mapped_file, may_raise_in, allows_set_id, is_same_id, takes_attribute}
use Rattle.model_rules.specs.Securebits.{has_flag, noroot}
use Rattle.model_rules.specs.Zero.{zero_of, is_zero}
use Rattle.model_box.specs.Row.{Part, Uids, EffectiveUids, FsUids, Gids, EffectiveGids, FsGids, Groups, MappedUids}
use Rattle.model_box.specs.Row.{MappedGids, PermittedCaps, InheritableCaps, BoundingCaps, NewPrivs, Row, Standing}
use Rattle.model_box.specs.Row.{Fresh, space_under, HasMembers}
use Rattle.model_box.specs.Rule.{ExecUid, ExecGid, ExecCaps, ExecRoot}
use Rattle.model_box.specs.Files.{IdIn, HasOther, CanRun, SetIdCan, MayBeZero, ZeroIn, ZeroAbove, RootCan, TakesCan, FileGives, FilesFit, is_program}
use Rattle.model_box.specs.Closed.{Closed}
use Rattle.model_box.specs.Covers.{RowOf, own, MapsIn, MapsAreIn}
use Rattle.model_box.proofs.Trees.{any_item, at_or_above_low, row_standing, row_stands, split_chain}
use Rattle.model_box.proofs.Fits.{TreeFits, at_or_above_stays}
use Rattle.model_box.proofs.Ids.{IdsIn, from_each, down_outside, is_real}
use Rattle.model_box.proofs.Rows.{Fine}
use Rattle.model_box.proofs.Calls.{with_uid_fine, with_gid_fine, without_keep_caps_fine}
use Rattle.model_box.proofs.Writing.{choose}

-- ---- optional ids
id_is : (o : Option ℕ) (x : ℕ) (Set : ℕ → Type 0) → IsTrue (is_the o x) → Set x → IdIn o Set
id_is None x Set wrong held = absurd (false≢true wrong)
id_is (Some y) x Set same held = rw (← (eqb-true x y same)) held

mapped_in : (map : List Extent) (o : Option ℕ) (Set : ℕ → Type 0) → ((x : ℕ) → IsTrue (is_outside map x) → Set x) → IsTrue (is_mapped_id map o) → IdIn o Set
mapped_in map None Set maps wrong = absurd (false≢true wrong)
mapped_in map (Some x) Set maps held = maps x held

id_from : (o : Option ℕ) (z : ℕ) (Set : ℕ → Type 0) → o ≡ Some z → Set z → IdIn o Set
id_from o z Set same held = rw same held

-- ---- who may run a file
module _ (row : Part → ℕ → Type 0) (c : Credential) (fine : Fine row c) (s : Space) (maps : MapsIn s row) (f : FileView) where
  cap_here : (cap : ℕ) → IsTrue (holds c.effective cap) → row PermittedCaps cap
  cap_here cap held = fine.held.permitted cap (member_of_wider c.effective c.permitted fine.included.effective cap held)

  by_mode : IsTrue (has_bit f (execute_bit c f))
      → (IdIn f.owner (row FsUids) × IsTrue (has_bit f 0o100))
      ⊎ ((IdIn f.group (row FsGids) ⊎ IdIn f.group (row Groups)) × HasOther (row FsUids) f.owner × IsTrue (has_bit f 0o010))
      ⊎ (HasOther (row FsUids) f.owner × HasOther (row FsGids) f.group × IsTrue (has_bit f 0o001))
      ⊎ (row PermittedCaps cap_dac_override × IdIn f.owner (row MappedUids) × IdIn f.group (row MappedGids) × IsTrue (has_bit f 0o111))
  by_mode bit = go (is_the f.owner c.uid.fs) (is_in_group c f.group) refl refl bit where
    member_of : (is_the f.group c.gid.fs ≡ true) ⊎ (list_any (is_the f.group) c.groups ≡ true) → IdIn f.group (row FsGids) ⊎ IdIn f.group (row Groups)
    member_of (inl fs) = inl (id_is f.group c.gid.fs (row FsGids) fs (fine.held.gid.fs c.gid.fs refl))
    member_of (inr among) =
        let found = any_item (is_the f.group) c.groups among in
        inr (id_is f.group found.0 (row Groups) found.2 (fine.held.groups found.0 found.1))

    other_user : is_the f.owner c.uid.fs ≡ false → HasOther (row FsUids) f.owner
    other_user e = (c.uid.fs, fine.held.uid.fs c.uid.fs refl, ap not e)

    other_group : is_in_group c f.group ≡ false → HasOther (row FsGids) f.group
    other_group e = (c.gid.fs, fine.held.gid.fs c.gid.fs refl, ap not (or_parts (is_the f.group c.gid.fs) (list_any (is_the f.group) c.groups) e).0)

    go : (owner group : Bool) → is_the f.owner c.uid.fs ≡ owner → is_in_group c f.group ≡ group
        → IsTrue (has_bit f (if owner then 0o100 else if group then 0o010 else 0o001))
        → (IdIn f.owner (row FsUids) × IsTrue (has_bit f 0o100))
        ⊎ ((IdIn f.group (row FsGids) ⊎ IdIn f.group (row Groups)) × HasOther (row FsUids) f.owner × IsTrue (has_bit f 0o010))
        ⊎ (HasOther (row FsUids) f.owner × HasOther (row FsGids) f.group × IsTrue (has_bit f 0o001))
        ⊎ (row PermittedCaps cap_dac_override × IdIn f.owner (row MappedUids) × IdIn f.group (row MappedGids) × IsTrue (has_bit f 0o111))
    go true group o g bit' = inl (id_is f.owner c.uid.fs (row FsUids) o (fine.held.uid.fs c.uid.fs refl), bit')
    go false true o g bit' = inr (inl (member_of (or_cases (is_the f.group c.gid.fs) (list_any (is_the f.group) c.groups) g), other_user o, bit'))
    go false false o g bit' = inr (inr (inl (other_user o, other_group g, bit')))

  mapped_parts : IsTrue (is_mapped_file s f) → IdIn f.owner (row MappedUids) × IdIn f.group (row MappedGids)
  mapped_parts mapped =
      let both = and_parts (is_mapped_id (extents_of s.uids) f.owner) (is_mapped_id (extents_of s.gids) f.group) mapped in
      (mapped_in (extents_of s.uids) f.owner (row MappedUids) maps.uids both.0, mapped_in (extents_of s.gids) f.group (row MappedGids) maps.gids both.1)

  can_run : IsTrue (may_run s c f) → CanRun row f
  can_run may =
      let two = and_parts (not f.noexec) (has_bit f (execute_bit c f) || may_override s c f) may in
      (two.0, by (or_cases (has_bit f (execute_bit c f)) (may_override s c f) two.1)) where
        by : (has_bit f (execute_bit c f) ≡ true) ⊎ (may_override s c f ≡ true)
            → (IdIn f.owner (row FsUids) × IsTrue (has_bit f 0o100))
            ⊎ ((IdIn f.group (row FsGids) ⊎ IdIn f.group (row Groups)) × HasOther (row FsUids) f.owner × IsTrue (has_bit f 0o010))
            ⊎ (HasOther (row FsUids) f.owner × HasOther (row FsGids) f.group × IsTrue (has_bit f 0o001))
            ⊎ (row PermittedCaps cap_dac_override × IdIn f.owner (row MappedUids) × IdIn f.group (row MappedGids) × IsTrue (has_bit f 0o111))
        by (inl mode) = by_mode mode
        by (inr over_) =
            let first = and_parts (holds c.effective cap_dac_override && has_bit f 0o111) (is_mapped_file s f) over_ in
            let second = and_parts (holds c.effective cap_dac_override) (has_bit f 0o111) first.0 in
            let ids = mapped_parts first.1 in
            inr (inr (inr (cap_here cap_dac_override second.0, ids.0, ids.1, second.1)))

-- ---- the spaces as a file sees them
module _ (old new : Spaces) (bounds : Row → Part → ℕ → Type 0) (fit : TreeFits old new) (mapped : MapsAreIn old new bounds) where
  -- a space that stands and is above a member's space is above the standing space of its row
  above_row : (m at : ℕ) (row : Row) → m < length old → RowOf (length old) new at row → IsTrue (is_at_or_above new m at)
      → IsTrue (is_at_or_above old m (space_under row))
  above_row m at (Standing n) low row above = let two = row_standing row in at_or_above_stays old new fit m n (rw two.0 at two.1) (rw two.0 at above)
  above_row m at (Fresh a) low row above =
      elim (split_chain fit.earlier m row above) [
        | inl row_m ↦ absurd (let late : length old ≤ m = (row_stands row_m).1 in omega arith)
        | inr up ↦ at_or_above_stays old new fit m a (row_stands row).0 up
      ]

  -- inside 0 of a standing space
  zero_standing : (m z : ℕ) → m < length old → zero_of (space_of new m) ≡ Some z → ZeroIn old bounds (Standing m) z
  zero_standing m z low zero = go (space_of old m).uids ((fit.stay m low).uids) where
    go : (o : Option (List Extent)) → ((map : List Extent) → o ≡ Some map → (space_of new m).uids ≡ Some map) → MayBeZero o (bounds (Standing m) MappedUids) z
    go None stays = (mapped m (Standing m) (own m low)).uids z (down_outside (extents_of (space_of new m).uids) 0 z zero)
    go (Some map) stays =
        let at_zero : down map 0 ≡ Some z = sym (ap (λ (o : Option (List Extent)). down (extents_of o) 0) (stays map refl)) ∙ zero in
        rw at_zero (eq-eqb z z refl)

  -- inside 0 of a member's own space
  zero_own : (at z : ℕ) (row : Row) → RowOf (length old) new at row → zero_of (space_of new at) ≡ Some z → ZeroIn old bounds row z
  zero_own at z (Standing n) row zero = let two = row_standing row in zero_standing n z (rw two.0 at two.1) (rw two.0 at zero)
  zero_own at z (Fresh a) row zero = (mapped at (Fresh a) row).uids z (down_outside (extents_of (space_of new at).uids) 0 z zero)

  same_id : (a b : Option ℕ) → IsTrue (is_same_id a b) → (z : ℕ) × (a ≡ Some z) × (b ≡ Some z)
  same_id (Some a) (Some b) same = (a, refl, ap Some (sym (eqb-true a b same)))
  same_id _ _ wrong = absurd (false≢true wrong)

  zero_above : (id : Option ℕ) (m z n : ℕ) → id ≡ Some z → zero_of (space_of new m) ≡ Some z → n < length old
      → IsTrue (is_at_or_above new m n) → ZeroAbove old bounds n id
  zero_above id m z n is zero low up =
      let m_low : m ≤ n = at_or_above_low new fit.earlier m n up in
      (m, at_or_above_stays old new fit m n low up, id_from id z (ZeroIn old bounds (Standing m)) is (zero_standing m z (omega arith) zero))

  root_by : (id : Option ℕ) (m z at : ℕ) → id ≡ Some z → zero_of (space_of new m) ≡ Some z → IsTrue (is_at_or_above new m at) → (row : Row)
      → RowOf (length old) new at row → RootCan old bounds row id
  root_by id m z at is zero up (Standing n) row_n = let two = row_standing row_n in zero_above id m z n is zero (rw two.0 at two.1) (rw two.0 at up)
  root_by id m z at is zero up (Fresh a) row_a =
      elim (split_chain fit.earlier m row_a up) [
        | inl row_m ↦
            inl (id_from id z (ZeroIn old bounds (Fresh a)) is
            ((mapped m (Fresh a) row_m).uids z (down_outside (extents_of (space_of new m).uids) 0 z zero)))
        | inr more ↦ inr (zero_above id m z a is zero (row_stands row_a).0 more)
      ]

  -- inside 0 of a member's space or of one above it
  root_can : (at : ℕ) (row : Row) (id : Option ℕ) → RowOf (length old) new at row
      → IsTrue (list_any (λ m. is_same_id id (zero_of (space_of new m))) (chain new at)) → RootCan old bounds row id
  root_can at row id row_at held =
      let found = any_item (λ m. is_same_id id (zero_of (space_of new m))) (chain new at) held in
      let ids = same_id id (zero_of (space_of new found.0)) found.2 in
      root_by id found.0 ids.0 at ids.1 ids.2 found.1 row row_at

-- ---- what closed bounds give at one file
-- the effects of a file that can be run are in the row
record FileIn (old : Spaces) (bounds : Row → Part → ℕ → Type 0) (row : Row) (f : FileView) : Type 0 where
  owner : CanRun (bounds row) f → SetIdCan old (space_under row) (bounds row) f → IsTrue (has_bit f 0o4000) → (x : ℕ)
      → f.owner ≡ Some x → bounds row EffectiveUids x
  group : CanRun (bounds row) f → SetIdCan old (space_under row) (bounds row) f → IsTrue (has_bit f 0o2000)
      → IsTrue (has_bit f 0o010) → (x : ℕ) → f.group ≡ Some x
      → bounds row EffectiveGids x
  caps : CanRun (bounds row) f → TakesCan old bounds row f → (x : ℕ) → FileGives (bounds row) f x → bounds row PermittedCaps x
  stands : (f ≡ plain_view) ⊎ (f.space < length old)

-- a file that isn't declared has none
plain_in : (old : Spaces) (bounds : Row → Part → ℕ → Type 0) (row : Row) → FileIn old bounds row plain_view
plain_in old bounds row = record {
  owner = λ runs set_id bit x same. absurd (set_id.2);
  group = λ runs set_id bit both x same. absurd (set_id.2);
  caps = λ runs takes x gives. absurd (false≢true takes.1);
  stands = inl refl;
}

module _ (permitted : CallKind → Bool) (files : FileTable) (old : Spaces) (bounds : Row → Part → ℕ → Type 0) (closed : Closed permitted files old bounds)
    (files_fit : FilesFit files old) (row : Row) (standing : IsTrue (stands old (space_under row)))
    (members : HasMembers (bounds row)) (allowed : IsTrue (permitted kind.Exec)) where
  view_stands : (k : ℕ) → (view files k ≡ plain_view) ⊎ ((view files k).space < length old)
  view_stands k = at_row (slice_get files.rows k) where
    at_mount : (f : declared_files.FileRow) (o : Option Mount) → slice_get files.mounts f.mount ≡ o
        → (view_if o f ≡ plain_view) ⊎ ((view_if o f).space < length old)
    at_mount f None same = inl refl
    at_mount f (Some m) same = inr (ltb-true m.space (length old) (files_fit.mounts f.mount m same))

    at_row : (o : Option declared_files.FileRow) → (view_in files o ≡ plain_view) ⊎ ((view_in files o).space < length old)
    at_row None = inl refl
    at_row (Some f) = at_mount f (slice_get files.mounts f.mount) refl

  -- a program of the table
  program_in : (k : ℕ) → interpreter_of files k ≡ None → FileIn old bounds row (view files k)
  program_in k none_ = record {
    owner = λ runs set_id bit x same. closed ExecUid row standing EffectiveUids x (allowed, members, (k, program, runs, set_id, bit, same));
    group = λ runs set_id bit both x same. closed ExecGid row standing EffectiveGids x (allowed, members, (k, program, runs, set_id, bit, both, same));
    caps = λ runs takes x gives. closed ExecCaps row standing PermittedCaps x (allowed, members, (k, program, runs, takes, gives));
    stands = view_stands k;
  } where
    program : IsTrue (is_program files k)
    program = ap (λ (o : Option ℕ). is_none o) none_

  -- The file that runs: for a script its interpreter, which the caller has to be allowed to run too.
  run_in : (f : FileRef) → FileIn old bounds row (run_file files f)
  run_in (FileRow k) = go (interpreter_of files k) refl where
    go : (o : Option ℕ) → interpreter_of files k ≡ o → FileIn old bounds row (view files (unwrap_or o k))
    go None same = program_in k same
    go (Some j) same = program_in j (files_fit.interpreters k j same)
  run_in Plain = plain_in old bounds row

-- ---- the credential after execve
module _ (permitted : CallKind → Bool) (files : FileTable) (old new : Spaces) (bounds : Row → Part → ℕ → Type 0) (closed : Closed permitted files old bounds)
    (fit : TreeFits old new) (mapped : MapsAreIn old new bounds) (row : Row) (standing : IsTrue (stands old (space_under row))) (at : ℕ) (row_at : RowOf (length old) new at row)
    (c : Credential) (fine : Fine (bounds row) c) (allowed : IsTrue (permitted kind.Exec)) where
  has_members : HasMembers (bounds row)
  has_members = (c.uid.effective, fine.held.uid.effective c.uid.effective refl)

  maps_here : MapsIn (space_of new at) (bounds row)
  maps_here = mapped at row row_at

  free : not c.no_new_privs ≡ true → bounds row NewPrivs 0
  free clear = fine.held.new_privs (not-true c.no_new_privs clear)

  module _ (f : FileView) (inside : FileIn old bounds row f) (runs : CanRun (bounds row) f) where
    raises : IsTrue (is_some f.owner) ⊎ IsTrue (is_some f.caps) → IsTrue (may_raise_in new at f) → IsTrue (may_raise_in old (space_under row) f)
    raises there may = by inside.stands (and_parts (not f.nosuid) (is_at_or_above new f.space at) may) where
      by : (f ≡ plain_view) ⊎ (f.space < length old) → IsTrue (not f.nosuid) × IsTrue (is_at_or_above new f.space at)
          → IsTrue (may_raise_in old (space_under row) f)
      by (inl plain) both = absurd (no there) where
        no : IsTrue (is_some f.owner) ⊎ IsTrue (is_some f.caps) → ⊥
        no (inl owner) = false≢true (rw plain at owner)
        no (inr caps) = false≢true (rw plain at caps)
      by (inr low) both =
          and_from (not f.nosuid) (is_at_or_above old f.space (space_under row)) both.0
          (above_row old new bounds fit mapped f.space at row low row_at both.1)

    -- the set-id bits count in the row
    owner_there : (o : Option ℕ) → IdIn o (bounds row MappedUids) → IsTrue (is_some o)
    owner_there None wrong = absurd wrong
    owner_there (Some x) held = refl

    set_id_can : IsTrue (not c.no_new_privs && allows_set_id new at f) → SetIdCan old (space_under row) (bounds row) f
    set_id_can may =
        let two = and_parts (not c.no_new_privs) (allows_set_id new at f) may in
        let allows = and_parts (may_raise_in new at f) (is_mapped_file (space_of new at) f) two.1 in
        let ids = mapped_parts (bounds row) c fine (space_of new at) maps_here f allows.1 in
        (free two.0, raises (inl (owner_there f.owner ids.0)) allows.0, ids.0, ids.1)

    takes_can : IsTrue (attribute_counts new at c f) → TakesCan old bounds row f
    takes_can may =
        let two = and_parts (not c.no_new_privs) (takes_attribute new at f) may in
        let more = and_parts (is_some f.caps && may_raise_in new at f) (list_any (λ m. is_same_id f.root (zero_of (space_of new m))) (chain new at)) two.1 in
        let first = and_parts (is_some f.caps) (may_raise_in new at f) more.0 in
        (free two.0, first.0, raises (inr first.0) first.1, root_can old new bounds fit mapped at row f.root row_at more.1)

    -- ---- the ids
    uid_old : (x : ℕ) → bounds row EffectiveUids x → bounds row Uids x
    uid_old x held = closed ExecUid row standing Uids x (allowed, has_members, inl held)

    uid_fs : (x : ℕ) → bounds row EffectiveUids x → bounds row FsUids x
    uid_fs x held = closed ExecUid row standing FsUids x (allowed, has_members, inl held)

    gid_old : (x : ℕ) → bounds row EffectiveGids x → bounds row Gids x
    gid_old x held = closed ExecGid row standing Gids x (allowed, has_members, inl held)

    gid_fs : (x : ℕ) → bounds row EffectiveGids x → bounds row FsGids x
    gid_fs x held = closed ExecGid row standing FsGids x (allowed, has_members, inl held)

    unwrapped : (o : Option ℕ) (d : ℕ) (Set : ℕ → Type 0) → Set d → ((x : ℕ) → o ≡ Some x → Set x) → Set (unwrap_or o d)
    unwrapped None d Set at_none at_some = at_none
    unwrapped (Some x) d Set at_none at_some = at_some x refl

    new_uid : bounds row EffectiveUids (uids_after new at c f).effective
    new_uid =
        choose (bounds row EffectiveUids) (setuid_counts new at c f) (unwrap_or f.owner c.uid.effective) c.uid.effective
        (λ counts.
        let two = and_parts (not c.no_new_privs && allows_set_id new at f) (has_bit f 0o4000) counts in
        unwrapped f.owner c.uid.effective (bounds row EffectiveUids) (fine.held.uid.effective c.uid.effective refl)
        (inside.owner runs (set_id_can two.0) two.1))
        (λ _. fine.held.uid.effective c.uid.effective refl)

    new_gid : bounds row EffectiveGids (gids_after new at c f).effective
    new_gid =
        choose (bounds row EffectiveGids) (setgid_counts new at c f) (unwrap_or f.group c.gid.effective) c.gid.effective
        (λ counts.
        let first = and_parts (not c.no_new_privs && allows_set_id new at f && has_bit f 0o2000) (has_bit f 0o010) counts in
        let two = and_parts (not c.no_new_privs && allows_set_id new at f) (has_bit f 0o2000) first.0 in
        unwrapped f.group c.gid.effective (bounds row EffectiveGids) (fine.held.gid.effective c.gid.effective refl)
        (inside.group runs (set_id_can two.0) two.1 first.1))
        (λ _. fine.held.gid.effective c.gid.effective refl)

    uids_in : IdsIn (bounds row Uids) (bounds row EffectiveUids) (bounds row FsUids) (uids_after new at c f)
    uids_in =
        from_each (bounds row Uids) (bounds row EffectiveUids) (bounds row FsUids) (uids_after new at c f)
        (fine.held.uid.three c.uid.real (is_real c.uid)) (uid_old (uids_after new at c f).effective new_uid)
        (uid_old (uids_after new at c f).effective new_uid) new_uid
        (uid_fs (uids_after new at c f).effective new_uid)

    gids_in : IdsIn (bounds row Gids) (bounds row EffectiveGids) (bounds row FsGids) (gids_after new at c f)
    gids_in =
        from_each (bounds row Gids) (bounds row EffectiveGids) (bounds row FsGids) (gids_after new at c f)
        (fine.held.gid.three c.gid.real (is_real c.gid)) (gid_old (gids_after new at c f).effective new_gid)
        (gid_old (gids_after new at c f).effective new_gid) new_gid
        (gid_fs (gids_after new at c f).effective new_gid)

    -- ---- the sets
    abbrev SetsIn : FileSets → Type 0
    SetsIn sets =
        (x : ℕ)
        → (IsTrue (holds c.inheritable x) × IsTrue (holds sets.inheritable x))
        ⊎ (IsTrue (holds sets.permitted x) × IsTrue (holds c.bounding x))
        → bounds row PermittedCaps x

    own_in : SetsIn (own_sets new at c f)
    own_in =
        choose SetsIn (attribute_counts new at c f) (attribute_sets f.caps) no_sets
        (λ counts x gives. inside.caps runs (takes_can counts) x (by x gives)) (λ _ x gives. absurd (nothing x gives)) where
          by : (x : ℕ)
              → (IsTrue (holds c.inheritable x) × IsTrue (holds (attribute_sets f.caps).inheritable x))
              ⊎ (IsTrue (holds (attribute_sets f.caps).permitted x) × IsTrue (holds c.bounding x))
              → FileGives (bounds row) f x
          by x (inl both) = inl (fine.held.inheritable x both.0, both.1)
          by x (inr both) = inr (both.0, fine.held.bounding x both.1)

          nothing : (x : ℕ) → (IsTrue (holds c.inheritable x) × IsTrue (holds none x)) ⊎ (IsTrue (holds none x) × IsTrue (holds c.bounding x)) → ⊥
          nothing x (inl both) = false≢true (sym (holds_none x) ∙ both.1)
          nothing x (inr both) = false≢true (sym (holds_none x) ∙ both.0)

    -- what root gets as root
    by_root : bounds row NewPrivs 0 → has_flag c noroot ≡ false → (z : ℕ) → bounds row Uids z
        → IsTrue (is_zero (space_of new at) z) → (sets : FileSets) → SetsIn sets
    by_root may clear z held zero sets x gives =
        closed ExecRoot row standing PermittedCaps x (
          allowed,
          has_members,
          (
            fine.held.root clear,
            may,
            (z, held, zero_own old new bounds fit mapped at z row row_at (the_zero (zero_of (space_of new at)) zero)),
            by gives,
          ),
        ) where
          the_zero : (o : Option ℕ) → IsTrue (is_the o z) → o ≡ Some z
          the_zero None wrong = absurd (false≢true wrong)
          the_zero (Some y) same = ap Some (sym (eqb-true z y same))

          by : (IsTrue (holds c.inheritable x) × IsTrue (holds sets.inheritable x)) ⊎ (IsTrue (holds sets.permitted x) × IsTrue (holds c.bounding x))
              → bounds row InheritableCaps x ⊎ bounds row BoundingCaps x
          by (inl both) = inl (fine.held.inheritable x both.0)
          by (inr both) = inr (fine.held.bounding x both.1)

    raised_in : bounds row NewPrivs 0 → has_flag c noroot ≡ false → SetsIn (raised_sets (space_of new at) (uids_after new at c f) (own_sets new at c f))
    raised_in may clear =
        choose SetsIn (is_zero (space_of new at) (uids_after new at c f).effective) (record { permitted = full; inheritable = full; effective = true })
        (if is_zero (space_of new at) (uids_after new at c f).real then record (own_sets new at c f) {
          permitted = full;
          inheritable = full;
        } else own_sets new at c f)
        (λ zero.
        by_root may clear (uids_after new at c f).effective (uid_old (uids_after new at c f).effective new_uid) zero
        (record { permitted = full; inheritable = full; effective = true }))
        (λ _.
        choose SetsIn (is_zero (space_of new at) (uids_after new at c f).real)
        (record (own_sets new at c f) { permitted = full; inheritable = full }) (own_sets new at c f)
        (λ zero.
        by_root may clear c.uid.real (fine.held.uid.three c.uid.real (is_real c.uid)) zero
        (record (own_sets new at c f) { permitted = full; inheritable = full }))
        (λ _. own_in))

    sets_in : bounds row NewPrivs 0 → SetsIn (sets_for new at c f)
    sets_in may =
        choose SetsIn (has_flag c noroot || is_excepted (space_of new at) (uids_after new at c f) (attribute_counts new at c f)) (own_sets new at c f)
        (raised_sets (space_of new at) (uids_after new at c f) (own_sets new at c f))
        (λ _. own_in) (λ no.
        raised_in may (or_parts (has_flag c noroot)
        (is_excepted (space_of new at) (uids_after new at c f) (attribute_counts new at c f)) no).0)

    -- the ambient set after it is no larger
    ambient_less : (set : ℕ) → IsTrue (is_within c.ambient set) → IsTrue (is_within (ambient_after c (is_privileged new at c f)) set)
    ambient_less set within =
        choose (λ (a : ℕ). IsTrue (is_within a set)) (is_privileged new at c f) none c.ambient (λ _. none_within set) (λ _. within)

    module _ (sets : FileSets) (ambient : ℕ)
        (less : (set : ℕ) → IsTrue (is_within c.ambient set) → IsTrue (is_within ambient set))
        (in_them : bounds row NewPrivs 0 → SetsIn sets) where
      gained_in : bounds row NewPrivs 0 → (x : ℕ)
          → IsTrue (holds (union (union (meet c.inheritable sets.inheritable)
          (meet sets.permitted c.bounding)) ambient) x)
          → bounds row PermittedCaps x
      gained_in may x held =
          outer (or_cases (holds (union (meet c.inheritable sets.inheritable) (meet sets.permitted c.bounding)) x) (holds ambient x)
          (sym (holds_union (union (meet c.inheritable sets.inheritable) (meet sets.permitted c.bounding)) ambient x) ∙ held)) where
            inner : (holds (meet c.inheritable sets.inheritable) x ≡ true) ⊎ (holds (meet sets.permitted c.bounding) x ≡ true) → bounds row PermittedCaps x
            inner (inl both) =
                in_them may x (inl (and_parts (holds c.inheritable x) (holds sets.inheritable x)
                (sym (holds_meet c.inheritable sets.inheritable x) ∙ both)))
            inner (inr both) =
                in_them may x (inr (and_parts (holds sets.permitted x) (holds c.bounding x)
                (sym (holds_meet sets.permitted c.bounding x) ∙ both)))

            outer : (holds (union (meet c.inheritable sets.inheritable) (meet sets.permitted c.bounding)) x ≡ true)
                ⊎ (holds ambient x ≡ true)
                → bounds row PermittedCaps x
            outer (inl two) =
                inner (or_cases (holds (meet c.inheritable sets.inheritable) x) (holds (meet sets.permitted c.bounding) x)
                (sym (holds_union (meet c.inheritable sets.inheritable) (meet sets.permitted c.bounding) x) ∙ two))
            outer (inr a) = fine.held.permitted x (member_of_wider ambient c.permitted (less c.permitted fine.included.ambient_permitted) x a)

      permitted_in : (x : ℕ) → IsTrue (holds (permitted_after c sets ambient) x) → bounds row PermittedCaps x
      permitted_in =
          by c.no_new_privs refl where
            by : (b : Bool) → c.no_new_privs ≡ b → (x : ℕ)
                → IsTrue (holds (if b
                then meet (union (union (meet c.inheritable sets.inheritable)
                (meet sets.permitted c.bounding)) ambient) c.permitted
                else union (union (meet c.inheritable sets.inheritable) (meet sets.permitted c.bounding)) ambient) x)
                → bounds row PermittedCaps x
            by true set x held =
                fine.held.permitted x (and_parts
                (holds (union (union (meet c.inheritable sets.inheritable)
                (meet sets.permitted c.bounding)) ambient) x)
                (holds c.permitted x)
                (sym (holds_meet (union (union (meet c.inheritable sets.inheritable) (meet sets.permitted c.bounding)) ambient) c.permitted x) ∙ held)).1
            by false clear x held = gained_in (fine.held.new_privs clear) x held

      ambient_within : IsTrue (is_within ambient (permitted_after c sets ambient))
      ambient_within =
          choose (λ (p : ℕ). IsTrue (is_within ambient p)) c.no_new_privs
          (meet (union (union (meet c.inheritable sets.inheritable) (meet sets.permitted c.bounding)) ambient) c.permitted)
          (union (union (meet c.inheritable sets.inheritable) (meet sets.permitted c.bounding)) ambient)
          (λ _. within_meet (union (union (meet c.inheritable sets.inheritable) (meet sets.permitted c.bounding)) ambient) c.permitted ambient
          (second_within_union (union (meet c.inheritable sets.inheritable) (meet sets.permitted c.bounding)) ambient)
          (less c.permitted fine.included.ambient_permitted))
          (λ _. second_within_union (union (meet c.inheritable sets.inheritable) (meet sets.permitted c.bounding)) ambient)

      with_sets_fine : Fine (bounds row) (with_sets c sets ambient)
      with_sets_fine = record {
        held = search permitted_in;
        included = record {
          effective =
              choose (λ (e : ℕ). IsTrue (is_within e (permitted_after c sets ambient))) sets.effective
              (permitted_after c sets ambient) ambient (λ _. within_reflexive (permitted_after c sets ambient))
              (λ _. ambient_within);
          ambient_permitted = ambient_within;
          ambient_inheritable = less c.inheritable fine.included.ambient_inheritable;
        };
      }

    -- the credential that the program runs with
    cred_after_fine : Fine (bounds row) (cred_after new at c f)
    cred_after_fine =
        let sets : Fine (bounds row) (with_sets c (sets_for new at c f) (ambient_after c (is_privileged new at c f)))
        = with_sets_fine (sets_for new at c f) (ambient_after c (is_privileged new at c f)) ambient_less sets_in in
        let kept : Fine (bounds row) (without_keep_caps (with_sets c (sets_for new at c f) (ambient_after c (is_privileged new at c f))))
        = without_keep_caps_fine permitted files old bounds closed row standing new at maps_here
        (with_sets c (sets_for new at c f) (ambient_after c (is_privileged new at c f))) sets in
        with_gid_fine (bounds row)
        (record (without_keep_caps
        (with_sets c (sets_for new at c f) (ambient_after c (is_privileged new at c f)))) {
          uid = uids_after new at c f;
        })
        (with_uid_fine (bounds row)
        (without_keep_caps (with_sets c (sets_for new at c f) (ambient_after c (is_privileged new at c f)))) kept
        (uids_after new at c f) uids_in)
        (gids_after new at c f) gids_in

  -- execve(2). That it refuses a program which would lack what its file permits isn't used.
  pub execve_fine : FilesFit files old → (f : FileRef) → Fine (bounds row) (execve files new at c f).cred
  execve_fine files_fit f =
      choose (λ (a : Answer). Fine (bounds row) a.cred) (not (may_exec (space_of new at) c files f)) (refused EACCES c)
      (if would_lack c (own_sets new at c (run_file files f)) then refused EPERM c else done (cred_after new at c (run_file files f))) (λ _. fine)
      (λ may.
      choose (λ (a : Answer). Fine (bounds row) a.cred) (would_lack c (own_sets new at c (run_file files f)))
      (refused EPERM c) (done (cred_after new at c (run_file files f))) (λ _. fine)
      (λ _. cred_after_fine (run_file files f) (run_in permitted files old bounds closed files_fit row standing has_members allowed f)
      (can_run (bounds row) c fine (space_of new at) maps_here (run_file files f)
      (and_parts (may_run (space_of new at) c (named_file files f)) (may_run (space_of new at) c (run_file files f))
      (not-false (may_exec (space_of new at) c files f) may)).1)))

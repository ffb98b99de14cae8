-- The calls that change the caller's credential alone keep it within its row: one law for each call, of one credential.
use Rattle.std.proofs.Common.{◌≡◌, ℕ, Bool, true, false, ◌&&◌, ◌||◌, not, Some, None, Option, List, [], ◌∷◌, length}
use Rattle.std.proofs.Common.{refl, sym, ◌∙◌, inl, inr, ltb, eqb, Result, Ok}
use Rattle.std.specs.Prelude.{◌⊎◌, ◌==◌, IsTrue, nat_lt, is_none, bit_and, bit_xor, option_map, option_and_then, if◌then◌else◌}
use Rattle.std.specs.declared.result.Result.TheVariants.{Err}
use Rattle.std.specs.List.{list_any}
use Rattle.std.proofs.lemmas.Bool.{false≢true, and_parts, and_from, or_cases, or_left, or_right, eqb-true, eq-eqb, cases_Bool, not-false}
use Rattle.cm_base.specs.CapSet.{holds, is_within, union, meet, minus, none, with, without, single}
use Rattle.cm_base.specs.declared.errno.Errno.{Errno}
use Rattle.cm_base.specs.declared.errno.Errno.TheVariants.{EPERM, EINVAL, EACCES}
use Rattle.cm_base.proofs.CapSets.{holds_none, holds_union, holds_meet, holds_minus, holds_single, member_of_wider}
use Rattle.cm_base.proofs.CapSets.{within_from_members, within_reflexive, within_transitive, none_within}
use Rattle.cm_base.proofs.CapSets.{meet_within_first, meet_within_second, union_within, minus_within}
use Rattle.cm_filter.specs.declared.kind.CallKind.{CallKind}
use Rattle.cm_filter.specs.declared.kind.CallKind.TheVariants as kind
use Rattle.model_cred.specs.Call.{Call, SetUid, SetReUid, SetResUid, SetFsUid, SetGid, SetReGid, SetResGid, SetFsGid}
use Rattle.model_cred.specs.Call.{SetGroups, CapSet, BsetDrop, AmbRaise, AmbLower, AmbClear, SecureBits, KeepCaps}
use Rattle.model_cred.specs.Call.{NoNewPrivs, Unshare, SetNs, Exec, Install, kind_of}
use Rattle.model_cred.specs.Credential.{Credential, FourIds, id_set, insert_id}
use Rattle.model_cred.specs.Files.{FileTable}
use Rattle.model_cred.specs.IdMap.{Extent, down, extents_of, is_outside}
use Rattle.model_cred.specs.Space.{Space, Spaces, stands, space_of}
use Rattle.model_rules.specs.Answer.{Answer, done, refused}
use Rattle.model_rules.specs.Caps.{cap_setuid, cap_setgid, cap_setpcap, fs_caps, last_cap}
use Rattle.model_rules.specs.CapCalls.{has_setpcap, may_capset, with_capset, capset, bset_drop, may_raise, amb_raise}
use Rattle.model_rules.specs.CapCalls.{amb_lower, amb_clear, may_secure, secure_bits, without_keep_caps, with_keep_caps}
use Rattle.model_rules.specs.CapCalls.{set_keep_caps, set_no_new_privs}
use Rattle.model_rules.specs.Fixups.{without_root, after_losing_root, following_effective, fixed_up, following_fs, fs_fixed_up}
use Rattle.model_rules.specs.Install.{may_install}
use Rattle.model_rules.specs.Reply.{reply}
use Rattle.model_rules.specs.Securebits.{has_flag, keep_caps, no_setuid_fixup, no_cap_ambient_raise, lock_of, noroot, locks, locked_flags}
use Rattle.model_rules.specs.SetGroups.{setgroups, with_groups, all_down, most_groups}
use Rattle.model_rules.specs.SetId.{with_uids, with_gids, has_setuid, has_setgid, setuid, setreuid, setresuid, setfsuid}
use Rattle.model_rules.specs.SetId.{setfsgid, setresid, setreid, setid, setfsid}
use Rattle.model_rules.specs.Zero.{is_zero, has_zero}
use Rattle.model_box.specs.Row.{Part, Uids, EffectiveUids, FsUids, Gids, EffectiveGids, FsGids, Groups, MappedUids}
use Rattle.model_box.specs.Row.{MappedGids, PermittedCaps, InheritableCaps, BoundingCaps, NewPrivs, RootCounts}
use Rattle.model_box.specs.Row.{LockClear, Row}
use Rattle.model_box.specs.Row.{space_under, HasMembers}
use Rattle.model_box.specs.Rule as rule
use Rattle.model_box.specs.Closed.{Closed}
use Rattle.model_box.specs.Covers.{MapsIn}
use Rattle.model_box.proofs.Ids.{IdsIn, OkIn, SetsIn, down_outside, sets_in, setfsid_in}
use Rattle.model_box.proofs.Rows.{Fine, noroot_is, lock_is, locked_stays}
use Rattle.model_box.proofs.Writing.{choose}

-- ---- fixups: the ids stay, and the sets shrink
module _ (row : Part → ℕ → Type 0) where
  -- other effective and ambient sets change nothing of what the row holds
  with_effective_fine : (c : Credential) → Fine row c → (effective : ℕ) → IsTrue (is_within effective c.permitted)
      → Fine row (record c { effective = effective })
  with_effective_fine c fine effective within = search

  with_ambient_fine : (c : Credential) → Fine row c → (ambient : ℕ) → IsTrue (is_within ambient c.permitted) → IsTrue (is_within ambient c.inheritable)
      → Fine row (record c { ambient = ambient })
  with_ambient_fine c fine ambient permitted inheritable = search

  no_sets_fine : (c : Credential) → Fine row c → Fine row (record c { permitted = none; effective = none; ambient = none })
  no_sets_fine c fine =
      let nothing : (x : ℕ) → IsTrue (holds none x) → row PermittedCaps x =
      λ x held. absurd (false≢true (sym (holds_none x) ∙ held)) in
      let inside : IsTrue (is_within none c.inheritable) = none_within c.inheritable in search

  without_root_fine : (c : Credential) → Fine row c → Fine row (without_root c)
  without_root_fine c fine =
      choose (Fine row) (has_flag c keep_caps) (record c { ambient = none }) (record c { permitted = none; effective = none; ambient = none })
      (λ _. with_ambient_fine c fine none (none_within c.permitted) (none_within c.inheritable)) (λ _. no_sets_fine c fine)

  losing_root_fine : (s : Space) (old : FourIds) (c : Credential) → Fine row c → Fine row (after_losing_root s old c)
  losing_root_fine s old c fine =
      choose (Fine row) (has_zero s old && not (has_zero s c.uid)) (without_root c) c (λ _. without_root_fine c fine) (λ _. fine)

  following_fine : (s : Space) (old : FourIds) (c : Credential) → Fine row c → Fine row (following_effective s old c)
  following_fine s old c fine =
      choose (Fine row) (is_zero s old.effective && not (is_zero s c.uid.effective)) (record c { effective = none })
      (if not (is_zero s old.effective) && is_zero s c.uid.effective then record c { effective = c.permitted } else c)
      (λ _. with_effective_fine c fine none (none_within c.permitted))
      (λ _. choose (Fine row) (not (is_zero s old.effective) && is_zero s c.uid.effective) (record c { effective = c.permitted }) c
      (λ _. with_effective_fine c fine c.permitted (within_reflexive c.permitted)) (λ _. fine))

  fixed_up_fine : (s : Space) (old : FourIds) (c : Credential) → Fine row c → Fine row (fixed_up s old c)
  fixed_up_fine s old c fine =
      choose (Fine row) (has_flag c no_setuid_fixup) c (following_effective s old (after_losing_root s old c)) (λ _. fine)
      (λ _. following_fine s old (after_losing_root s old c) (losing_root_fine s old c fine))

  following_fs_fine : (s : Space) (old : ℕ) (c : Credential) → Fine row c → Fine row (following_fs s old c)
  following_fs_fine s old c fine =
      choose (Fine row) (is_zero s old && not (is_zero s c.uid.fs)) (record c { effective = minus c.effective fs_caps })
      (if not (is_zero s old) && is_zero s c.uid.fs then record c { effective = union c.effective (meet c.permitted fs_caps) } else c)
      (λ _.
      with_effective_fine c fine (minus c.effective fs_caps)
      (within_transitive (minus c.effective fs_caps) c.effective c.permitted
      (minus_within c.effective fs_caps) fine.included.effective))
      (λ _. choose (Fine row) (not (is_zero s old) && is_zero s c.uid.fs) (record c { effective = union c.effective (meet c.permitted fs_caps) }) c
      (λ _.
      with_effective_fine c fine (union c.effective (meet c.permitted fs_caps))
      (union_within c.effective (meet c.permitted fs_caps) c.permitted fine.included.effective
      (meet_within_first c.permitted fs_caps)))
      (λ _. fine))

  fs_fixed_up_fine : (s : Space) (old : ℕ) (c : Credential) → Fine row c → Fine row (fs_fixed_up s old c)
  fs_fixed_up_fine s old c fine =
      choose (Fine row) (has_flag c no_setuid_fixup) c (following_fs s old c) (λ _. fine) (λ _. following_fs_fine s old c fine)

  -- other user ids, within the row too
  pub with_uid_fine : (c : Credential) → Fine row c → (ids : FourIds)
      → IdsIn (row Uids) (row EffectiveUids) (row FsUids) ids → Fine row (record c { uid = ids })
  with_uid_fine c fine ids new = search

  pub with_gid_fine : (c : Credential) → Fine row c → (ids : FourIds)
      → IdsIn (row Gids) (row EffectiveGids) (row FsGids) ids → Fine row (record c { gid = ids })
  with_gid_fine c fine ids new = search

  with_uids_fine : (s : Space) (c : Credential) → Fine row c → (r : Result FourIds Errno)
      → OkIn (IdsIn (row Uids) (row EffectiveUids) (row FsUids)) r → Fine row (with_uids s c r).cred
  with_uids_fine s c fine (Ok ids) new = fixed_up_fine s c.uid (record c { uid = ids }) (with_uid_fine c fine ids new)
  with_uids_fine s c fine (Err e) new = fine

  with_gids_fine : (c : Credential) → Fine row c → (r : Result FourIds Errno)
      → OkIn (IdsIn (row Gids) (row EffectiveGids) (row FsGids)) r → Fine row (with_gids c r).cred
  with_gids_fine c fine (Ok ids) new = with_gid_fine c fine ids new
  with_gids_fine c fine (Err e) new = fine

-- ---- lists of groups
inserted : (id : ℕ) (ids : List ℕ) (x : ℕ) → IsTrue (list_any (λ g. eqb g x) (insert_id id ids)) → (id ≡ x) ⊎ IsTrue (list_any (λ g. eqb g x) ids)
inserted id [] x held = elim (or_cases (eqb id x) false held) [ inl same ↦ inl (eqb-true id x same) | inr wrong ↦ absurd (false≢true wrong) ]
inserted id (other ∷ ids) x held = by (ltb id other) (id == other) held (λ there. inserted id ids x there) where
  head_or : (P : Bool) → IsTrue (eqb other x || P) → (IsTrue P → (id ≡ x) ⊎ IsTrue (list_any (λ g. eqb g x) ids))
      → (id ≡ x) ⊎ IsTrue (list_any (λ g. eqb g x) (other ∷ ids))
  head_or P held' rest =
      elim (or_cases (eqb other x) P held') [
        | inl same ↦ inr (or_left (eqb other x) (list_any (λ g. eqb g x) ids) same)
        | inr there ↦ deep (rest there)
      ] where
        deep : (id ≡ x) ⊎ IsTrue (list_any (λ g. eqb g x) ids) → (id ≡ x) ⊎ IsTrue (list_any (λ g. eqb g x) (other ∷ ids))
        deep (inl same) = inl same
        deep (inr more) = inr (or_right (eqb other x) (list_any (λ g. eqb g x) ids) more)

  by : (before same : Bool)
      → IsTrue (list_any (λ g. eqb g x) (if before then id ∷ other ∷ ids else if same then other ∷ ids else other ∷ insert_id id ids))
      → (IsTrue (list_any (λ g. eqb g x) (insert_id id ids)) → (id ≡ x) ⊎ IsTrue (list_any (λ g. eqb g x) ids))
      → (id ≡ x) ⊎ IsTrue (list_any (λ g. eqb g x) (other ∷ ids))
  by true same held' rest =
      elim (or_cases (eqb id x) (list_any (λ g. eqb g x) (other ∷ ids)) held') [ inl one ↦ inl (eqb-true id x one) | inr there ↦ inr there ]
  by false true held' rest = inr held'
  by false false held' rest = head_or (list_any (λ g. eqb g x) (insert_id id ids)) held' rest

in_id_set : (ids : List ℕ) (x : ℕ) → IsTrue (list_any (λ g. eqb g x) (id_set ids)) → IsTrue (list_any (λ g. eqb g x) ids)
in_id_set [] x held = held
in_id_set (id ∷ ids) x held =
    elim (inserted id (id_set ids) x held) [
      | inl same ↦ or_left (eqb id x) (list_any (λ g. eqb g x) ids) (eq-eqb id x same)
      | inr there ↦ or_right (eqb id x) (list_any (λ g. eqb g x) ids) (in_id_set ids x there)
    ]

all_outside : (map : List Extent) (list ids : List ℕ) → all_down map list ≡ Some ids → (x : ℕ)
    → IsTrue (list_any (λ g. eqb g x) ids) → IsTrue (is_outside map x)
all_outside map [] ids down' x held = let none_ : [] ≡ ids = cc in absurd (false≢true (rw (← none_) at held))
all_outside map (i ∷ list) ids down' x held = first (λ more rest there. all_outside map list more rest x there) (down map i) refl down' where
  second : ((more : List ℕ) → all_down map list ≡ Some more → IsTrue (list_any (λ g. eqb g x) more) → IsTrue (is_outside map x)) → (k : ℕ)
      → down map i ≡ Some k → (r : Option (List ℕ)) → all_down map list ≡ r → option_map (λ rest. k ∷ rest) r ≡ Some ids → IsTrue (is_outside map x)
  second later k one None rest same = absurd (cc)
  second later k one (Some more) rest same =
      let ids_are : k ∷ more ≡ ids = cc in
      let held' : IsTrue (list_any (λ g. eqb g x) (k ∷ more)) = rw (← ids_are) at held in
      elim (or_cases (eqb k x) (list_any (λ g. eqb g x) more) held') [
        | inl here ↦ rw (eqb-true k x here) at (down_outside map i k one)
        | inr there ↦ later more rest there
      ]

  first : ((more : List ℕ) → all_down map list ≡ Some more → IsTrue (list_any (λ g. eqb g x) more) → IsTrue (is_outside map x)) → (o : Option ℕ)
      → down map i ≡ o → option_and_then (λ k. option_map (λ rest. k ∷ rest) (all_down map list)) o ≡ Some ids → IsTrue (is_outside map x)
  first later None one same = absurd (cc)
  first later (Some k) one same = second later k one (all_down map list) refl same

-- ---- the calls
-- the call makes no space, joins none and runs no program
abbrev pub IsOwn : Call → Type 0
IsOwn Unshare = ⊥
IsOwn (SetNs target) = ⊥
IsOwn (Exec f) = ⊥
IsOwn _ = Unit {0}

-- one of three is permitted
one_allowed : (a b d : Bool) → IsTrue a → IsTrue (a || b || d)
one_allowed a b d held = or_left (a || b) d (or_left a b held)

two_allowed : (a b d : Bool) → IsTrue b → IsTrue (a || b || d)
two_allowed a b d held = or_left (a || b) d (or_right a b held)

pub three_allowed : (a b d : Bool) → IsTrue d → IsTrue (a || b || d)
three_allowed a b d held = or_right (a || b) d held

module _ (permitted : CallKind → Bool) (files : FileTable) (old : Spaces) (bounds : Row → Part → ℕ → Type 0) (closed : Closed permitted files old bounds)
    (row : Row) (standing : IsTrue (stands old (space_under row))) (new : Spaces) (at : ℕ)
    (maps : MapsIn (space_of new at) (bounds row))
    (c : Credential) (fine : Fine (bounds row) c) where
  abbrev s : Space
  s = space_of new at

  members : HasMembers (bounds row)
  members = (c.uid.effective, fine.held.uid.effective c.uid.effective refl)

  -- an effective capability is in the row
  pub cap_in : (cap : ℕ) → IsTrue (holds c.effective cap) → bounds row PermittedCaps cap
  cap_in cap held = fine.held.permitted cap (member_of_wider c.effective c.permitted fine.included.effective cap held)

  module _ (allowed : IsTrue (permitted kind.SetUid || permitted kind.SetReUid || permitted kind.SetResUid)) where
    uids_in : SetsIn (bounds row Uids) (bounds row EffectiveUids) (bounds row FsUids) (extents_of s.uids)
        (has_setuid c) c.uid
    uids_in =
        sets_in (bounds row Uids) (bounds row EffectiveUids) (bounds row FsUids) (bounds row MappedUids)
        (bounds row PermittedCaps cap_setuid) (extents_of s.uids) maps.uids (has_setuid c)
        (cap_in cap_setuid) c.uid fine.held.uid
        (λ x set. closed rule.SetUid row standing EffectiveUids x (allowed, members, set))
        (λ x held. closed rule.SetUid row standing Uids x (allowed, members, inl held))
        (λ x held. closed rule.SetUid row standing FsUids x (allowed, members, inl held))

    setresuid_fine : (r e v : ℕ) → Fine (bounds row) (setresuid s c r e v).cred
    setresuid_fine r e v =
        with_uids_fine (bounds row) s c fine (setresid (extents_of s.uids) (has_setuid c) c.uid r e v)
        (uids_in.resid r e v)

    setreuid_fine : (r e : ℕ) → Fine (bounds row) (setreuid s c r e).cred
    setreuid_fine r e =
        with_uids_fine (bounds row) s c fine (setreid (extents_of s.uids) (has_setuid c) c.uid r e) (uids_in.reid r e)

    setuid_fine : (id : ℕ) → Fine (bounds row) (setuid s c id).cred
    setuid_fine id =
        with_uids_fine (bounds row) s c fine (setid (extents_of s.uids) (has_setuid c) c.uid id) (uids_in.id id)

  setfsuid_fine : IsTrue (permitted kind.SetFsUid) → (id : ℕ) → Fine (bounds row) (setfsuid s c id).cred
  setfsuid_fine allowed id =
      fs_fixed_up_fine (bounds row) s c.uid.fs (record c { uid = setfsid (extents_of s.uids) (has_setuid c) c.uid id })
      (with_uid_fine (bounds row) c fine (setfsid (extents_of s.uids) (has_setuid c) c.uid id)
      (setfsid_in (bounds row Uids) (bounds row EffectiveUids) (bounds row FsUids) (bounds row MappedUids)
      (bounds row PermittedCaps cap_setuid) (extents_of s.uids) maps.uids (has_setuid c)
      (cap_in cap_setuid) c.uid fine.held.uid
      (λ x set. closed rule.SetFsUid row standing FsUids x (allowed, members, set)) id))

  module _ (allowed : IsTrue (permitted kind.SetGid || permitted kind.SetReGid || permitted kind.SetResGid)) where
    gids_in : SetsIn (bounds row Gids) (bounds row EffectiveGids) (bounds row FsGids) (extents_of s.gids)
        (has_setgid c) c.gid
    gids_in =
        sets_in (bounds row Gids) (bounds row EffectiveGids) (bounds row FsGids) (bounds row MappedGids)
        (bounds row PermittedCaps cap_setgid) (extents_of s.gids) maps.gids (has_setgid c)
        (cap_in cap_setgid) c.gid fine.held.gid
        (λ x set. closed rule.SetGid row standing EffectiveGids x (allowed, members, set))
        (λ x held. closed rule.SetGid row standing Gids x (allowed, members, inl held))
        (λ x held. closed rule.SetGid row standing FsGids x (allowed, members, inl held))

  setfsgid_fine : IsTrue (permitted kind.SetFsGid) → (id : ℕ) → Fine (bounds row) (setfsgid s c id).cred
  setfsgid_fine allowed id =
      with_gid_fine (bounds row) c fine (setfsid (extents_of s.gids) (has_setgid c) c.gid id)
      (setfsid_in (bounds row Gids) (bounds row EffectiveGids) (bounds row FsGids) (bounds row MappedGids)
      (bounds row PermittedCaps cap_setgid) (extents_of s.gids) maps.gids (has_setgid c)
      (cap_in cap_setgid) c.gid fine.held.gid
      (λ x set. closed rule.SetFsGid row standing FsGids x (allowed, members, set)) id)

  -- setgroups(2): the word of the query holds as long as it is "deny"
  setgroups_fine : IsTrue (permitted kind.SetGroups) → ((space_of old (space_under row)).deny ≡ true → s.deny ≡ true)
      → (ids : List ℕ)
      → Fine (bounds row) (setgroups s c ids).cred
  setgroups_fine allowed word ids =
      choose (λ (a : Answer). Fine (bounds row) a.cred) (not (has_setgid c) || is_none s.gids || s.deny) (refused EPERM c)
      (if nat_lt most_groups (length ids) then refused EINVAL c else with_groups c (all_down (extents_of s.gids) ids))
      (λ _. fine)
      (λ may.
      choose (λ (a : Answer). Fine (bounds row) a.cred) (ltb most_groups (length ids)) (refused EINVAL c)
      (with_groups c (all_down (extents_of s.gids) ids)) (λ _. fine)
      (λ _. go (all_down (extents_of s.gids) ids) refl
      (not-false (has_setgid c) (or_false_left (not (has_setgid c)) (is_none s.gids) (or_false_left (not (has_setgid c) || is_none s.gids) s.deny may)))
      (or_false_right (not (has_setgid c) || is_none s.gids) s.deny may))) where
        or_false_left : (p q : Bool) → (p || q) ≡ false → p ≡ false
        or_false_left true q e = e
        or_false_left false q e = refl

        or_false_right : (p q : Bool) → (p || q) ≡ false → q ≡ false
        or_false_right true q e = absurd (false≢true (sym e))
        or_false_right false q e = e

        allow : s.deny ≡ false → (d : Bool) → (space_of old (space_under row)).deny ≡ d → IsTrue (not d)
        allow free true was = absurd (false≢true (sym free ∙ word was))
        allow free false was = refl

        go : (o : Option (List ℕ)) → all_down (extents_of s.gids) ids ≡ o → IsTrue (has_setgid c) → s.deny ≡ false → Fine (bounds row) (with_groups c o).cred
        go None down' has free = fine
        go (Some list) down' has free =
            let added : (x : ℕ) → IsTrue (list_any (λ group. eqb group x) (id_set list)) → bounds row Groups x =
            λ x held. closed rule.SetGroups row standing Groups x (
              allowed,
              members,
              allow free (space_of old (space_under row)).deny refl,
              (
                cap_in cap_setgid has,
                maps.gids x (all_outside (extents_of s.gids) ids list down' x (in_id_set list x held)),
              ),
            ) in search

  -- capset(2)
  capset_fine : IsTrue (permitted kind.CapSet) → (e p i : ℕ) → Fine (bounds row) (capset c e p i).cred
  capset_fine allowed e p i =
      choose (λ (a : Answer). Fine (bounds row) a.cred) (may_capset c e p i) (done (with_capset c e p i))
      (refused EPERM c) (λ may. changed may) (λ _. fine) where
        changed : IsTrue (may_capset c e p i) → Fine (bounds row) (with_capset c e p i)
        changed may = record {
          held =
              let fewer : (x : ℕ) → IsTrue (holds p x) → bounds row PermittedCaps x =
              λ x held. fine.held.permitted x (member_of_wider p c.permitted three.1 x held) in
              let others : (x : ℕ) → IsTrue (holds i x) → bounds row InheritableCaps x =
              λ x held.
              by x (or_cases (holds c.inheritable x) (holds c.bounding x)
              (sym (holds_union c.inheritable c.bounding x)
              ∙ member_of_wider i (union c.inheritable c.bounding) two.1 x held)) held in search;
          included = record {
            effective = four.1;
            ambient_permitted =
                within_transitive (meet (meet c.ambient p) i) (meet c.ambient p) p
                (meet_within_first (meet c.ambient p) i) (meet_within_second c.ambient p);
            ambient_inheritable = meet_within_second (meet c.ambient p) i;
          };
        } where
          four : IsTrue ((has_setpcap c || is_within i (union c.inheritable c.permitted))
              && is_within i (union c.inheritable c.bounding) && is_within p c.permitted)
              × IsTrue (is_within e p)
          four =
              and_parts ((has_setpcap c || is_within i (union c.inheritable c.permitted))
              && is_within i (union c.inheritable c.bounding) && is_within p c.permitted)
              (is_within e p) may

          three : IsTrue ((has_setpcap c || is_within i (union c.inheritable c.permitted))
              && is_within i (union c.inheritable c.bounding))
              × IsTrue (is_within p c.permitted)
          three =
              and_parts ((has_setpcap c || is_within i (union c.inheritable c.permitted))
              && is_within i (union c.inheritable c.bounding))
              (is_within p c.permitted) four.0

          two : IsTrue (has_setpcap c || is_within i (union c.inheritable c.permitted)) × IsTrue (is_within i (union c.inheritable c.bounding))
          two = and_parts (has_setpcap c || is_within i (union c.inheritable c.permitted)) (is_within i (union c.inheritable c.bounding)) three.0

          gains : (x : ℕ)
              → (bounds row PermittedCaps x × bounds row BoundingCaps x)
              ⊎ (bounds row PermittedCaps cap_setpcap × bounds row BoundingCaps x)
              → bounds row InheritableCaps x
          gains x gain = closed rule.CapSet row standing InheritableCaps x (allowed, members, gain)

          by_permitted : (x : ℕ) → IsTrue (holds c.bounding x)
              → (IsTrue (holds c.inheritable x)) ⊎ (IsTrue (holds c.permitted x)) → bounds row InheritableCaps x
          by_permitted x b (inl old_one) = fine.held.inheritable x old_one
          by_permitted x b (inr one) = gains x (inl (fine.held.permitted x one, fine.held.bounding x b))

          by_cap : (x : ℕ) → IsTrue (holds c.bounding x) → IsTrue (holds i x)
              → (IsTrue (has_setpcap c)) ⊎ (IsTrue (is_within i (union c.inheritable c.permitted)))
              → bounds row InheritableCaps x
          by_cap x b held (inl cap) = gains x (inr (cap_in cap_setpcap cap, fine.held.bounding x b))
          by_cap x b held (inr within) =
              by_permitted x b (or_cases (holds c.inheritable x) (holds c.permitted x)
              (sym (holds_union c.inheritable c.permitted x)
              ∙ member_of_wider i (union c.inheritable c.permitted) within x held))

          by : (x : ℕ) → (IsTrue (holds c.inheritable x)) ⊎ (IsTrue (holds c.bounding x)) → IsTrue (holds i x) → bounds row InheritableCaps x
          by x (inl old_one) held = fine.held.inheritable x old_one
          by x (inr b) held = by_cap x b held (or_cases (has_setpcap c) (is_within i (union c.inheritable c.permitted)) two.0)

  -- prctl(2), PR_CAPBSET_DROP: no rule is needed, the set shrinks
  bset_drop_fine : (cap : ℕ) → Fine (bounds row) (bset_drop c cap).cred
  bset_drop_fine cap =
      choose (λ (a : Answer). Fine (bounds row) a.cred) (not (has_setpcap c)) (refused EPERM c)
      (if nat_lt last_cap cap then refused EINVAL c else done (record c { bounding = without c.bounding cap })) (λ _. fine)
      (λ _.
      choose (λ (a : Answer). Fine (bounds row) a.cred) (ltb last_cap cap) (refused EINVAL c)
      (done (record c { bounding = without c.bounding cap })) (λ _. fine) (λ _. less)) where
        less : Fine (bounds row) (record c { bounding = without c.bounding cap })
        less =
            let fewer : (x : ℕ) → IsTrue (holds (without c.bounding cap) x) → bounds row BoundingCaps x =
            λ x held. fine.held.bounding x
            (member_of_wider (without c.bounding cap) c.bounding (minus_within c.bounding (single cap)) x held) in search

  -- PR_CAP_AMBIENT_RAISE, LOWER and CLEAR_ALL: the ambient set is within the permitted one, which has a part
  amb_raise_fine : (cap : ℕ) → Fine (bounds row) (amb_raise c cap).cred
  amb_raise_fine cap =
      choose (λ (a : Answer). Fine (bounds row) a.cred) (ltb last_cap cap) (refused EINVAL c)
      (if may_raise c cap then done (record c { ambient = with c.ambient cap }) else refused EPERM c) (λ _. fine)
      (λ _.
      choose (λ (a : Answer). Fine (bounds row) a.cred) (may_raise c cap)
      (done (record c { ambient = with c.ambient cap })) (refused EPERM c) (λ may. more may) (λ _. fine)) where
        single_within : (set : ℕ) → IsTrue (holds set cap) → IsTrue (is_within (single cap) set)
        single_within set has =
            within_from_members (single cap) set
            (λ x held. let same : x ≡ cap = eqb-true x cap (sym (holds_single cap x) ∙ held) in rw same has)

        more : IsTrue (may_raise c cap) → Fine (bounds row) (record c { ambient = with c.ambient cap })
        more may =
            let first = and_parts (holds c.permitted cap && holds c.inheritable cap) (not (has_flag c no_cap_ambient_raise)) may in
            let second = and_parts (holds c.permitted cap) (holds c.inheritable cap) first.0 in
            with_ambient_fine (bounds row) c fine (with c.ambient cap)
            (union_within c.ambient (single cap) c.permitted fine.included.ambient_permitted (single_within c.permitted second.0))
            (union_within c.ambient (single cap) c.inheritable fine.included.ambient_inheritable (single_within c.inheritable second.1))

  amb_lower_fine : (cap : ℕ) → Fine (bounds row) (amb_lower c cap).cred
  amb_lower_fine cap =
      choose (λ (a : Answer). Fine (bounds row) a.cred) (ltb last_cap cap) (refused EINVAL c) (done (record c { ambient = without c.ambient cap })) (λ _. fine)
      (λ _. with_ambient_fine (bounds row) c fine (without c.ambient cap)
      (within_transitive (without c.ambient cap) c.ambient c.permitted (minus_within c.ambient (single cap)) fine.included.ambient_permitted)
      (within_transitive (without c.ambient cap) c.ambient c.inheritable (minus_within c.ambient (single cap)) fine.included.ambient_inheritable))

  amb_clear_fine : Fine (bounds row) (amb_clear c).cred
  amb_clear_fine = with_ambient_fine (bounds row) c fine none (none_within c.permitted) (none_within c.inheritable)

  -- other securebits, of which only SECBIT_NOROOT and its lock count
  with_bits_fine : (bits : ℕ) → ((has_flag (record c { securebits = bits }) noroot ≡ false) → bounds row RootCounts 0)
      → ((has_flag (record c { securebits = bits }) (lock_of noroot) ≡ false) → bounds row LockClear 0) → Fine (bounds row) (record c { securebits = bits })
  with_bits_fine bits root lock = search

  -- PR_SET_SECUREBITS: a locked flag stays, and a lock is never cleared
  secure_bits_fine : IsTrue (permitted kind.SecureBits) → (bits : ℕ) → Fine (bounds row) (secure_bits c bits).cred
  secure_bits_fine allowed bits =
      choose (λ (a : Answer). Fine (bounds row) a.cred) (may_secure c bits) (done (record c { securebits = bits }))
      (refused EPERM c) (λ may. changed may) (λ _. fine) where
        changed : IsTrue (may_secure c bits) → Fine (bounds row) (record c { securebits = bits })
        changed may = with_bits_fine bits root_by lock_by where
          three : IsTrue (has_setpcap c && bit_and (bit_xor c.securebits bits) (locked_flags c.securebits) == 0
              && is_within (bit_and c.securebits locks) bits)
              × IsTrue (nat_lt bits 256)
          three =
              and_parts (has_setpcap c && bit_and (bit_xor c.securebits bits) (locked_flags c.securebits) == 0
              && is_within (bit_and c.securebits locks) bits)
              (nat_lt bits 256) may

          two : IsTrue (has_setpcap c && bit_and (bit_xor c.securebits bits) (locked_flags c.securebits) == 0)
              × IsTrue (is_within (bit_and c.securebits locks) bits)
          two =
              and_parts (has_setpcap c && bit_and (bit_xor c.securebits bits) (locked_flags c.securebits) == 0)
              (is_within (bit_and c.securebits locks) bits) three.0

          one : IsTrue (has_setpcap c) × IsTrue (bit_and (bit_xor c.securebits bits) (locked_flags c.securebits) == 0)
          one = and_parts (has_setpcap c) (bit_and (bit_xor c.securebits bits) (locked_flags c.securebits) == 0) two.0

          new_cred : Credential
          new_cred = record c { securebits = bits }

          lock_kept : holds c.securebits 1 ≡ true → holds bits 1 ≡ true
          lock_kept set =
              member_of_wider (bit_and c.securebits locks) bits two.1 1
              (holds_meet c.securebits locks 1 ∙ and_from (holds c.securebits 1) (holds locks 1) set refl)

          lock_by : has_flag (record c { securebits = bits }) (lock_of noroot) ≡ false → bounds row LockClear 0
          lock_by clear = by (cases_Bool (holds c.securebits 1)) where
            by : (holds c.securebits 1 ≡ true) ⊎ (holds c.securebits 1 ≡ false) → bounds row LockClear 0
            by (inl set) = absurd (false≢true (sym (sym (lock_is (record c { securebits = bits })) ∙ clear) ∙ lock_kept set))
            by (inr free) = fine.held.lock (lock_is c ∙ free)

          root_by : has_flag (record c { securebits = bits }) noroot ≡ false → bounds row RootCounts 0
          root_by clear = by (cases_Bool (holds c.securebits 0)) (cases_Bool (holds c.securebits 1)) where
            by : (holds c.securebits 0 ≡ true) ⊎ (holds c.securebits 0 ≡ false)
                → (holds c.securebits 1 ≡ true) ⊎ (holds c.securebits 1 ≡ false) → bounds row RootCounts 0
            by (inr free) other = fine.held.root (noroot_is c ∙ free)
            by (inl set) (inl locked) =
                absurd (false≢true (sym (sym (noroot_is (record c { securebits = bits })) ∙ clear) ∙ locked_stays c.securebits bits one.1 locked set))
            by (inl set) (inr open_) =
                closed rule.SecureBits row standing RootCounts 0
                (allowed, members, (refl, cap_in cap_setpcap one.0, fine.held.lock (lock_is c ∙ open_)))

  -- PR_SET_KEEPCAPS, and what execve does to SECBIT_KEEP_CAPS: the other flags stay
  other_flags : (bits : ℕ) → holds bits 0 ≡ holds c.securebits 0 → holds bits 1 ≡ holds c.securebits 1 → Fine (bounds row) (record c { securebits = bits })
  other_flags bits zeroth first =
      with_bits_fine bits
      (λ clear. fine.held.root (noroot_is c ∙ sym zeroth ∙ sym (noroot_is (record c { securebits = bits })) ∙ clear))
      (λ clear. fine.held.lock (lock_is c ∙ sym first ∙ sym (lock_is (record c { securebits = bits })) ∙ clear))

  or_no : (p : Bool) → (p || false) ≡ p
  or_no true = refl
  or_no false = refl

  and_yes : (p : Bool) → (p && true) ≡ p
  and_yes true = refl
  and_yes false = refl

  pub without_keep_caps_fine : Fine (bounds row) (without_keep_caps c)
  without_keep_caps_fine =
      other_flags (minus c.securebits keep_caps) (holds_minus c.securebits keep_caps 0 ∙ and_yes (holds c.securebits 0))
      (holds_minus c.securebits keep_caps 1 ∙ and_yes (holds c.securebits 1))

  with_keep_caps_fine : Fine (bounds row) (with_keep_caps c)
  with_keep_caps_fine =
      other_flags (union c.securebits keep_caps) (holds_union c.securebits keep_caps 0 ∙ or_no (holds c.securebits 0))
      (holds_union c.securebits keep_caps 1 ∙ or_no (holds c.securebits 1))

  set_keep_caps_fine : (argument : ℕ) → Fine (bounds row) (set_keep_caps c argument).cred
  set_keep_caps_fine argument =
      choose (λ (a : Answer). Fine (bounds row) a.cred) (ltb 1 argument) (refused EINVAL c)
      (if has_flag c (lock_of keep_caps) then refused EPERM c else if argument == 0 then done (without_keep_caps c) else done (with_keep_caps c)) (λ _. fine)
      (λ _. choose (λ (a : Answer). Fine (bounds row) a.cred) (has_flag c (lock_of keep_caps)) (refused EPERM c)
      (if argument == 0 then done (without_keep_caps c) else done (with_keep_caps c)) (λ _. fine)
      (λ _.
      choose (λ (a : Answer). Fine (bounds row) a.cred) (argument == 0) (done (without_keep_caps c))
      (done (with_keep_caps c)) (λ _. without_keep_caps_fine) (λ _. with_keep_caps_fine)))

  -- PR_SET_NO_NEW_PRIVS: the flag is never cleared
  set_no_new_privs_fine : (argument : ℕ) → Fine (bounds row) (set_no_new_privs c argument).cred
  set_no_new_privs_fine argument =
      choose (λ (a : Answer). Fine (bounds row) a.cred) (argument == 1) (done (record c { no_new_privs = true }))
      (refused EINVAL c) (λ _. set) (λ _. fine) where
        set : Fine (bounds row) (record c { no_new_privs = true })
        set =
            let never : true ≡ false → bounds row NewPrivs 0 = λ clear. absurd (false≢true (sym clear)) in search

  -- Each of these calls, and those that leave the credential. Of setgroups the row's word has to be that of the space.
  pub call_fine : ((space_of old (space_under row)).deny ≡ true → s.deny ≡ true) → (call : Call) → IsOwn call
      → IsTrue (permitted (kind_of call))
      → Fine (bounds row) (reply files new at c call).cred
  call_fine word (SetUid id) own allowed =
      setuid_fine (one_allowed (permitted kind.SetUid) (permitted kind.SetReUid) (permitted kind.SetResUid) allowed) id
  call_fine word (SetReUid r e) own allowed =
      setreuid_fine (two_allowed (permitted kind.SetUid) (permitted kind.SetReUid) (permitted kind.SetResUid) allowed)
      r e
  call_fine word (SetResUid r e v) own allowed =
      setresuid_fine (three_allowed (permitted kind.SetUid) (permitted kind.SetReUid)
      (permitted kind.SetResUid) allowed) r e v
  call_fine word (SetFsUid id) own allowed = setfsuid_fine allowed id
  call_fine word (SetGid id) own allowed =
      with_gids_fine (bounds row) c fine (setid (extents_of s.gids) (has_setgid c) c.gid id)
      ((gids_in (one_allowed (permitted kind.SetGid) (permitted kind.SetReGid)
      (permitted kind.SetResGid) allowed)).id id)
  call_fine word (SetReGid r e) own allowed =
      with_gids_fine (bounds row) c fine (setreid (extents_of s.gids) (has_setgid c) c.gid r e)
      ((gids_in (two_allowed (permitted kind.SetGid) (permitted kind.SetReGid)
      (permitted kind.SetResGid) allowed)).reid r e)
  call_fine word (SetResGid r e v) own allowed =
      with_gids_fine (bounds row) c fine (setresid (extents_of s.gids) (has_setgid c) c.gid r e v)
      ((gids_in (three_allowed (permitted kind.SetGid) (permitted kind.SetReGid)
      (permitted kind.SetResGid) allowed)).resid r e v)
  call_fine word (SetFsGid id) own allowed = setfsgid_fine allowed id
  call_fine word (SetGroups ids) own allowed = setgroups_fine allowed word ids
  call_fine word (CapSet e p i) own allowed = capset_fine allowed e p i
  call_fine word (BsetDrop cap) own allowed = bset_drop_fine cap
  call_fine word (AmbRaise cap) own allowed = amb_raise_fine cap
  call_fine word (AmbLower cap) own allowed = amb_lower_fine cap
  call_fine word AmbClear own allowed = amb_clear_fine
  call_fine word (SecureBits bits) own allowed = secure_bits_fine allowed bits
  call_fine word (KeepCaps argument) own allowed = set_keep_caps_fine argument
  call_fine word (NoNewPrivs argument) own allowed = set_no_new_privs_fine argument
  call_fine word (Install more) own allowed =
      choose (λ (a : Answer). Fine (bounds row) a.cred) (may_install c) (done c) (refused EACCES c) (λ _. fine) (λ _. fine)
  call_fine word Unshare other allowed = absurd other
  call_fine word (SetNs target) other allowed = absurd other
  call_fine word (Exec f) other allowed = absurd other
  call_fine word _ own allowed = fine

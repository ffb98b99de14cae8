-- Worked cases of the calls that set ids (setresuid(2), setreuid(2), setuid(2), setfsuid(2), setgroups(2),
-- capabilities(7), "Effect of user ID changes on capabilities").
use Rattle.std.proofs.Common.{◌≡◌, ℕ, true, false, Some, None, [], ◌∷◌}
use Rattle.cm_base.specs.CapSet.{none, full}
use Rattle.cm_base.specs.Limits.{minus_one}
use Rattle.cm_base.specs.declared.errno.Errno.TheVariants.{EPERM, EINVAL}
use Rattle.cm_base.specs.declared.res.FileRef.TheVariants.{Plain}
use Rattle.cm_base.specs.declared.res.Res.TheVariants.{Id, Child, Err}
use Rattle.model_cred.specs.Call.{SetUid, SetReUid, SetResUid, SetFsUid, SetGid, SetReGid, SetResGid, SetFsGid}
use Rattle.model_cred.specs.Call.{SetGroups, CapSet, KeepCaps, NoNewPrivs, Fork, Exec}
use Rattle.model_cred.specs.Credential.{Credential, FourIds, all_four}
use Rattle.model_cred.specs.Process.{State}
use Rattle.model_cred.specs.Right.{Cap}
use Rattle.model_cred.specs.Space.{Space, first_spaces}
use Rattle.model_run.specs.Holds.{process_holds}
use Rattle.model_run.specs.Step.{Wrong}
use Rattle.model_run.proofs.Worlds.{user, process, in_space, one, with_processes, space, ids, world, done, gives, replay, Leads, IsRefused}

-- real, effective, saved and fs id
abbrev four : ℕ → ℕ → ℕ → ℕ → FourIds
four r e s f = record { real = r; effective = e; saved = s; fs = f }

pub root_becomes_a_user : record {
  -- root that sets all three ids to another user loses its permitted and its effective set
  root_that_becomes_another_user_loses_all : Leads world (one (user 0)) (done 100 (SetResUid 1000 1000 1000) ∷ [])
      (one (record (user 0) { uid = all_four 1000; permitted = none; effective = none }));
  -- under KEEP_CAPS the permitted set stays, the effective and the ambient one are cleared
  keep_caps_keeps_the_permitted_set_alone : Leads world (one (record (user 0) { inheritable = 0x400; ambient = 0x400 }))
      (done 100 (KeepCaps 1) ∷ done 100 (SetResUid 1000 1000 1000) ∷ [])
      (one (record (user 0) { uid = all_four 1000; inheritable = 0x400; effective = none; securebits = 0x10 }));
  -- setreuid with a real id sets the saved id to the effective one; root stays root by it
  the_saved_id_follows_a_given_real_id : Leads world (one (record (user 0) { uid = four 0 0 7 0 }))
      (done 100 (SetReUid 1000 minus_one) ∷ []) (one (record (user 0) { uid = four 1000 0 0 0 }));
}
root_becomes_a_user = search

-- root that sets its effective id alone keeps the permitted set, and its saved root id lets capset raise it again
abbrev with_saved_root : Credential
with_saved_root = record (user 0) { uid = four 0 1000 0 1000; effective = none }

pub saved_root : record {
  a_saved_root_id_keeps_the_permitted_set : Leads world (one (user 0))
      (done 100 (SetResUid minus_one 1000 minus_one) ∷ []) (one with_saved_root);
  a_saved_root_id_brings_capabilities_back : Leads world (one with_saved_root) (done 100 (CapSet full full none) ∷ [])
      (one (record with_saved_root { effective = full }));
  with_an_empty_effective_set_nothing_is_held : process_holds (one with_saved_root) 100 (Cap 21 0) ≡ false;
  after_capset_it_is_held : process_holds (one (record with_saved_root { effective = full })) 100 (Cap 21 0) ≡ true;
}
saved_root = search

pub setuids : record {
  -- setuid without CAP_SETUID goes to the real or the saved id, and not to the effective one
  setuid_to_the_effective_id_is_refused : IsRefused world (one (record (user 33) { uid = four 1000 33 44 33 })) 100
      (SetUid 33) EPERM;
  setuid_without_the_capability_keeps_the_saved_id : Leads world
      (one (record (user 500) { uid = four 1000 500 500 500 })) (done 100 (SetUid 1000) ∷ [])
      (one (record (user 500) { uid = four 1000 1000 500 1000 }));
  setuid_by_root_sets_all_ids : Leads world (one (user 0)) (done 100 (SetUid 5) ∷ [])
      (one (record (user 0) { uid = all_four 5; permitted = none; effective = none }));
  -- setuid has no argument that leaves an id as it is
  setuid_of_minus_one_is_invalid : IsRefused world (one (user 0)) 100 (SetUid minus_one) EINVAL;
}
setuids = search

pub fs_ids : record {
  -- setfsuid answers the fs id from before, whether it changes or not
  setfsuid_to_a_stranger_changes_nothing : Leads world (one (user 1000)) (gives 100 (SetFsUid 5) (Id 1000) ∷ [])
      (one (user 1000));
  -- the fs capabilities leave the effective set with root's fs id, and come back with it
  fs_capabilities_go_with_the_fs_id : Leads world (one (user 0)) (gives 100 (SetFsUid 1000) (Id 0) ∷ [])
      (one (record (user 0) { uid = four 0 0 0 1000; effective = 0x1fef7fffde0 }));
  fs_capabilities_come_back : Leads world (one (user 0))
      (gives 100 (SetFsUid 1000) (Id 0) ∷ gives 100 (SetFsUid 0) (Id 1000) ∷ []) (one (user 0));
}
fs_ids = search

-- where the fs id has no mapping it is answered as 65534, and an id without a mapping changes nothing
abbrev unmapped : Space
unmapped = record (space 0 1000 []) { uids = None; gids = None }

abbrev in_unmapped : Credential → State
in_unmapped c = record { processes = in_space 1 100 c ∷ []; spaces = unmapped ∷ first_spaces }

pub unmapped_ids : record {
  an_unmapped_fs_id_is_answered_as_65534 : Leads world (in_unmapped (user 1000))
      (gives 100 (SetFsUid 1000) (Id 65534) ∷ []) (in_unmapped (user 1000));
  in_an_unwritten_map_no_id_can_be_given : IsRefused world
      (in_unmapped (record (user 1000) { effective = full; permitted = full })) 100 (SetResUid 1000 1000 1000) EINVAL;
  in_an_unwritten_map_leaving_all_ids_is_done : Leads world (in_unmapped (user 1000))
      (done 100 (SetResUid minus_one minus_one minus_one) ∷ []) (in_unmapped (user 1000));
}
unmapped_ids = search

pub saved_ids : record {
  -- an effective id that is given and is the old real id leaves the saved id
  setreuid_to_the_real_id_keeps_the_saved_id : Leads world (one (record (user 6) { uid = four 5 6 7 6 }))
      (done 100 (SetReUid minus_one 5) ∷ []) (one (record (user 6) { uid = four 5 5 7 5 }));
  -- one that differs from it takes the saved id along
  setreuid_to_the_saved_id_sets_it : Leads world (one (record (user 6) { uid = four 5 6 7 6 }))
      (done 100 (SetReUid minus_one 7) ∷ []) (one (record (user 6) { uid = four 5 7 7 7 }));
  -- the real id can't be set to the saved one by setreuid, though setresuid may
  setreuid_of_the_real_id_to_the_saved_one_is_refused : IsRefused world (one (record (user 2) { uid = four 1 2 3 2 }))
      100 (SetReUid 3 minus_one) EPERM;
  setresuid_of_the_real_id_to_the_saved_one_is_done : Leads world (one (record (user 2) { uid = four 1 2 3 2 }))
      (done 100 (SetResUid 3 minus_one minus_one) ∷ []) (one (record (user 2) { uid = four 3 2 3 2 }));
}
saved_ids = search

-- an id without a mapping is refused as invalid before the lack of privilege is
abbrev in_small : Credential → State
in_small c = record { processes = in_space 1 100 c ∷ []; spaces = space 0 1000 (ids 1 100000 10 ∷ []) ∷ first_spaces }

pub small_maps : record {
  past_the_end_of_a_map_an_id_is_invalid : IsRefused world (in_small (user 100000)) 100
      (SetResUid 11 minus_one minus_one) EINVAL;
  at_the_end_of_a_map_an_id_wants_privilege : IsRefused world (in_small (user 100000)) 100
      (SetResUid 10 minus_one minus_one) EPERM;
  -- in a space without an inside 0 no change of ids clears a set
  without_an_inside_0_no_set_changes : Leads world
      (in_small (record (user 100000) { permitted = full; effective = full })) (done 100 (SetResUid 2 2 2) ∷ [])
      (in_small (record (user 100000) { uid = all_four 100001; permitted = full; effective = full }));
}
small_maps = search

pub fixups : record {
  -- the last id is mapped in the initial space
  the_last_id_can_be_given : Leads world (one (user 0)) (done 100 (SetResUid 4294967294 4294967294 4294967294) ∷ [])
      (one (record (user 0) { uid = all_four 4294967294; permitted = none; effective = none }));
  -- NO_SETUID_FIXUP leaves the sets
  without_fixups_the_sets_stay : Leads world (one (record (user 0) { securebits = 0x04 }))
      (done 100 (SetResUid 1000 1000 1000) ∷ gives 100 (SetFsUid 1000) (Id 1000) ∷ [])
      (one (record (user 0) { uid = all_four 1000; securebits = 0x04 }));
  -- where the effective id isn't root's before, KEEP_CAPS keeps the effective set too
  keep_caps_keeps_the_effective_set_of_another_user : Leads world
      (one (record (user 1000) { uid = four 0 1000 0 1000; permitted = 0x20; effective = 0x20; securebits = 0x10 }))
      (done 100 (SetResUid 1000 1000 1000) ∷ [])
      (one (record (user 1000) { permitted = 0x20; effective = 0x20; securebits = 0x10 }));
  -- an effective id that becomes root's makes the permitted set effective
  becoming_root_makes_the_permitted_set_effective : Leads world
      (one (record (user 1000) { uid = four 1000 1000 0 1000; permitted = 0x20 }))
      (done 100 (SetResUid minus_one 0 minus_one) ∷ [])
      (one (record (user 1000) { uid = four 1000 0 0 0; permitted = 0x20; effective = 0x20 }));
}
fixups = search

pub runs_of_calls : record {
  -- the first two calls are steps, the third isn't
  the_third_call_is_refused : replay world (one (user 1000))
      (done 100 (SetResUid minus_one minus_one minus_one) ∷ gives 100 (SetFsUid 5) (Id 1000)
      ∷ done 100 (SetResUid 0 0 0) ∷ [])
      ≡ Wrong (Err EPERM);
  the_first_two_change_nothing : Leads world (one (user 1000))
      (done 100 (SetResUid minus_one minus_one minus_one) ∷ gives 100 (SetFsUid 5) (Id 1000) ∷ []) (one (user 1000));
}
runs_of_calls = search

pub group_ids : record {
  -- group ids have no fixups: root stays what it is
  group_ids_have_no_fixups : Leads world (one (user 0))
      (done 100 (SetResGid 1 1 1) ∷ done 100 (SetReGid 2 minus_one) ∷ gives 100 (SetFsGid 3) (Id 1) ∷ [])
      (one (record (user 0) { gid = four 2 1 1 3 }));
  setgid_by_root_sets_all_ids : Leads world (one (user 0)) (done 100 (SetGid 7) ∷ [])
      (one (record (user 0) { gid = all_four 7 }));
  -- groups become a set
  groups_become_a_set : Leads world (one (user 0)) (done 100 (SetGroups (34 ∷ 33 ∷ 34 ∷ [])) ∷ [])
      (one (record (user 0) { groups = 33 ∷ 34 ∷ [] }));
  groups_want_the_capability : IsRefused world (one (user 1000)) 100 (SetGroups []) EPERM;
  -- a group without a mapping is invalid, for one who may set groups
  an_unmapped_group_is_invalid : IsRefused world
      (in_small (record (user 100000) { permitted = full; effective = full })) 100 (SetGroups (1 ∷ 11 ∷ [])) EINVAL;
  -- where the map of groups isn't written, lack of privilege comes first
  without_a_group_map_groups_are_refused : IsRefused world
      (in_unmapped (record (user 1000) { permitted = full; effective = full })) 100 (SetGroups (1 ∷ [])) EPERM;
}
group_ids = search

-- A daemon that is started by root, forks, and gives up all but one capability in its child; the worker that it runs in
-- the end has none.
abbrev worker : Credential
worker = record (user 0) { uid = all_four 33; gid = all_four 33; groups = 33 ∷ []; permitted = none; effective = none; no_new_privs = true }

pub one_worker : record {
  a_worker_is_started_without_capabilities : Leads world (with_processes (process 200 (user 0) ∷ []))
      (done 200 (Exec Plain) ∷ gives 200 Fork (Child 201) ∷ done 201 (KeepCaps 1) ∷ done 201 (SetGroups (33 ∷ []))
      ∷ done 201 (SetResGid 33 33 33) ∷ done 201 (SetResUid 33 33 33) ∷ done 201 (CapSet 0x400 0x400 none)
      ∷ done 201 (NoNewPrivs 1) ∷ done 201 (Exec Plain) ∷ [])
      (with_processes (process 200 (user 0) ∷ record (process 201 worker) { forebear = Some 200 } ∷ []));
  before_capset_the_child_has_the_permitted_set : Leads world (with_processes (process 200 (user 0) ∷ []))
      (done 200 (Exec Plain) ∷ gives 200 Fork (Child 201) ∷ done 201 (KeepCaps 1) ∷ done 201 (SetGroups (33 ∷ []))
      ∷ done 201 (SetResGid 33 33 33) ∷ done 201 (SetResUid 33 33 33) ∷ [])
      (with_processes (process 200 (user 0) ∷ record (process 201 (record worker { permitted = full; securebits = 0x10; no_new_privs = false })) { forebear = Some 200 } ∷ []));
}
one_worker = search

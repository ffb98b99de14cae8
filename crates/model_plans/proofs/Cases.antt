-- Worked cases: what is found in small worlds, under the world's own filter.
use Rattle.std.proofs.Common.{◌≡◌, ℕ, true, List, [], ◌∷◌, Option, None, Some, refl, codes}
use Rattle.cm_base.specs.CapSet.{none, full}
use Rattle.cm_base.specs.declared.res.FileRef.TheVariants.{Row}
use Rattle.cm_filter.specs.Filters.{permits}
use Rattle.model_cred.specs.Call.{SetUid, SetReUid, SetResUid, SetResGid, SetReGid, SetGid, SetGroups, CapSet, SetNs, Exec}
use Rattle.model_cred.specs.Credential.{Credential, all_four}
use Rattle.model_cred.specs.Files.{FileRow}
use Rattle.model_cred.specs.Process.{State}
use Rattle.model_cred.specs.Right.{Right, Cap, Uid, Gid}
use Rattle.model_cred.specs.Space.{initial_space}
use Rattle.model_cred.specs.World.{World}
use Rattle.model_rules.specs.SetId.{minus_one}
use Rattle.model_run.proofs.Worlds.{user, in_space, process, with_processes, one, space, ids, file, world, world_of, world_with, done}
use Rattle.model_plans.specs.PlanRun.{Found, first_found}

-- what is found under the world's own filter
abbrev found : World → State → List ℕ → Right → Option Found
found w s members right = first_found (permits w.filter) w s members right

-- what is found by process 100, where it is alone
abbrev found_alone : World → Credential → Right → Option Found
found_alone w c right = found w (one c) (100 ∷ []) right

-- ---- root that made 1000 its effective id, and kept 0 as its real and saved one
abbrev stepped_down : Credential
stepped_down = record (user 0) { uid = record { real = 0; effective = 1000; saved = 0; fs = 1000 }; effective = none }

pub stepping_down : record {
  -- what is permitted can be raised
  a_saved_root_id_brings_capabilities_back : found_alone world stepped_down (Cap 21 0)
      ≡ Some (record { run = done 100 (CapSet full full none) ∷ []; holder = 100 });
  -- and then each user id can be taken
  raised_capabilities_bring_each_user_id : found_alone world stepped_down (Uid 7)
      ≡ Some
      (record { run = done 100 (CapSet full full none) ∷ done 100 (SetResUid minus_one 7 minus_one) ∷ []; holder = 100 });
  -- who gave up all three ids finds nothing
  who_kept_no_root_id_finds_nothing : found_alone world (user 1000) (Uid 7) ≡ None;
  without_files_no_capability_is_found : found_alone world (user 1000) (Cap 21 0) ≡ None;
}
unfolding first_found
stepping_down = search

-- ---- a set-user-ID-root program, run without a bounding set
abbrev su : FileRow
su = record file { path = codes "/bin/su"; mode = 0o4755 }

abbrev unbounded : Credential
unbounded = record (user 1000) { bounding = none }

pub set_user_id_program : record {
  a_set_user_id_program_brings_its_owner : found_alone (world_of su) unbounded (Uid 0)
      ≡ Some (record { run = done 100 (Exec (Row 0)) ∷ []; holder = 100 });
  it_brings_no_capability : found_alone (world_of su) unbounded (Cap 0 0) ≡ None;
  -- with a bounding set it does
  it_brings_what_is_bounding : found_alone (world_of su) (user 1000) (Cap 0 0)
      ≡ Some (record { run = done 100 (Exec (Row 0)) ∷ []; holder = 100 });
}
unfolding first_found
set_user_id_program = search

-- ---- a space whose owner is a member's saved id; unshare, clone_user and setns are excluded
abbrev owned : State
owned = record {
  processes = process 100 (record (user 1000) { uid = record (all_four 1000) { saved = 500 }; no_new_privs = true }) ∷ [];
  spaces = space 0 500 (ids 0 500 1 ∷ []) ∷ initial_space ∷ [];
}

-- a world with that filter
abbrev filtered : ℕ → World
filtered filter = record world { filter = filter }

pub owned_space : record {
  the_owner_of_a_space_has_capabilities_over_it : found (filtered 0x1c0000) owned (100 ∷ []) (Cap 5 1)
      ≡ Some (record { run = done 100 (SetResUid minus_one 500 minus_one) ∷ []; holder = 100 });
  -- the second and the third call do where those before them are excluded, and nothing does where all three are
  setreuid_does_where_setresuid_is_excluded : found (filtered 0x1c0004) owned (100 ∷ []) (Cap 5 1)
      ≡ Some (record { run = done 100 (SetReUid minus_one 500) ∷ []; holder = 100 });
  setuid_does_where_both_are_excluded : found (filtered 0x1c0006) owned (100 ∷ []) (Cap 5 1)
      ≡ Some (record { run = done 100 (SetUid 500) ∷ []; holder = 100 });
  nothing_does_where_all_three_are_excluded : found (filtered 0x1c0007) owned (100 ∷ []) (Cap 5 1) ≡ None;
}
unfolding first_found
owned_space = search

-- ---- the same where the process installed the filter
abbrev installed : ℕ → State
installed filter = record owned {
  processes = record (process 100 (record (user 1000)
      { uid = record (all_four 1000) { saved = 500 }; no_new_privs = true })) { filter = filter } ∷ [];
}

pub installed_filters : record {
  an_installed_filter_leaves_setreuid : found world (installed 0x1c0004) (100 ∷ []) (Cap 5 1)
      ≡ Some (record { run = done 100 (SetReUid minus_one 500) ∷ []; holder = 100 });
  an_installed_filter_leaves_none_of_the_three : found world (installed 0x1c0007) (100 ∷ []) (Cap 5 1) ≡ None;
  both_filters_count : found (filtered 0x3) (installed 0x1c0004) (100 ∷ []) (Cap 5 1) ≡ None;
}
unfolding first_found
installed_filters = search

-- ---- two members of which one may run a set-user-ID-root program and the other would gain by it
abbrev opt_x : FileRow
opt_x = record file { path = codes "/opt/x"; gid = 34; mode = 0o4010 }

abbrev plain_user : Credential
plain_user = record (user 1000) { gid = all_four 1000 }

abbrev parent_and_child : State
parent_and_child = with_processes
    (process 31 (record plain_user { groups = 34 ∷ []; no_new_privs = true })
    ∷ record (process 32 plain_user) { forebear = Some 31 } ∷ [])

pub one_may_run_it_and_the_other_would_gain : found (world_of opt_x) parent_and_child (31 ∷ 32 ∷ []) (Uid 0) ≡ None
unfolding first_found
one_may_run_it_and_the_other_would_gain = refl

-- ---- a worker that gave up all
abbrev worker : Credential
worker = record (user 33) { gid = all_four 33; groups = 33 ∷ []; no_new_privs = true }

pub a_worker_without_privilege_finds_nothing : found_alone world worker (Uid 0) ≡ None
unfolding first_found
a_worker_without_privilege_finds_nothing = refl

-- ---- who holds the right already needs no call, and the least such member is named
pub who_holds_it_needs_no_call : found_alone world (user 0) (Uid 0) ≡ Some (record { run = []; holder = 100 })
unfolding first_found
who_holds_it_needs_no_call = refl

abbrev three : State
three = with_processes (process 5 (user 1000) ∷ process 6 (user 0) ∷ process 7 (user 0) ∷ [])

abbrev one_is_filtered : State
one_is_filtered =
    with_processes (process 5 (user 1000) ∷ record (process 6 (user 0)) { filter = 0x7 } ∷ process 7 (user 0) ∷ [])

pub least_holders : record {
  the_least_holder_is_named : found world three (5 ∷ 6 ∷ 7 ∷ []) (Uid 0) ≡ Some (record { run = []; holder = 6 });
  -- who isn't a member doesn't count
  others_do_not_count : found world three (5 ∷ []) (Uid 0) ≡ None;
  -- The first member that finds something is taken. Its effective set is cleared by the new id (capabilities(7),
  -- "Effect of
  -- user ID changes on capabilities"), so that the plan ends with a raise.
  the_first_member_that_finds_something_is_taken : found world three (5 ∷ 6 ∷ 7 ∷ []) (Uid 9)
      ≡ Some
      (record { run = done 6 (SetResUid minus_one 9 minus_one) ∷ done 6 (CapSet full full none) ∷ []; holder = 6 });
  -- a member's own filter binds it alone
  another_member_does_where_one_may_not : found world one_is_filtered (5 ∷ 6 ∷ 7 ∷ []) (Uid 9)
      ≡ Some
      (record { run = done 7 (SetResUid minus_one 9 minus_one) ∷ done 7 (CapSet full full none) ∷ []; holder = 7 });
}
unfolding first_found
least_holders = search

-- ---- a program that another one makes runnable
abbrev gives_34 : FileRow
gives_34 = record file { path = codes "/bin/gives"; gid = 34; mode = 0o2755 }

abbrev wants_34 : FileRow
wants_34 = record file { path = codes "/bin/wants"; gid = 34; mode = 0o4710 }

pub two_programs_do_one_after_the_other : found_alone (world_with [] (wants_34 ∷ gives_34 ∷ [])) plain_user (Uid 0)
    ≡ Some (record { run = done 100 (Exec (Row 1)) ∷ done 100 (Exec (Row 0)) ∷ []; holder = 100 })
unfolding first_found
two_programs_do_one_after_the_other = refl

-- ---- groups
pub a_set_group_id_program_brings_its_group : found_alone (world_of gives_34) plain_user (Gid 34)
    ≡ Some (record { run = done 100 (Exec (Row 0)) ∷ []; holder = 100 })
unfolding first_found
a_set_group_id_program_brings_its_group = refl

-- CAP_SETGID (6) brings each group, as the effective one
abbrev with_setgid : Credential
with_setgid = record plain_user { permitted = 0x40; effective = 0x40 }

pub group_calls : record {
  setgid_brings_each_group : found_alone world with_setgid (Gid 34)
      ≡ Some (record { run = done 100 (SetResGid minus_one 34 minus_one) ∷ []; holder = 100 });
  -- by the second and the third call where those before them (setresgid 6, setregid 5) are excluded
  setregid_does_where_setresgid_is_excluded : found_alone (filtered 0x40) with_setgid (Gid 34)
      ≡ Some (record { run = done 100 (SetReGid minus_one 34) ∷ []; holder = 100 });
  setgid_does_where_both_are_excluded : found_alone (filtered 0x60) with_setgid (Gid 34)
      ≡ Some (record { run = done 100 (SetGid 34) ∷ []; holder = 100 });
  -- where setgid (4) is excluded too, as the only supplementary one
  setgroups_brings_each_group : found_alone (filtered 0x70) with_setgid (Gid 34)
      ≡ Some (record { run = done 100 (SetGroups (34 ∷ [])) ∷ []; holder = 100 });
  without_setgroups_no_group_is_found : found_alone (filtered 0x170) with_setgid (Gid 34) ≡ None;
}
unfolding first_found
group_calls = search

-- ---- a space that the member owns, in which it has each capability once it joined it; ids are those of that space
abbrev of_1000 : State
of_1000 = record {
  processes = process 100 plain_user ∷ [];
  spaces = space 0 1000 (ids 0 100000 65536 ∷ []) ∷ initial_space ∷ [];
}

pub joined_space : record {
  a_joined_space_brings_its_ids : found world of_1000 (100 ∷ []) (Uid 100005)
      ≡ Some (record { run = done 100 (SetNs 1) ∷ done 100 (SetResUid minus_one 5 minus_one) ∷ []; holder = 100 });
  an_id_that_it_does_not_map_is_not_found : found world of_1000 (100 ∷ []) (Uid 200000) ≡ None;
  -- in it inside 0 is another id, which is the root of its programs
  inside_0_is_the_root_of_a_space : found (record world { filter = 0x1c0000 })
      (record of_1000 {
        processes = in_space 1 100 (record (user 100005) { uid = record (all_four 100005) { saved = 100000 }; permitted = 0x20 }) ∷ [];
      }) (100 ∷ []) (Uid 100000)
      ≡ Some (record { run = done 100 (CapSet 0x20 0x20 none) ∷ done 100 (SetResUid minus_one 0 minus_one) ∷ []; holder = 100 });
}
unfolding first_found
joined_space = search

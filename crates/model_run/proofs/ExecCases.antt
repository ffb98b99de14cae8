-- Worked cases of execve(2): who may run a file, set-id bits, attributes, root, and the new sets (capabilities(7)).
use Rattle.std.proofs.Common.{◌≡◌, ℕ, true, false, Some, [], ◌∷◌, codes}
use Rattle.cm_base.specs.CapSet.{none, full}
use Rattle.cm_base.specs.declared.errno.Errno.TheVariants.{EPERM, EACCES}
use Rattle.cm_base.specs.declared.res.FileRef.TheVariants.{Row, Plain}
use Rattle.cm_base.specs.declared.res.Res.TheVariants.{Err}
use Rattle.model_cred.specs.Call.{Exec}
use Rattle.model_cred.specs.Credential.{Credential, FourIds, all_four}
use Rattle.model_cred.specs.Files.{FileCaps, FileRow, plain_mount}
use Rattle.model_cred.specs.Process.{State}
use Rattle.model_cred.specs.Right.{Uid, Cap}
use Rattle.model_cred.specs.World.{World}
use Rattle.model_run.specs.Holds.{process_holds}
use Rattle.model_run.specs.Step.{Wrong}
use Rattle.model_run.proofs.Worlds.{user, process, one, with_processes, file, world, world_of, world_with, done, replay, Leads, IsRefused}

-- a user may not run that row
abbrev IsRefusedToRun : World → ℕ → Type 0
IsRefusedToRun w row = replay w (one (user 1000)) (done 100 (Exec (Row row)) ∷ []) ≡ Wrong (Err EACCES)

-- user ids whose effective, saved and fs id are one
abbrev with_real : ℕ → ℕ → FourIds
with_real real id = record { real = real; effective = id; saved = id; fs = id }

-- a set-user-ID-root program
abbrev su : FileRow
su = record file { mode = 0o4755 }

-- one that has CAP_NET_RAW (13) in its attribute, with the effective bit
abbrev net_raw : FileCaps
net_raw = record { permitted = 0x2000; inheritable = none; effective = true; root = 0 }

abbrev ping : FileRow
ping = record su { caps = Some net_raw }

-- without a bounding set a set-user-ID-root program gives the user id, and no capability
abbrev unbounded : Credential
unbounded = record (user 1000) { bounding = none }

pub set_user_id_programs : record {
  a_set_user_id_program_gives_its_owner : Leads (world_of su) (one unbounded) (done 100 (Exec (Row 0)) ∷ [])
      (one (record unbounded { uid = with_real 1000 0 }));
  its_owner_is_then_held : process_holds (one (record unbounded { uid = with_real 1000 0 })) 100 (Uid 0) ≡ true;
  no_capability_is_then_held : process_holds (one (record unbounded { uid = with_real 1000 0 })) 100 (Cap 0 0) ≡ false;
  -- with a bounding set it gives all of that
  a_set_user_id_root_program_gives_the_bounding_set : Leads (world_of su)
      (one (record (user 1000) { bounding = 0x2020; inheritable = 0x400 })) (done 100 (Exec (Row 0)) ∷ [])
      (one (record (user 1000) { uid = with_real 1000 0; bounding = 0x2020; inheritable = 0x400; permitted = 0x2420; effective = 0x2420 }));
  -- one that has an attribute of its own gives that alone, to a user that isn't root
  a_set_user_id_root_program_with_an_attribute_gives_that_alone : Leads (world_of ping) (one (user 1000))
      (done 100 (Exec (Row 0)) ∷ [])
      (one (record (user 1000) { uid = with_real 1000 0; permitted = 0x2000; effective = 0x2000 }));
  -- to root it gives all
  to_root_it_gives_all : Leads (world_of ping) (one (record (user 0) { permitted = none; effective = none }))
      (done 100 (Exec (Row 0)) ∷ []) (one (user 0));
}
set_user_id_programs = search

pub attributes : record {
  -- a program that would lack what its attribute permits isn't run
  a_program_that_would_lack_a_capability_is_refused : IsRefused (world_of ping)
      (one (record (user 1000) { bounding = 0x1ffffffdfff })) 100 (Exec (Row 0)) EPERM;
  -- not even by root
  it_is_refused_to_root_too : IsRefused (world_of ping) (one (record (user 0) { bounding = 0x1ffffffdfff })) 100
      (Exec (Row 0)) EPERM;
  -- what it permits may come by the inheritable set instead, and without the effective bit nothing is refused
  what_it_permits_may_be_inherited : Leads
      (world_of (record file { caps = Some (record net_raw { inheritable = 0x2000 }) }))
      (one (record (user 1000) { bounding = none; inheritable = 0x2000 })) (done 100 (Exec (Row 0)) ∷ [])
      (one (record (user 1000) { bounding = none; inheritable = 0x2000; permitted = 0x2000; effective = 0x2000 }));
  without_the_effective_bit_nothing_is_refused : Leads
      (world_of (record file { caps = Some (record net_raw { effective = false; permitted = 0x6000 }) }))
      (one (record (user 1000) { bounding = 0x2000 })) (done 100 (Exec (Row 0)) ∷ [])
      (one (record (user 1000) { bounding = 0x2000; permitted = 0x2000 }));
}
attributes = search

-- under no_new_privs neither the bit nor the attribute counts, and ambient capabilities stay
abbrev ambient_user : Credential
ambient_user = record (user 1000) { permitted = 0x400; effective = 0x400; inheritable = 0x400; ambient = 0x400; no_new_privs = true }

pub plain_programs : record {
  under_no_new_privs_ambient_capabilities_stay : Leads (world_of ping) (one ambient_user) (done 100 (Exec (Row 0)) ∷ [])
      (one ambient_user);
  -- without it the file is privileged, and they go
  a_privileged_file_clears_the_ambient_set : Leads (world_of ping) (one (record ambient_user { no_new_privs = false }))
      (done 100 (Exec (Row 0)) ∷ [])
      (one (record ambient_user { no_new_privs = false; uid = with_real 1000 0; permitted = 0x2000; effective = 0x2000; ambient = none }));
  ambient_capabilities_pass_to_a_plain_program : Leads world (one (record ambient_user { no_new_privs = false }))
      (done 100 (Exec Plain) ∷ []) (one (record ambient_user { no_new_privs = false }));
  -- under no_new_privs root gains nothing by a program
  under_no_new_privs_root_gains_nothing : Leads world
      (one (record (user 0) { permitted = none; effective = none; no_new_privs = true })) (done 100 (Exec Plain) ∷ [])
      (one (record (user 0) { permitted = none; effective = none; no_new_privs = true }));
  -- a user loses all by a plain program
  a_user_loses_all_by_a_plain_program : Leads world
      (one (record (user 1000) { permitted = full; effective = full; inheritable = full; securebits = 0x15 }))
      (done 100 (Exec Plain) ∷ []) (one (record (user 1000) { inheritable = full; securebits = 0x05 }));
  -- a real root id alone fills the permitted set, and leaves the effective one empty
  a_real_root_id_fills_the_permitted_set_alone : Leads world (one (record (user 1000) { uid = with_real 0 1000 }))
      (done 100 (Exec Plain) ∷ []) (one (record (user 1000) { uid = with_real 0 1000; permitted = full }));
  -- a saved root id isn't kept by a program
  a_saved_root_id_goes_with_a_program : Leads world
      (one (record (user 1000) { uid = record (all_four 1000) { saved = 0 }; permitted = full; effective = full }))
      (done 100 (Exec Plain) ∷ []) (one (user 1000));
  -- under NOROOT root is as any user
  under_noroot_root_is_as_any_user : Leads world (one (record (user 0) { securebits = 0x01 }))
      (done 100 (Exec Plain) ∷ []) (one (record (user 0) { securebits = 0x01; permitted = none; effective = none }));
}
plain_programs = search

pub set_group_id_programs : record {
  -- a set-group-ID program gives its group, and is privileged
  a_set_group_id_program_gives_its_group : Leads (world_of (record file { gid = 34; mode = 0o2755 }))
      (one (record ambient_user { no_new_privs = false; gid = all_four 1000 })) (done 100 (Exec (Row 0)) ∷ [])
      (one (record (user 1000) { gid = with_real 1000 34; inheritable = 0x400 }));
  -- without the group execute bit the bit doesn't count
  without_the_group_execute_bit_it_does_not_count : Leads (world_of (record file { gid = 34; mode = 0o2705 }))
      (one (record ambient_user { no_new_privs = false; gid = all_four 1000 })) (done 100 (Exec (Row 0)) ∷ [])
      (one (record ambient_user { no_new_privs = false; gid = all_four 1000 }));
}
set_group_id_programs = search

-- a script's own bits don't count, and its interpreter runs
abbrev shell : FileRow
shell = record file { path = codes "/bin/sh" }

abbrev script : FileRow
script = record ping { path = codes "/opt/script"; interpreter = Some 0 }

pub scripts : record {
  a_script_runs_its_interpreter : Leads (world_with [] (shell ∷ script ∷ []))
      (one (record ambient_user { no_new_privs = false })) (done 100 (Exec (Row 1)) ∷ [])
      (one (record ambient_user { no_new_privs = false }));
  -- the bits of its interpreter count
  the_bits_of_the_interpreter_count : Leads (world_with [] (record shell { mode = 0o4755; uid = 7 } ∷ script ∷ []))
      (one (user 1000)) (done 100 (Exec (Row 1)) ∷ []) (one (record (user 1000) { uid = with_real 1000 7 }));
  -- both want permission
  a_script_wants_permission : IsRefusedToRun (world_with [] (shell ∷ record script { mode = 0o4644 } ∷ [])) 1;
  its_interpreter_wants_permission : IsRefusedToRun (world_with [] (record shell { mode = 0o700 } ∷ script ∷ [])) 1;
}
scripts = search

pub permission : record {
  -- the owner's bits count for the owner, though others have more
  the_owner_has_the_owner_bits : IsRefusedToRun (world_of (record file { uid = 1000; mode = 0o077 })) 0;
  -- the group's bits count for a member by a supplementary group, though others have more
  a_member_has_the_group_bits : replay (world_of (record file { gid = 34; mode = 0o705 }))
      (one (record (user 1000) { groups = 33 ∷ 34 ∷ [] })) (done 100 (Exec (Row 0)) ∷ [])
      ≡ Wrong (Err EACCES);
  a_noexec_mount_runs_nothing : IsRefusedToRun
      (world_with (record (plain_mount (codes "data")) { noexec = true } ∷ []) (record file { mount = 1 } ∷ [])) 0;
}
permission = search

-- CAP_DAC_OVERRIDE runs what has an execute bit
abbrev overriding : Credential
overriding = record (user 1000) { permitted = 0x2; effective = 0x2 }

pub more_permission : record {
  dac_override_runs_what_has_an_execute_bit : Leads (world_of (record file { mode = 0o010 })) (one overriding)
      (done 100 (Exec (Row 0)) ∷ []) (one (user 1000));
  dac_override_runs_nothing_without_one : replay (world_of (record file { mode = 0o666 })) (one overriding)
      (done 100 (Exec (Row 0)) ∷ [])
      ≡ Wrong (Err EACCES);
  -- on a nosuid mount neither bit nor attribute counts
  a_nosuid_mount_raises_nothing : Leads
      (world_with (record (plain_mount (codes "home")) { nosuid = true } ∷ []) (record ping { mount = 1 } ∷ []))
      (one (record ambient_user { no_new_privs = false })) (done 100 (Exec (Row 0)) ∷ [])
      (one (record ambient_user { no_new_privs = false }));
}
more_permission = search

-- A set-id program that one may run and whose bits don't count for it, as it has no_new_privs, and that another, for
-- whom they would count, may not run.
abbrev restricted : FileRow
restricted = record file { path = codes "/opt/x"; gid = 34; mode = 0o4010 }

abbrev first : Credential
first = record (user 1000) { gid = all_four 1000; groups = 34 ∷ []; no_new_privs = true }

abbrev second : Credential
second = record (user 1000) { gid = all_four 1000 }

abbrev both : State
both = with_processes (process 31 first ∷ record (process 32 second) { forebear = Some 31 } ∷ [])

pub two_processes : record {
  the_one_gains_nothing_by_it : Leads (world_of restricted) both (done 31 (Exec (Row 0)) ∷ []) both;
  the_other_may_not_run_it : replay (world_of restricted) both (done 32 (Exec (Row 0)) ∷ []) ≡ Wrong (Err EACCES);
}
two_processes = search

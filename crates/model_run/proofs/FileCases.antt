-- Worked cases of files in spaces: set-id bits, attributes of spaces, and idmapped mounts (user_namespaces(7),
-- capabilities(7), "Namespaced file capabilities", mount_setattr(2)).
use Rattle.std.proofs.Common.{◌≡◌, ℕ, true, false, Some, None, [], ◌∷◌, codes}
use Rattle.cm_base.specs.CapSet.{none, full}
use Rattle.cm_base.specs.declared.res.FileRef.TheVariants.{Row}
use Rattle.model_cred.specs.Call.{Exec}
use Rattle.model_cred.specs.Credential.{Credential, FourIds}
use Rattle.model_cred.specs.Files.{FileRow, Mount, plain_mount}
use Rattle.model_cred.specs.Process.{State}
use Rattle.model_cred.specs.Space.{Spaces, first_spaces}
use Rattle.model_cred.specs.World.{World}
use Rattle.model_rules.specs.FileView.{view, allows_set_id, takes_attribute}
use Rattle.model_run.proofs.Worlds.{user, in_space, one, space, ids, file, world_of, world_with, done, Leads}

-- user ids whose effective, saved and fs id are one
abbrev with_real : ℕ → ℕ → FourIds
with_real real id = record { real = real; effective = id; saved = id; fs = id }

-- `box` (1) in the initial space, `inner` (2) in it, `other` (3) beside it, and a process in each
abbrev spaces : Spaces
spaces = space 0 1000 (ids 0 300000 65536 ∷ []) ∷ space 1 100000 (ids 0 101000 1000 ∷ []) ∷ space 0 1000 (ids 0 100000 65536 ∷ []) ∷ first_spaces

abbrev three : Credential → Credential → Credential → State
three a b c = record { processes = in_space 1 11 a ∷ in_space 2 12 b ∷ in_space 3 13 c ∷ []; spaces = spaces }

-- a program with CAP_NET_RAW (13) in an attribute that has that root id
abbrev p3 : ℕ → FileRow
p3 root = record file { path = codes "/bin/p3"; caps = Some (record { permitted = 0x2000; inheritable = none; effective = true; root = root }) }

abbrev with_net_raw : ℕ → Credential
with_net_raw id = record (user id) { permitted = 0x2000; effective = 0x2000 }

pub attributes : record {
  -- the attribute of the box's root serves in the box and below it, and not beside it
  the_attribute_of_a_space_serves_there_and_below : Leads (world_of (p3 100000))
      (three (user 100005) (user 101005) (user 300005))
      (done 11 (Exec (Row 0)) ∷ done 12 (Exec (Row 0)) ∷ done 13 (Exec (Row 0)) ∷ [])
      (three (with_net_raw 100005) (with_net_raw 101005) (user 300005));
  -- the attribute of the initial root serves everywhere, that of the box's root not above the box
  the_attribute_of_the_initial_space_serves_everywhere : Leads (world_of (p3 0))
      (three (user 100005) (user 101005) (user 300005))
      (done 11 (Exec (Row 0)) ∷ done 12 (Exec (Row 0)) ∷ done 13 (Exec (Row 0)) ∷ [])
      (three (with_net_raw 100005) (with_net_raw 101005) (with_net_raw 300005));
  the_attribute_of_a_space_does_not_serve_above : Leads (world_of (p3 100000)) (one (user 1000))
      (done 100 (Exec (Row 0)) ∷ []) (one (user 1000));
}
attributes = search

-- an idmapped mount that shows user and group 0 as 100000, and nothing else
abbrev mapped : Mount
mapped = record (plain_mount (codes "m")) { map = Some (record { uids = ids 0 100000 1 ∷ []; gids = ids 0 100000 1 ∷ [] }) }

abbrev on_mapped : FileRow → World
on_mapped row = world_with (mapped ∷ []) (record row { mount = 1; mode = 0o4755 } ∷ [])

pub idmapped_mounts : record {
  a_set_user_id_program_gives_the_owner_that_the_mount_shows : Leads (on_mapped file) (one (user 1000))
      (done 100 (Exec (Row 0)) ∷ []) (one (record (user 1000) { uid = with_real 1000 100000 }));
  an_owner_that_the_mount_does_not_show_gives_nothing : Leads (on_mapped (record file { uid = 7 })) (one (user 1000))
      (done 100 (Exec (Row 0)) ∷ []) (one (user 1000));
  -- an attribute's root id is taken down through the mount too, so that 0 on this mount is root of the box
  on_an_idmapped_mount_the_root_id_is_the_mount_s : Leads (world_with (mapped ∷ []) (record (p3 0) { mount = 1 } ∷ []))
      (three (user 100005) (user 101005) (user 300005))
      (done 11 (Exec (Row 0)) ∷ done 12 (Exec (Row 0)) ∷ done 13 (Exec (Row 0)) ∷ [])
      (three (with_net_raw 100005) (with_net_raw 101005) (user 300005));
}
idmapped_mounts = search

-- a filesystem with a map of its own: an owner is taken up through it and then down through the mount's map
abbrev of_filesystem : Mount
of_filesystem = record mapped { fs = record { uids = ids 0 5000 10 ∷ []; gids = ids 0 0 10 ∷ [] } }

pub filesystem_maps : record {
  an_owner_is_taken_up_and_down :
      (view (record { mounts = of_filesystem ∷ []; rows = record file { uid = 5000 } ∷ [] }) 0).owner
      ≡ Some 100000;
  an_owner_outside_the_filesystem_s_map_is_not_shown :
      (view (record { mounts = of_filesystem ∷ []; rows = file ∷ [] }) 0).owner
      ≡ None;
  -- without a mount's map the attribute's root id is taken down through the filesystem's map alone
  a_root_id_is_an_id_of_the_filesystem :
      (view (record { mounts = record of_filesystem { map = None } ∷ []; rows = p3 3 ∷ [] }) 0).root
      ≡ Some 5003;
}
filesystem_maps = search

-- set-id bits count where owner and group are both mapped in the caller's space
abbrev su_of : ℕ → ℕ → FileRow
su_of uid gid = record file { uid = uid; gid = gid; mode = 0o4755 }

abbrev in_box : Credential → State
in_box c = record { processes = in_space 1 100 c ∷ []; spaces = space 0 1000 (ids 0 100000 65536 ∷ []) ∷ first_spaces }

pub set_id_bits : record {
  -- a user of the space gets all by a set-user-ID program of the space's root
  a_program_of_the_space_s_root_gives_all : Leads (world_of (su_of 100000 100000)) (in_box (user 100005))
      (done 100 (Exec (Row 0)) ∷ [])
      (in_box (record (user 100005) { uid = with_real 100005 100000; permitted = full; effective = full }));
  a_program_of_an_unmapped_owner_gives_nothing : Leads (world_of (su_of 0 100000)) (in_box (user 100005))
      (done 100 (Exec (Row 0)) ∷ []) (in_box (user 100005));
  a_program_of_an_unmapped_group_gives_nothing : Leads (world_of (su_of 100000 0)) (in_box (user 100005))
      (done 100 (Exec (Row 0)) ∷ []) (in_box (user 100005));
  -- a mount of the box gives nothing to a caller outside it
  a_mount_of_a_space_gives_nothing_above_it : Leads
      (world_with (record (plain_mount (codes "b")) { space = 1 } ∷ []) (record (su_of 100000 100000) { mount = 1 } ∷ []))
      (record { processes = in_space 0 100 (user 1000) ∷ []; spaces = spaces }) (done 100 (Exec (Row 0)) ∷ [])
      (record { processes = in_space 0 100 (user 1000) ∷ []; spaces = spaces });
}
set_id_bits = search

-- In a space without an inside 0 no id is root, and an attribute of its parent's root serves all the same.
abbrev no_zero : Credential → State
no_zero c = record { processes = in_space 1 100 c ∷ []; spaces = space 0 1000 (ids 1 100000 65535 ∷ []) ∷ first_spaces }

pub without_an_inside_0 : record {
  without_an_inside_0_no_program_gives_all : Leads (world_of (su_of 100000 100000)) (no_zero (user 100005))
      (done 100 (Exec (Row 0)) ∷ []) (no_zero (record (user 100005) { uid = with_real 100005 100000 }));
  an_attribute_of_the_parent_s_root_serves_there : Leads (world_of (p3 0)) (no_zero (user 100005))
      (done 100 (Exec (Row 0)) ∷ []) (no_zero (with_net_raw 100005));
  -- in a space whose map isn't written, no set-id bit counts
  in_an_unwritten_map_no_bit_counts : allows_set_id (record (space 0 1000 []) { uids = None } ∷ first_spaces) 1
      (view (world_of (su_of 0 0)).files 0)
      ≡ false;
  an_attribute_of_the_initial_root_serves_there_too : takes_attribute
      (record (space 0 1000 []) { uids = None } ∷ first_spaces) 1 (view (world_of (p3 0)).files 0)
      ≡ true;
}
without_an_inside_0 = search

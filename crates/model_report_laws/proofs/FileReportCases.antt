-- Worked cases, by computation, of whole reports on execve(2): set-id bits, attributes, mounts, scripts and spaces
-- (capabilities(7), "Transformation of capabilities during execve()").
use Rattle.std.proofs.Common.{ℕ, List, [], ◌∷◌, ◌++◌, refl}
use Rattle.std.specs.Prelude.{codes}
use Rattle.cm_base.specs.declared.status.Status.TheVariants as status
use Rattle.model_report_laws.proofs.CaseReports.{RowReplays, TextReplays, root_line, user_line, line_of, of_user, ids_of, sets_of}
use Rattle.model_report_laws.proofs.CaseReports.{user_ids, of_100, three_spaces}
use Rattle.model_report_laws.proofs.CaseReports.{all, none, kill, net_bind, net_raw, no_flags, keep_caps, all_sets, no_sets}
use Rattle.model_text.proofs.PrintCases.{print_on_literals}
use Rattle.model_text.proofs.WorldCases.{world_on_literals}

-- a file of that path, owner and group, with that mode, on the mount `root`
abbrev file : List ℕ → List ℕ → List ℕ → List ℕ → List ℕ
file path uid gid mode =
    codes "[[file]]\npath = \"" ++ path ++ codes "\"\nuid = " ++ uid ++ codes "\ngid = " ++ gid ++ codes "\nmode = \"" ++ mode ++ codes "\"\n"

-- one of root
abbrev of_root : List ℕ → List ℕ → List ℕ
of_root path mode = file path (codes "0") (codes "0") mode

-- process 100 with user 1000 as its real id, and root's as the others
abbrev with_root_ids : List ℕ → List ℕ
with_root_ids sets = of_100 (ids_of (codes "1000,0,0,0")) sets

-- ---- set-user-ID files
abbrev su : List ℕ
su = of_root (codes "/bin/su") (codes "4755")

pub set_id_files : record {
  su_makes_root_of_a_user : RowReplays (codes "uid = 1000\n" ++ su) (codes "100 execve /bin/su = 0\n") status.Accepted
      (user_line ∷ codes "1: 100 execve /bin/su = 0" ∷ with_root_ids all_sets ∷ codes "end 1" ∷ []);
  -- without a bounding set it gives the ids alone
  without_a_bounding_set_it_has_no_capability : RowReplays (codes "uid = 1000\nbounding = \"none\"\n" ++ su)
      (codes "100 execve /bin/su = 0\n") status.Accepted
      (of_100 user_ids (sets_of none none none none none no_flags) ∷ codes "1: 100 execve /bin/su = 0"
      ∷ with_root_ids (sets_of none none none none none no_flags) ∷ codes "end 1" ∷ []);
  it_is_never_refused : RowReplays (codes "uid = 1000\n" ++ su) (codes "100 execve /bin/su = EPERM\n") status.Impossible
      (user_line ∷ codes "impossible line 1: the rules give 0" ∷ []);
  -- without group execute permission the set-group-ID bit doesn't count
  set_group_id_files : RowReplays (codes "uid = 1000\n" ++ file (codes "/a") (codes "0") (codes "34") (codes "2745")
      ++ file (codes "/b") (codes "0") (codes "34") (codes "2755")) (codes "100 execve /a = 0\n100 execve /b = 0\n")
      status.Accepted
      (user_line ∷ codes "1: 100 execve /a = 0" ∷ user_line ∷ codes "2: 100 execve /b = 0"
      ∷ of_100 (codes " uid=1000,1000,1000,1000 gid=0,34,34,34 groups=-") no_sets ∷ codes "end 2" ∷ []);
}
unfolding print_on_literals world_on_literals
set_id_files = search

-- ---- attributes
-- set-user-ID-root, with CAP_NET_RAW permitted and the effective bit in an attribute of version 2
abbrev ping : List ℕ
ping = of_root (codes "/bin/ping") (codes "4755") ++ codes "caps = \"0100000200200000000000000000000000000000\"\n"

-- a bounding set without that capability
abbrev bounded : List ℕ
bounded = codes "uid = 1000\nbounding = \"000001ffffffdfff\"\n" ++ ping

abbrev bounded_line : List ℕ
bounded_line = of_100 user_ids (sets_of none none none (codes "000001ffffffdfff") none no_flags)

pub attributes : record {
  ping_gives_its_own_capability : RowReplays (codes "uid = 1000\n" ++ ping) (codes "100 execve /bin/ping = 0\n")
      status.Accepted
      (user_line ∷ codes "1: 100 execve /bin/ping = 0" ∷ with_root_ids (sets_of none net_raw net_raw all none no_flags)
      ∷ codes "end 1" ∷ []);
  a_bounding_set_without_it_refuses : RowReplays bounded (codes "100 execve /bin/ping = EPERM\n") status.Accepted
      (bounded_line ∷ codes "1: 100 execve /bin/ping = EPERM" ∷ bounded_line ∷ codes "end 1" ∷ []);
  nor_is_it_done : RowReplays bounded (codes "100 execve /bin/ping = 0\n") status.Impossible
      (bounded_line ∷ codes "impossible line 1: the rules give EPERM" ∷ []);
}
unfolding print_on_literals world_on_literals
attributes = search

-- ---- no_new_privs
abbrev ambient_line : List ℕ
ambient_line = of_100 user_ids (sets_of net_bind net_bind net_bind all net_bind (codes "sec=00 nnp=1"))

-- root without sets
abbrev empty_root : List ℕ
empty_root = codes "permitted = \"none\"\neffective = \"none\"\n"

pub privileges_barred : record {
  -- neither the bit nor the attribute counts
  under_no_new_privs_the_ambient_set_stays : RowReplays
      (codes "uid = 1000\nno_new_privs = true\npermitted = \"CAP_NET_BIND_SERVICE\"\neffective = \"CAP_NET_BIND_SERVICE\"\n"
      ++ codes "inheritable = \"CAP_NET_BIND_SERVICE\"\nambient = \"CAP_NET_BIND_SERVICE\"\n" ++ ping)
      (codes "100 execve /bin/ping = 0\n") status.Accepted
      (ambient_line ∷ codes "1: 100 execve /bin/ping = 0" ∷ ambient_line ∷ codes "end 1" ∷ []);
  under_no_new_privs_root_gains_nothing : RowReplays (empty_root ++ codes "no_new_privs = true\n")
      (codes "100 execve - = 0\n") status.Accepted
      (of_100 (ids_of (codes "0,0,0,0")) (sets_of none none none all none (codes "sec=00 nnp=1"))
      ∷ codes "1: 100 execve - = 0"
      ∷ of_100 (ids_of (codes "0,0,0,0")) (sets_of none none none all none (codes "sec=00 nnp=1"))
      ∷ codes "end 1" ∷ []);
  without_it_root_gains_all : RowReplays empty_root (codes "100 execve - = 0\n") status.Accepted
      (of_100 (ids_of (codes "0,0,0,0")) no_sets ∷ codes "1: 100 execve - = 0" ∷ root_line ∷ codes "end 1" ∷ []);
}
unfolding print_on_literals world_on_literals
privileges_barred = search

-- ---- the plain file
pub plain_files : record {
  -- a path that isn't declared is written as it; ambient capabilities pass on, and become effective
  a_path_that_is_not_declared : RowReplays
      (codes "uid = 1000\npermitted = \"CAP_KILL,CAP_NET_RAW\"\ninheritable = \"CAP_KILL\"\nambient = \"CAP_KILL\"\n")
      (codes "100 execve /bin/true = 0\n") status.Accepted
      (of_100 user_ids (sets_of kill (codes "0000000000002020") none all kill no_flags) ∷ codes "1: 100 execve - = 0"
      ∷ of_100 user_ids (sets_of kill kill kill all kill no_flags) ∷ codes "end 1" ∷ []);
  keep_caps_is_cleared : RowReplays [] (codes "100 keepcaps 1 = 0\n100 execve - = 0\n") status.Accepted
      (root_line ∷ codes "1: 100 keepcaps 1 = 0"
      ∷ of_100 (ids_of (codes "0,0,0,0")) (sets_of none all all all none keep_caps) ∷ codes "2: 100 execve - = 0"
      ∷ root_line ∷ codes "end 2" ∷ []);
  errors_from_outside : RowReplays (codes "uid = 1000\n")
      (codes "100 execve /bin/true = ENOENT\n100 execve - = E2BIG\n100 execve - = ENOSPC\n") status.Impossible
      (user_line ∷ codes "1: 100 execve - = ENOENT" ∷ user_line ∷ codes "2: 100 execve - = E2BIG" ∷ user_line
      ∷ codes "impossible line 3: the rules give 0" ∷ []);
}
unfolding print_on_literals world_on_literals
plain_files = search

-- ---- who may run a file
pub who_may_run : record {
  the_owner_alone_may_run_it : RowReplays
      (codes "uid = 1000\n" ++ file (codes "/a") (codes "1000") (codes "0") (codes "0100")
      ++ of_root (codes "/b") (codes "0700")) (codes "100 execve /a = 0\n100 execve /b = 0\n") status.Impossible
      (user_line ∷ codes "1: 100 execve /a = 0" ∷ user_line ∷ codes "impossible line 2: the rules give EACCES" ∷ []);
  -- CAP_DAC_OVERRIDE runs what somebody may run, and nothing else
  root_may_not_run_what_nobody_may : RowReplays
      (file (codes "/a") (codes "1000") (codes "1000") (codes "0010") ++ of_root (codes "/b") (codes "0644"))
      (codes "100 execve /a = 0\n100 execve /b = 0\n") status.Impossible
      (root_line ∷ codes "1: 100 execve /a = 0" ∷ root_line ∷ codes "impossible line 2: the rules give EACCES" ∷ []);
}
unfolding print_on_literals world_on_literals
who_may_run = search

-- ---- scripts
-- the bits of a script don't count, those of its interpreter do
pub an_interpreter_is_the_file : RowReplays
    (codes "uid = 1000\n" ++ of_root (codes "/bin/sh") (codes "0755") ++ of_root (codes "/bin/sush") (codes "4755")
    ++ of_root (codes "/a") (codes "4755") ++ codes "interpreter = \"/bin/sh\"\n"
    ++ of_root (codes "/b") (codes "0755") ++ codes "interpreter = \"/bin/sush\"\n")
    (codes "100 execve /a = 0\n100 execve /b = 0\n") status.Accepted
    (user_line ∷ codes "1: 100 execve /a = 0" ∷ user_line ∷ codes "2: 100 execve /b = 0" ∷ with_root_ids all_sets
    ∷ codes "end 2" ∷ [])
unfolding print_on_literals world_on_literals
an_interpreter_is_the_file = record { status = refl; text = refl }

-- ---- mounts
pub mounts : record {
  a_mount_without_set_id_bits : RowReplays
      (codes "uid = 1000\n[[mount]]\nname = \"m\"\nnosuid = true\n" ++ su ++ codes "mount = \"m\"\n")
      (codes "100 execve /bin/su = 0\n") status.Accepted
      (user_line ∷ codes "1: 100 execve /bin/su = 0" ∷ user_line ∷ codes "end 1" ∷ []);
  a_mount_without_programs : RowReplays
      (codes "[[mount]]\nname = \"m\"\nnoexec = true\n" ++ of_root (codes "/m/a") (codes "0755")
      ++ codes "mount = \"m\"\n") (codes "100 execve /m/a = 0\n") status.Impossible
      (root_line ∷ codes "impossible line 1: the rules give EACCES" ∷ []);
  -- an idmapped mount shows user and group 0 as 100000, and no other owner
  an_idmapped_mount_shows_another_owner : RowReplays
      (codes "uid = 1000\n[[mount]]\nname = \"m\"\nuid_map = [[0, 100000, 1]]\ngid_map = [[0, 100000, 1]]\n"
      ++ of_root (codes "/m/a") (codes "4755") ++ codes "mount = \"m\"\n"
      ++ file (codes "/m/b") (codes "7") (codes "0") (codes "4755") ++ codes "mount = \"m\"\n")
      (codes "100 execve /m/b = 0\n100 execve /m/a = 0\n") status.Accepted
      (user_line ∷ codes "1: 100 execve /m/b = 0" ∷ user_line ∷ codes "2: 100 execve /m/a = 0"
      ∷ of_100 (ids_of (codes "1000,100000,100000,100000")) no_sets ∷ codes "end 2" ∷ []);
}
unfolding print_on_literals world_on_literals
mounts = search

-- ---- spaces
-- a program with an attribute of these bytes, and a process in each of three spaces
abbrev with_attribute : List ℕ → List ℕ
with_attribute caps =
    three_spaces ++ of_root (codes "/bin/p3") (codes "0755") ++ codes "caps = \"" ++ caps ++ codes "\"\n"
    ++ codes "[[process]]\npid = 11\nspace = \"box\"\nuid = 100005\n[[process]]\npid = 12\nspace = \"inner\"\nuid = 101005\n"
    ++ codes "[[process]]\npid = 13\nspace = \"other\"\nuid = 300005\n"

-- the three, with these sets each
abbrev in_box : List ℕ → List ℕ
in_box sets = of_user (codes "11") (codes "box") (codes "100005") sets

abbrev in_inner : List ℕ → List ℕ
in_inner sets = of_user (codes "12") (codes "inner") (codes "101005") sets

abbrev in_other : List ℕ → List ℕ
in_other sets = of_user (codes "13") (codes "other") (codes "300005") sets

abbrev has_net_raw : List ℕ
has_net_raw = sets_of none net_raw net_raw all none no_flags

abbrev each_runs_it : List ℕ
each_runs_it = codes "11 execve /bin/p3 = 0\n12 execve /bin/p3 = 0\n13 execve /bin/p3 = 0\n"

pub spaces : record {
  -- CAP_NET_RAW with the effective bit. 100000 (0x186a0) is root of the box: there and below it the attribute counts
  attribute_of_the_root_of_a_space : TextReplays
      (with_attribute (codes "0100000300200000000000000000000000000000a0860100")) each_runs_it status.Accepted
      (in_box no_sets ∷ in_inner no_sets ∷ in_other no_sets ∷ codes "1: 11 execve /bin/p3 = 0" ∷ in_box has_net_raw
      ∷ codes "2: 12 execve /bin/p3 = 0" ∷ in_inner has_net_raw ∷ codes "3: 13 execve /bin/p3 = 0" ∷ in_other no_sets
      ∷ codes "end 3" ∷ []);
  -- 0 is root of the initial space, which is above all three
  attribute_of_the_root_of_all : TextReplays (with_attribute (codes "010000030020000000000000000000000000000000000000"))
      each_runs_it status.Accepted
      (in_box no_sets ∷ in_inner no_sets ∷ in_other no_sets ∷ codes "1: 11 execve /bin/p3 = 0" ∷ in_box has_net_raw
      ∷ codes "2: 12 execve /bin/p3 = 0" ∷ in_inner has_net_raw ∷ codes "3: 13 execve /bin/p3 = 0"
      ∷ in_other has_net_raw ∷ codes "end 3" ∷ []);
  -- 19 bytes are no attribute
  attribute_of_another_size : TextReplays (with_attribute (codes "01000002002000000000000000000000000000")) each_runs_it
      status.BadWorld (codes "bad world file 1: BadCaps" ∷ []);
  -- the bits of a file count in a space that has its owner and group mapped; its root has all there
  set_user_id_files_in_a_space : RowReplays
      (codes "uid = 100005\nspace = \"pod\"\n[[space]]\nname = \"pod\"\nparent = \"init\"\nowner = 1000\nuid_map = [[0, 100000, 10]]\n"
      ++ codes "gid_map = [[0, 100000, 10]]\n" ++ of_root (codes "/a") (codes "4755")
      ++ file (codes "/b") (codes "100000") (codes "100000") (codes "4755"))
      (codes "100 execve /a = 0\n100 execve /b = 0\n") status.Accepted
      (of_user (codes "100") (codes "pod") (codes "100005") no_sets ∷ codes "1: 100 execve /a = 0"
      ∷ of_user (codes "100") (codes "pod") (codes "100005") no_sets ∷ codes "2: 100 execve /b = 0"
      ∷ line_of (codes "100") (codes "pod") (ids_of (codes "100005,100000,100000,100000")) all_sets
      ∷ codes "end 2" ∷ []);
}
unfolding print_on_literals world_on_literals
spaces = search

-- Worked cases, by computation, of the rows that declare a process: each key, its default, and its faults.
use Rattle.std.proofs.Common.{◌≡◌, ℕ, true, false, List, [], ◌∷◌, ◌++◌, map, None, refl}
use Rattle.std.specs.Prelude.{codes}
use Rattle.cm_filter.specs.Filters.{no_filter}
use Rattle.model_cred.specs.Credential.{Credential, all_four}
use Rattle.model_cred.specs.Space.{first_spaces}
use Rattle.cm_base.specs.declared.faults.Table.TheVariants as table
use Rattle.cm_base.specs.declared.faults.WorldFault.{WorldFault}
use Rattle.cm_base.specs.declared.faults.WorldFault.TheVariants as fault
use Rattle.model_text.proofs.SpaceCases.{of_space, plain}
use Rattle.model_text.proofs.WorldCases.{world_on_literals, world_with}
use Rattle.model_text.specs.WorldText.{Reads, Bad, world_text}

-- the world of process 100, whose row goes on with this text
abbrev pub of_row : List ℕ → List ℕ
of_row rest = codes "log = \"script\"\n[[process]]\npid = 100\n" ++ rest

-- a user, all of whose user ids are 1000, and whose group ids are 0
abbrev pub user : Credential
user = record {
  uid = all_four 1000;
  gid = all_four 0;
  groups = [];
  inheritable = 0;
  permitted = 0;
  effective = 0;
  bounding = 0x1ffffffffff;
  ambient = 0;
  securebits = 0;
  no_new_privs = false;
}

-- root, all of whose ids are 0
abbrev pub root : Credential
root = record user { uid = all_four 0; permitted = 0x1ffffffffff; effective = 0x1ffffffffff }

-- the row declares the process with this credential
abbrev pub Declares : List ℕ → Credential → Type 0
Declares rest c = world_text (of_row rest) ≡ Reads (world_with (record { pid = 100; forebear = None; space = 0; cred = c; filter = no_filter } ∷ []))

-- the row has this fault with each of these keys
abbrev pub AreBad : WorldFault → List (List ℕ) → Type 0
AreBad why rows = map (λ rest. world_text (of_row rest)) rows ≡ map (λ _. Bad table.Process 1 why) rows

-- the second row has this fault with each of these texts after the first
abbrev pub SecondBad : WorldFault → List (List ℕ) → Type 0
SecondBad why rows = map (λ rest. world_text (of_row rest)) rows ≡ map (λ _. Bad table.Process 2 why) rows

-- ---- all by default
pub all_by_default : record {
  nothing_is_declared : Declares [] root;
  a_user_is_declared : Declares (codes "uid = 1000\n") user;
  -- the effective id decides what is held by default
  effective_root_holds_all : Declares (codes "uid = [1000, 0, 1001, 1002]\n")
      (record root { uid = record { real = 1000; effective = 0; saved = 1001; fs = 1002 } });
  real_root_holds_none : Declares (codes "uid = [0, 1000, 0, 0]\n")
      (record user { uid = record { real = 0; effective = 1000; saved = 0; fs = 0 } });
  -- the same, written out
  defaults_written_out : Declares
      (codes "uid = 0\ngid = 0\ngroups = []\npermitted = \"all\"\neffective = \"all\"\ninheritable = \"none\"\n"
      ++ codes "ambient = \"none\"\nbounding = \"all\"\nsecurebits = 0\nno_new_privs = false\n") root;
}
unfolding world_on_literals
all_by_default = search

-- ---- group ids
pub group_ids : record {
  one_group_id : Declares (codes "uid = 1000\ngid = 34\n") (record user { gid = all_four 34 });
  four_group_ids : Declares (codes "gid = [1, 2, 3, 4]\n")
      (record root { gid = record { real = 1; effective = 2; saved = 3; fs = 4 } });
  largest_group_id : Declares (codes "gid = 4294967294\n") (record root { gid = all_four 4294967294 });
  group_ids_out_of_range : AreBad fault.BadNumber
      (codes "gid = 4294967295\n" ∷ codes "gid = -1\n" ∷ codes "gid = [0, 0, 0, 4294967295]\n"
      ∷ codes "gid = [-1, 0, 0, 0]\n" ∷ []);
  group_ids_of_another_type : AreBad fault.WrongType
      (codes "gid = \"0\"\n" ∷ codes "gid = 0.0\n" ∷ codes "gid = true\n" ∷ codes "gid = {}\n" ∷ codes "gid = []\n"
      ∷ codes "gid = [0, 0, 0]\n" ∷ codes "gid = [0, 0, 0, 0, 0]\n" ∷ codes "gid = [0, 0, 0, \"0\"]\n"
      ∷ codes "gid = [[0, 0, 0, 0]]\n" ∷ []);
}
unfolding world_on_literals
group_ids = search

-- ---- groups
pub group_lists : record {
  groups_ascend : Declares (codes "groups = [1000, 34, 10]\n") (record root { groups = 10 ∷ 34 ∷ 1000 ∷ [] });
  a_group_that_stands_twice_counts_once : Declares (codes "groups = [34, 10, 34, 10, 34]\n")
      (record root { groups = 10 ∷ 34 ∷ [] });
  no_groups : Declares (codes "groups = []\n") root;
  lowest_and_largest_group : Declares (codes "groups = [4294967294, 0]\n")
      (record root { groups = 0 ∷ 4294967294 ∷ [] });
  groups_out_of_range : AreBad fault.BadNumber (codes "groups = [34, 4294967295]\n" ∷ codes "groups = [-1]\n" ∷ []);
  groups_of_another_type : AreBad fault.WrongType
      (codes "groups = 34\n" ∷ codes "groups = \"34\"\n" ∷ codes "groups = [\"34\"]\n" ∷ codes "groups = [[34]]\n"
      ∷ codes "groups = {}\n" ∷ codes "groups = [-1, \"34\"]\n" ∷ []);
}
unfolding world_on_literals
group_lists = search

-- ---- the permitted and the effective set
pub permitted_and_effective : record {
  -- CAP_KILL is 5, CAP_NET_BIND_SERVICE 10
  each_has_its_default_for_itself : Declares (codes "uid = 1000\npermitted = \"CAP_KILL\"\n")
      (record user { permitted = 32 });
  both_are_declared : Declares
      (codes "uid = 1000\npermitted = \"CAP_KILL,CAP_NET_BIND_SERVICE\"\neffective = \"0000000000000400\"\n")
      (record user { permitted = 1056; effective = 1024 });
  root_with_one_effective : Declares (codes "effective = \"CAP_KILL\"\n") (record root { effective = 32 });
  root_with_none : Declares (codes "permitted = \"none\"\neffective = \"none\"\n")
      (record root { permitted = 0; effective = 0 });
  effective_beyond_permitted : AreBad fault.NotIncluded
      (codes "uid = 1000\neffective = \"CAP_KILL\"\n" ∷ codes "permitted = \"CAP_KILL\"\n"
      ∷ codes "permitted = \"none\"\n" ∷ codes "uid = 1000\npermitted = \"CAP_KILL\"\neffective = \"CAP_CHOWN\"\n"
      ∷ codes "uid = 1000\npermitted = \"CAP_KILL\"\neffective = \"CAP_KILL,CAP_CHOWN\"\n" ∷ []);
}
unfolding world_on_literals
permitted_and_effective = search

-- ---- the inheritable, the ambient and the bounding set
pub other_sets : record {
  inheritable_alone : Declares (codes "uid = 1000\ninheritable = \"CAP_KILL\"\n") (record user { inheritable = 32 });
  inheritable_beyond_the_bounding_set : Declares (codes "uid = 1000\ninheritable = \"all\"\nbounding = \"none\"\n")
      (record user { inheritable = 0x1ffffffffff; bounding = 0 });
  ambient_within_both : Declares
      (codes "uid = 1000\npermitted = \"CAP_KILL\"\ninheritable = \"CAP_KILL\"\nambient = \"CAP_KILL\"\n")
      (record user { permitted = 32; inheritable = 32; ambient = 32 });
  bounding_set_of_one : Declares (codes "bounding = \"CAP_KILL\"\n") (record root { bounding = 32 });
  ambient_beyond_the_others : AreBad fault.NotIncluded
      (codes "ambient = \"CAP_KILL\"\n" ∷ codes "uid = 1000\ninheritable = \"CAP_KILL\"\nambient = \"CAP_KILL\"\n"
      ∷ codes "uid = 1000\npermitted = \"CAP_KILL\"\nambient = \"CAP_KILL\"\n"
      ∷ codes "inheritable = \"CAP_KILL\"\nambient = \"CAP_KILL,CAP_CHOWN\"\n" ∷ []);
  texts_that_are_no_sets : AreBad fault.BadCaps
      (codes "permitted = \"CAP_FOO\"\n" ∷ codes "effective = \"\"\n" ∷ codes "inheritable = \"CAP_KILL,\"\n"
      ∷ codes "ambient = \"cap_kill\"\n" ∷ codes "bounding = \"000001fffffffff\"\n" ∷ []);
  sets_of_another_type : AreBad fault.WrongType
      (codes "bounding = 0\n" ∷ codes "permitted = []\n" ∷ codes "effective = [\"CAP_KILL\"]\n"
      ∷ codes "inheritable = true\n" ∷ codes "ambient = {}\n" ∷ []);
}
unfolding world_on_literals
other_sets = search

-- ---- flags
pub flags : record {
  largest_securebits : Declares (codes "securebits = 255\n") (record root { securebits = 255 });
  securebits_out_of_range : AreBad fault.BadNumber (codes "securebits = 256\n" ∷ codes "securebits = -1\n" ∷ []);
  securebits_of_another_type : AreBad fault.WrongType
      (codes "securebits = \"16\"\n" ∷ codes "securebits = [16]\n" ∷ codes "securebits = true\n"
      ∷ codes "securebits = 16.0\n" ∷ []);
  no_new_privs_is_set : Declares (codes "no_new_privs = true\n") (record root { no_new_privs = true });
  no_new_privs_of_another_type : AreBad fault.WrongType
      (codes "no_new_privs = 1\n" ∷ codes "no_new_privs = 0\n" ∷ codes "no_new_privs = \"true\"\n"
      ∷ codes "no_new_privs = [true]\n" ∷ []);
}
unfolding world_on_literals
flags = search

-- ---- other keys
pub other_keys : record {
  unknown_keys : AreBad fault.UnknownKey
      (codes "cap = \"all\"\n" ∷ codes "Gid = 0\n" ∷ codes "group = 0\n" ∷ codes "nnp = true\n" ∷ codes "\"gid \" = 0\n"
      ∷ codes "ppid = 0\n" ∷ codes "gid = \"0\"\nother = 0\n" ∷ []);
  -- a key that stands twice, or in two ways, is no TOML
  keys_that_stand_twice : map (λ rest. world_text (of_row rest))
      (codes "gid = 0\ngid = 0\n" ∷ codes "gid = 0\ngid.real = 0\n" ∷ [])
      ≡ Bad table.Whole 0 fault.Toml ∷ Bad table.Whole 0 fault.Toml ∷ [];
  a_table_of_group_ids : AreBad fault.WrongType (codes "gid.real = 0\n" ∷ []);
}
unfolding world_on_literals
other_keys = search

-- ---- pids, parents and spaces
pub pids_and_spaces : record {
  pids_out_of_range : map world_text
      (codes "log = \"script\"\n[[process]]\npid = 0\n" ∷ codes "log = \"script\"\n[[process]]\npid = 4194305\n"
      ∷ codes "log = \"script\"\n[[process]]\npid = -1\n" ∷ [])
      ≡ Bad table.Process 1 fault.BadNumber ∷ Bad table.Process 1 fault.BadNumber
      ∷ Bad table.Process 1 fault.BadNumber ∷ [];
  no_pid : map world_text
      (codes "log = \"script\"\n[[process]]\nuid = \"\"\n" ∷ codes "log = \"script\"\nprocess = [{}]\n" ∷ [])
      ≡ Bad table.Process 1 fault.MissingKey ∷ Bad table.Process 1 fault.MissingKey ∷ [];
  rows_that_are_no_tables : world_text (codes "log = \"script\"\nprocess = [{pid = 1}, 5, {}]\n")
      ≡ Bad table.Process 2 fault.WrongType;
  a_process_in_a_space : world_text (of_space (codes "[[process]]\npid = 100\nspace = \"a\"\n[[process]]\npid = 99\nspace = \"init\"\n"))
      ≡ Reads (record (world_with []) {
        start = record {
          processes = record { pid = 99; forebear = None; space = 0; cred = root; filter = no_filter }
              ∷ record { pid = 100; forebear = None; space = 1; cred = root; filter = no_filter } ∷ [];
          spaces = plain ∷ first_spaces;
        };
        names = codes "a" ∷ [];
      });
  no_such_spaces : AreBad fault.NoSuchSpace
      (codes "space = \"a\"\nbounding = \"x\"\n" ∷ codes "space = \"#0\"\n" ∷ codes "space = \"\"\n" ∷ []);
}
unfolding world_on_literals
pids_and_spaces = search

-- ---- two faults in one row: the least is told
pub least_faults : map (λ rest. world_text (of_row rest))
    (codes "gid = \"0\"\nsecuritybits = 0\n" ∷ codes "gid = \"0\"\nuid = -1\n" ∷ codes "groups = [-1]\nparent = 7\n"
    ∷ codes "parent = 7\nspace = \"a\"\n" ∷ codes "space = \"a\"\nambient = \"x\"\n" ∷ codes "ambient = \"x\"\npermitted = \"none\"\n" ∷ [])
    ≡ map (λ why. Bad table.Process 1 why)
    (fault.UnknownKey ∷ fault.WrongType ∷ fault.BadNumber ∷ fault.NoSuchParent ∷ fault.NoSuchSpace ∷ fault.BadCaps ∷ [])
unfolding world_on_literals
least_faults = refl

-- Worked cases, by computation, of the mounts that a world's text declares: keys, defaults, each fault, their order.
use Rattle.std.proofs.Common.{◌≡◌, ℕ, true, List, [], ◌∷◌, ◌++◌, map, Some}
use Rattle.std.specs.Prelude.{codes}
use Rattle.cm_base.specs.declared.faults.Table.TheVariants as table
use Rattle.cm_base.specs.declared.faults.WorldFault.{WorldFault}
use Rattle.cm_base.specs.declared.faults.WorldFault.TheVariants as fault
use Rattle.model_cred.specs.Files.{Mount, plain_mount}
use Rattle.model_cred.specs.IdMap.{initial_map}
use Rattle.model_cred.specs.Space.{first_spaces}
use Rattle.model_text.proofs.SpaceCases.{extent, of_space, plain}
use Rattle.model_text.proofs.WorldCases.{world_on_literals, world_with}
use Rattle.model_text.specs.WorldText.{Reads, Bad, world_text}

-- a world with one more mount, whose row has these keys
abbrev pub of_mount : List ℕ → List ℕ
of_mount row = codes "log = \"script\"\n[[mount]]\n" ++ row

-- the row declares this mount after `root`
abbrev pub Declares : List ℕ → Mount → Type 0
Declares row m = world_text (of_mount row)
    ≡ Reads (record (world_with []) { files = record { mounts = plain_mount (codes "root") ∷ m ∷ []; rows = [] } })

-- each of these rows has this fault
abbrev pub RowsBad : WorldFault → List (List ℕ) → Type 0
RowsBad why rows = map (λ row. world_text (of_mount row)) rows ≡ map (λ _. Bad table.Mount 1 why) rows

pub declared_mounts : record {
  nothing_more_is_declared : Declares (codes "name = \"m\"\n") (plain_mount (codes "m"));
  defaults_written_out : Declares
      (codes "name = \"m\"\nspace = \"init\"\nnosuid = false\nnoexec = false\n"
      ++ codes "fs_uid_map = [[0, 0, 4294967295]]\nfs_gid_map = [[0, 0, 4294967295]]\n") (plain_mount (codes "m"));
  -- the two maps of the filesystem have their defaults each for itself
  all_keys : Declares
      (codes "name = \"m\"\nnosuid = true\nnoexec = true\nfs_uid_map = [[0, 1000, 10]]\nuid_map = [[0, 5, 1]]\ngid_map = [[0, 6, 1]]\n")
      (record {
        name = codes "m";
        fs = record { uids = extent 0 1000 10 ∷ []; gids = initial_map };
        map = Some (record { uids = extent 0 5 1 ∷ []; gids = extent 0 6 1 ∷ [] });
        space = 0;
        nosuid = true;
        noexec = true;
      });
  a_mount_of_a_space : world_text (of_space (codes "[[mount]]\nname = \"m\"\nspace = \"a\"\n"))
      ≡ Reads (record (world_with []) {
        start = record { processes = []; spaces = plain ∷ first_spaces };
        names = codes "a" ∷ [];
        files = record { mounts = plain_mount (codes "root") ∷ record (plain_mount (codes "m")) { space = 1 } ∷ []; rows = [] };
      });
}
unfolding world_on_literals
declared_mounts = search

-- ---- each fault
pub faults_of_mounts : record {
  unknown_keys : RowsBad fault.UnknownKey (codes "name = 1\nparent = \"init\"\n" ∷ codes "ro = true\n" ∷ []);
  -- no name, or one of its own two maps alone
  missing_keys : RowsBad fault.MissingKey
      (codes "nosuid = 1\n" ∷ codes "name = \"m\"\nuid_map = 1\n" ∷ codes "name = \"m\"\ngid_map = [[0, 0, 1]]\n" ∷ []);
  wrong_types : RowsBad fault.WrongType
      (codes "name = 1\n" ∷ codes "name = \"\"\nnosuid = 1\n" ∷ codes "name = \"m\"\nnoexec = \"false\"\n"
      ∷ codes "name = \"m\"\nspace = 0\n" ∷ codes "name = \"m\"\nfs_uid_map = [[0, 0]]\n"
      ∷ codes "name = \"m\"\nfs_gid_map = {}\n"
      ∷ codes "name = \"m\"\nuid_map = [[0, 0, 1]]\ngid_map = [[0, 0, 1.0]]\n" ∷ []);
  bad_numbers : RowsBad fault.BadNumber
      (codes "name = \"\"\nfs_uid_map = [[0, 0, 4294967296]]\n"
      ∷ codes "name = \"m\"\nuid_map = [[0, -1, 1]]\ngid_map = []\n" ∷ []);
  bad_names : RowsBad fault.BadName
      (codes "name = \"\"\nspace = \"x\"\n" ∷ codes "name = \"init\"\n" ∷ codes "name = \"/\"\n" ∷ []);
  -- `root` always stands
  twice_named : map world_text
      (of_mount (codes "name = \"root\"\nspace = \"x\"\n")
      ∷ of_mount (codes "name = \"m\"\n[[mount]]\nname = \"m\"\nspace = \"x\"\n") ∷ [])
      ≡ Bad table.Mount 1 fault.TwiceNamed ∷ Bad table.Mount 2 fault.TwiceNamed ∷ [];
  no_such_spaces : RowsBad fault.NoSuchSpace
      (codes "name = \"m\"\nspace = \"a\"\nfs_uid_map = []\n" ∷ codes "name = \"m\"\nspace = \"\"\n"
      ∷ codes "name = \"m\"\nspace = \"#0\"\n" ∷ []);
  bad_maps : RowsBad fault.BadMap
      (codes "name = \"m\"\nfs_uid_map = []\n" ∷ codes "name = \"m\"\nfs_gid_map = [[0, 0, 0]]\n"
      ∷ codes "name = \"m\"\nuid_map = []\ngid_map = [[0, 0, 1]]\n"
      ∷ codes "name = \"m\"\nuid_map = [[0, 0, 1]]\ngid_map = [[0, 4294967295, 1]]\n" ∷ []);
}
unfolding world_on_literals
faults_of_mounts = search

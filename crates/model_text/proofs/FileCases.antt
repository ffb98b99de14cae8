-- Worked cases, by computation, of the files that a world's text declares: keys, defaults, each fault, their order.
use Rattle.std.proofs.Common.{◌≡◌, ℕ, true, false, List, [], ◌∷◌, ◌++◌, map, None, Some}
use Rattle.std.specs.Prelude.{codes}
use Rattle.cm_base.specs.declared.faults.Table.TheVariants as table
use Rattle.cm_base.specs.declared.faults.WorldFault.{WorldFault}
use Rattle.cm_base.specs.declared.faults.WorldFault.TheVariants as fault
use Rattle.model_cred.specs.Files.{FileRow, plain_mount}
use Rattle.model_text.specs.MountText.{root_alone}
use Rattle.model_text.proofs.WorldCases.{world_on_literals, world_with}
use Rattle.model_text.specs.WorldText.{Reads, Bad, world_text}

-- a world with a file, whose row has these keys
abbrev pub of_file : List ℕ → List ℕ
of_file row = codes "log = \"script\"\n[[file]]\n" ++ row

-- a file of owner 1 and group 2 with mode 4755 and these keys beside
abbrev pub of_path : List ℕ → List ℕ
of_path rest = of_file (codes "path = \"/a\"\nuid = 1\ngid = 2\nmode = \"4755\"\n" ++ rest)

-- that file, with all else by default; 4755 is 2541
abbrev pub plain : FileRow
plain = record { path = codes "/a"; mount = 0; uid = 1; gid = 2; mode = 2541; caps = None; interpreter = None }

-- the row declares this file
abbrev pub Declares : List ℕ → List FileRow → Type 0
Declares rest rows = world_text (of_path rest) ≡ Reads (record (world_with []) { files = record { mounts = root_alone; rows = rows } })

-- each of these rows has this fault
abbrev pub RowsBad : WorldFault → List (List ℕ) → Type 0
RowsBad why rows = map (λ row. world_text (of_file row)) rows ≡ map (λ _. Bad table.File 1 why) rows

-- each of these keys beside those of the file above has this fault
abbrev pub KeysBad : WorldFault → List (List ℕ) → Type 0
KeysBad why keys = map (λ rest. world_text (of_path rest)) keys ≡ map (λ _. Bad table.File 1 why) keys

pub declared_files : record {
  nothing_more_is_declared : Declares [] (plain ∷ []);
  mount_by_its_name : world_text (of_path (codes "mount = \"m\"\n[[mount]]\nname = \"m\"\n"))
      ≡ Reads (record (world_with []) {
        files = record { mounts = plain_mount (codes "root") ∷ plain_mount (codes "m") ∷ []; rows = record plain { mount = 1 } ∷ [] };
      });
  -- version 2, effective, permitted CAP_NET_BIND_SERVICE (bit 10)
  an_attribute : Declares (codes "caps = \"0100000200040000000000000000000000000000\"\nmount = \"root\"\n")
      (record plain { caps = Some (record { permitted = 1024; inheritable = 0; effective = true; root = 0 }) } ∷ []);
  -- version 3, inheritable CAP_KILL (bit 5)
  an_attribute_of_version_3 : Declares (codes "caps = \"000000030000000020000000000000000000000000000000\"\n")
      (record plain { caps = Some (record { permitted = 0; inheritable = 32; effective = false; root = 0 }) } ∷ []);
  -- digits of either case; 0x3e8 is 1000
  root_id_of_an_attribute : Declares (codes "caps = \"0000000300000000000000000000000000000000E8030000\"\n")
      (record plain { caps = Some (record { permitted = 0; inheritable = 0; effective = false; root = 1000 }) } ∷ []);
  a_script : Declares (codes "[[file]]\npath = \"/b\"\nuid = 1\ngid = 2\nmode = \"4755\"\ninterpreter = \"/a\"\n")
      (plain ∷ record plain { path = codes "/b"; interpreter = Some 0 } ∷ []);
  modes : map
      (λ mode. world_text (of_file (codes "path = \"/a\"\nuid = 1\ngid = 2\nmode = \"" ++ mode ++ codes "\"\n")))
      (codes "0" ∷ codes "7" ∷ codes "755" ∷ codes "0755" ∷ codes "7777" ∷ [])
      ≡ map
      (λ mode. Reads (record (world_with []) { files = record { mounts = root_alone; rows = record plain { mode = mode } ∷ [] } }))
      (0 ∷ 7 ∷ 493 ∷ 493 ∷ 4095 ∷ []);
}
unfolding world_on_literals
declared_files = search

-- ---- each fault
pub faults_of_files : record {
  unknown_keys : KeysBad fault.UnknownKey (codes "owner = 0\n" ∷ codes "name = \"a\"\nmount = 1\n" ∷ []);
  missing_keys : RowsBad fault.MissingKey
      (codes "uid = 0\ngid = 0\nmode = \"0\"\n" ∷ codes "path = \"/a\"\ngid = 0\nmode = \"0\"\n"
      ∷ codes "path = \"/a\"\nuid = 0\nmode = \"0\"\n" ∷ codes "path = \"/a\"\nuid = \"0\"\ngid = 0\n" ∷ []);
  wrong_types : RowsBad fault.WrongType
      (codes "path = 1\nuid = 0\ngid = 0\nmode = \"0\"\n" ∷ codes "path = \"\"\nuid = \"0\"\ngid = -1\nmode = \"0\"\n"
      ∷ codes "path = \"/a\"\nuid = 0\ngid = [0]\nmode = \"0\"\n"
      ∷ codes "path = \"/a\"\nuid = 0\ngid = 0\nmode = 0o755\n"
      ∷ codes "path = \"/a\"\nuid = 0\ngid = 0\nmode = \"0\"\nmount = 0\n"
      ∷ codes "path = \"/a\"\nuid = 0\ngid = 0\nmode = \"0\"\ncaps = []\n"
      ∷ codes "path = \"/a\"\nuid = 0\ngid = 0\nmode = \"0\"\ninterpreter = false\n" ∷ []);
  bad_numbers : RowsBad fault.BadNumber
      (codes "path = \"\"\nuid = 4294967295\ngid = 0\nmode = \"0\"\n"
      ∷ codes "path = \"/a\"\nuid = 0\ngid = -1\nmode = \"8\"\n" ∷ []);
  -- empty, with a blank, with DEL, the two tokens of logs
  bad_names : RowsBad fault.BadName
      (codes "path = \"\"\nuid = 0\ngid = 0\nmode = \"\"\n" ∷ codes "path = \"/a b\"\nuid = 0\ngid = 0\nmode = \"\"\n"
      ∷ codes "path = \"/\\u007f\"\nuid = 0\ngid = 0\nmode = \"0\"\n"
      ∷ codes "path = \"-\"\nuid = 0\ngid = 0\nmode = \"0\"\nmount = \"x\"\n"
      ∷ codes "path = \"=\"\nuid = 0\ngid = 0\nmode = \"0\"\n"
      ∷ codes "path = \"/a\\n\"\nuid = 0\ngid = 0\nmode = \"0\"\n" ∷ []);
  twice_named : world_text (of_path (codes "[[file]]\npath = \"/a\"\nuid = 0\ngid = 0\nmode = \"\"\nmount = \"x\"\n"))
      ≡ Bad table.File 2 fault.TwiceNamed;
  no_such_mounts : KeysBad fault.NoSuchMount
      (codes "mount = \"m\"\ninterpreter = \"/a\"\n" ∷ codes "mount = \"\"\n" ∷ []);
  -- the row itself, a later one, one that has an interpreter itself
  no_interpreters : KeysBad fault.NoInterpreter
      (codes "interpreter = \"/a\"\ncaps = \"\"\n"
      ∷ codes "interpreter = \"/b\"\n[[file]]\npath = \"/b\"\nuid = 0\ngid = 0\nmode = \"0\"\n"
      ∷ codes "interpreter = \"\"\n" ∷ []);
  a_script_is_no_interpreter : world_text
      (of_path (codes "[[file]]\npath = \"/b\"\nuid = 0\ngid = 0\nmode = \"0\"\ninterpreter = \"/a\"\n" ++ codes "[[file]]\npath = \"/c\"\nuid = 0\ngid = 0\nmode = \"\"\ninterpreter = \"/b\"\n"))
      ≡ Bad table.File 3 fault.NoInterpreter;
  bad_modes : RowsBad fault.BadMode
      (codes "path = \"/a\"\nuid = 0\ngid = 0\nmode = \"\"\ncaps = \"\"\n"
      ∷ codes "path = \"/a\"\nuid = 0\ngid = 0\nmode = \"00755\"\n"
      ∷ codes "path = \"/a\"\nuid = 0\ngid = 0\nmode = \"8\"\n"
      ∷ codes "path = \"/a\"\nuid = 0\ngid = 0\nmode = \"0o75\"\n"
      ∷ codes "path = \"/a\"\nuid = 0\ngid = 0\nmode = \"-1\"\n" ∷ []);
  -- an odd number of digits, no digit, another length, another version
  bad_caps : KeysBad fault.BadCaps
      (codes "caps = \"0\"\n" ∷ codes "caps = \"0g\"\n" ∷ codes "caps = \"\"\n"
      ∷ codes "caps = \"01000002000400000000000000000000000000\"\n"
      ∷ codes "caps = \"0100000100040000000000000000000000000000\"\n"
      ∷ codes "caps = \"0100000300040000000000000000000000000000\"\n" ∷ codes "caps = \"all\"\n" ∷ []);
}
unfolding world_on_literals
faults_of_files = search

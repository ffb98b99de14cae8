-- Worked cases, by computation, of the spaces that a world's text declares: keys, defaults, each fault, their order.
use Rattle.std.proofs.Common.{◌≡◌, ℕ, true, false, List, [], ◌∷◌, ◌++◌, map, None, Some}
use Rattle.std.specs.Prelude.{codes}
use Rattle.cm_base.specs.declared.faults.Table.TheVariants as table
use Rattle.cm_base.specs.declared.faults.WorldFault.{WorldFault}
use Rattle.cm_base.specs.declared.faults.WorldFault.TheVariants as fault
use Rattle.model_cred.specs.IdMap.{Extent}
use Rattle.model_cred.specs.Space.{Space, first_spaces}
use Rattle.model_text.proofs.WorldCases.{world_on_literals, world_with}
use Rattle.model_text.specs.WorldText.{Reads, Bad, world_text}

-- a world of one space with these keys beside its name, its parent and its owner
abbrev pub of_space : List ℕ → List ℕ
of_space rest = codes "log = \"script\"\n[[space]]\nname = \"a\"\nparent = \"init\"\nowner = 500\n" ++ rest

-- one extent
abbrev pub extent : ℕ → ℕ → ℕ → Extent
extent inside outside length = record { inside = inside; outside = outside; length = length }

-- a space below the initial one with all else by default
abbrev pub plain : Space
plain = record { parent = Some 0; owner = 500; uids = None; gids = None; deny = false; creator_setfcap = false }

-- the row declares this space
abbrev pub Declares : List ℕ → Space → Type 0
Declares rest s = world_text (of_space rest)
    ≡ Reads (record (world_with []) { start = record { processes = []; spaces = s ∷ first_spaces }; names = codes "a" ∷ [] })

-- each of the texts has this fault in this row of the spaces
abbrev pub AllBad : ℕ → WorldFault → List (List ℕ) → Type 0
AllBad row why texts = map world_text texts ≡ map (λ _. Bad table.Space row why) texts

-- each of these rows has this fault
abbrev pub RowsBad : WorldFault → List (List ℕ) → Type 0
RowsBad why rows = map (λ rest. world_text (codes "log = \"script\"\n[[space]]\n" ++ rest)) rows ≡ map (λ _. Bad table.Space 1 why) rows

pub declared_spaces : record {
  nothing_more_is_declared : Declares [] plain;
  defaults_written_out : Declares (codes "setgroups = \"allow\"\ncreator_setfcap = false\n") plain;
  all_keys : Declares (codes "uid_map = [[0, 500, 1], [1, 1000, 10]]\ngid_map = [[0, 600, 2]]\nsetgroups = \"deny\"\ncreator_setfcap = true\n")
      (record plain {
        uids = Some (extent 0 500 1 ∷ extent 1 1000 10 ∷ []);
        gids = Some (extent 0 600 2 ∷ []);
        deny = true;
        creator_setfcap = true;
      });
  -- the outside ids of a child's map are those of its parent, which are stored as the initial space sees them
  a_child_of_a_child : world_text (of_space (codes "uid_map = [[0, 5000, 10]]\n[[space]]\nname = \"b\"\nparent = \"a\"\nowner = 1\nuid_map = [[7, 2, 3]]\n"))
      ≡ Reads (record (world_with []) {
        start = record {
          processes = [];
          spaces = record plain { parent = Some 1; owner = 1; uids = Some (extent 7 5002 3 ∷ []) }
              ∷ record plain { uids = Some (extent 0 5000 10 ∷ []) } ∷ first_spaces;
        };
        names = codes "a" ∷ codes "b" ∷ [];
      });
}
unfolding world_on_literals
declared_spaces = search

-- ---- each fault
pub faults_of_spaces : record {
  unknown_keys : RowsBad fault.UnknownKey (codes "other = 1\n" ∷ codes "name = 1\nuids = 1\n" ∷ []);
  missing_keys : RowsBad fault.MissingKey
      (codes "parent = \"init\"\nowner = 0\n" ∷ codes "name = \"a\"\nowner = 0\n"
      ∷ codes "name = \"a\"\nparent = \"init\"\n" ∷ codes "name = 1\n" ∷ []);
  wrong_types : map (λ rest. world_text (of_space rest))
      (codes "uid_map = 1\n" ∷ codes "uid_map = [1]\n" ∷ codes "uid_map = [[0, 0]]\n"
      ∷ codes "gid_map = [[0, 0, 1, 1]]\n" ∷ codes "gid_map = [[0, 0, \"1\"]]\n" ∷ codes "setgroups = \"Allow\"\n"
      ∷ codes "setgroups = true\n" ∷ codes "creator_setfcap = \"true\"\n" ∷ [])
      ≡ map (λ _. Bad table.Space 1 fault.WrongType) (true ∷ true ∷ true ∷ true ∷ true ∷ true ∷ true ∷ true ∷ []);
  rows_that_are_no_tables : AllBad 1 fault.WrongType
      (codes "log = \"script\"\nspace = [1]\n" ∷ codes "log = \"script\"\nspace = [[]]\n" ∷ []);
  bad_numbers : RowsBad fault.BadNumber
      (codes "name = \"a\"\nparent = \"init\"\nowner = 4294967295\n"
      ∷ codes "name = \"a\"\nparent = \"init\"\nowner = -1\n"
      ∷ codes "name = \"a\"\nparent = \"init\"\nowner = 0\nuid_map = [[0, 0, 4294967296]]\n"
      ∷ codes "name = \"\"\nparent = \"init\"\nowner = 0\nuid_map = [[-1, 0, 1]]\n" ∷ []);
  bad_names : RowsBad fault.BadName
      (codes "name = \"init\"\nparent = \"init\"\nowner = 0\n" ∷ codes "name = \"\"\nparent = \"x\"\nowner = 0\n"
      ∷ codes "name = \"a b\"\nparent = \"init\"\nowner = 0\n"
      ∷ codes "name = \"123456789012345678901234567890123\"\nparent = \"init\"\nowner = 0\n"
      ∷ codes "name = \"#1\"\nparent = \"init\"\nowner = 0\n" ∷ []);
  longest_name : map (λ text. world_text text)
      (codes "log = \"script\"\n[[space]]\nname = \"Az09_-.8901234567890123456789012\"\nparent = \"init\"\nowner = 500\n" ∷ [])
      ≡ Reads (record (world_with []) {
        start = record { processes = []; spaces = plain ∷ first_spaces };
        names = codes "Az09_-.8901234567890123456789012" ∷ [];
      }) ∷ [];
  twice_named : AllBad 2 fault.TwiceNamed
      (of_space (codes "[[space]]\nname = \"a\"\nparent = \"x\"\nowner = 0\n") ∷ []);
  -- a parent that stands later, the row itself, a number
  no_such_parents : RowsBad fault.NoSuchParent
      (codes "name = \"a\"\nparent = \"b\"\nowner = 0\n[[space]]\nname = \"b\"\nparent = \"init\"\nowner = 0\n"
      ∷ codes "name = \"a\"\nparent = \"a\"\nowner = 0\n"
      ∷ codes "name = \"a\"\nparent = \"#0\"\nowner = 0\nuid_map = []\n" ∷ []);
  bad_maps : RowsBad fault.BadMap
      (codes "name = \"a\"\nparent = \"init\"\nowner = 0\nuid_map = []\n"
      ∷ codes "name = \"a\"\nparent = \"init\"\nowner = 0\ngid_map = [[0, 0, 0]]\n"
      ∷ codes "name = \"a\"\nparent = \"init\"\nowner = 0\nuid_map = [[0, 4294967295, 1]]\n"
      ∷ codes "name = \"a\"\nparent = \"init\"\nowner = 0\nuid_map = [[0, 0, 2], [1, 5, 1]]\n" ∷ []);
  -- a parent's map that isn't written, an extent over two of its extents, one past its end; the fault of a later map
  -- comes first
  not_mapped : AllBad 2 fault.NotMapped
      (of_space (codes "[[space]]\nname = \"b\"\nparent = \"a\"\nowner = 0\nuid_map = [[0, 0, 1]]\n")
      ∷ of_space (codes "gid_map = [[0, 0, 5], [5, 10, 5]]\n[[space]]\nname = \"b\"\nparent = \"a\"\nowner = 0\ngid_map = [[0, 4, 2]]\n")
      ∷ of_space (codes "uid_map = [[0, 0, 5]]\n[[space]]\nname = \"b\"\nparent = \"a\"\nowner = 0\nuid_map = [[0, 4, 2]]\n") ∷ []);
  a_bad_map_before_one_that_is_not_mapped : AllBad 2 fault.BadMap
      (of_space (codes "[[space]]\nname = \"b\"\nparent = \"a\"\nowner = 0\nuid_map = [[0, 0, 1]]\ngid_map = []\n") ∷ []);
}
unfolding world_on_literals
faults_of_spaces = search

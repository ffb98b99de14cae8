-- Worked cases of the world's text, by computation: the whole table, the order of the tables, and whole worlds.
use Rattle.std.proofs.Common.{◌≡◌, ℕ, List, [], ◌∷◌, ◌++◌, map, None, refl}
use Rattle.std.specs.Prelude.{⊤, codes}
use Rattle.std.specs.Str.{is_utf8, chars}
use Rattle.cm_base.specs.declared.faults.Table.TheVariants as table
use Rattle.cm_base.specs.declared.faults.WorldFault.{WorldFault}
use Rattle.cm_base.specs.declared.faults.WorldFault.TheVariants as fault
use Rattle.cm_filter.specs.Filters.{no_filter}
use Rattle.hex.proofs.OnLiterals.{hex_on_literals}
use Rattle.model_cred.specs.Credential.{FourIds, all_four}
use Rattle.model_cred.specs.Process.{Process}
use Rattle.model_cred.specs.Space.{first_spaces}
use Rattle.model_cred.specs.World.{World, Script, Strace}
use Rattle.model_text.specs.FileText.{mode_of_text, attribute_of_text}
use Rattle.model_text.specs.MountText.{root_alone}
use Rattle.model_text.specs.NameText.{is_name, is_path}
use Rattle.model_text.specs.WorldText.{WorldText, Reads, Bad, world_text}
use Rattle.model_text.proofs.Defaults.{default_cred}
use Rattle.toml.proofs.OnLiterals.{toml_on_literals}

-- what a proof unfolds to compute a world at a literal
unfoldable pub world_on_literals : ⊤
unfolding toml_on_literals hex_on_literals is_utf8 chars is_name is_path mode_of_text attribute_of_text
world_on_literals = tt

-- the world of these processes in the initial space, with nothing else declared
abbrev pub world_with : List Process → World
world_with processes = record {
  start = record { processes = processes; spaces = first_spaces };
  names = [];
  files = record { mounts = root_alone; rows = [] };
  filter = no_filter;
  form = Script;
}

-- each of the texts is this
abbrev pub AllAre : WorldText → List (List ℕ) → Type 0
AllAre answer texts = map world_text texts ≡ map (λ _. answer) texts

-- the whole table has this fault
abbrev pub whole : WorldFault → WorldText
whole why = Bad table.Whole 0 why

-- a process with these user ids in the initial space, and all else by default
abbrev pub process_of : ℕ → FourIds → Process
process_of pid ids = record { pid = pid; forebear = None; space = 0; cred = default_cred ids; filter = no_filter }

-- ---- worlds
pub worlds : record {
  no_process : world_text (codes "log = \"script\"\n") ≡ Reads (world_with []);
  a_log_of_strace : world_text (codes "log = \"strace\"\n") ≡ Reads (record (world_with []) { form = Strace });
  one_process : world_text (codes "log = \"script\"\n[[process]]\npid = 100\nuid = 0\n")
      ≡ Reads (world_with (process_of 100 (all_four 0) ∷ []));
  no_toml : AllAre (whole fault.Toml) (codes "log = \n" ∷ codes "log" ∷ []);
}
unfolding world_on_literals
worlds = search

-- ---- the whole table
pub the_whole_table : record {
  unknown_keys_of_the_whole : AllAre (whole fault.UnknownKey)
      (codes "log = \"script\"\n[other]\n" ∷ codes "log = \"script\"\nLog = 1\n" ∷ codes "other = 1\n"
      ∷ codes "log = 1\nother = 1\n" ∷ []);
  no_form_of_the_log : AllAre (whole fault.MissingKey)
      (codes "" ∷ codes "[[process]]\npid = 100\n" ∷ codes "space = 1\n" ∷ []);
  wrong_types_of_the_whole : AllAre (whole fault.WrongType)
      (codes "log = \"text\"\n" ∷ codes "log = \"\"\n" ∷ codes "log = 1\n" ∷ codes "log = [\"script\"]\n"
      ∷ codes "log = \"script\"\nspace = 1\n" ∷ codes "log = \"script\"\n[mount]\n"
      ∷ codes "log = \"script\"\nfile = \"\"\n" ∷ codes "log = \"script\"\n[process]\npid = 1\n"
      ∷ codes "log = \"script\"\n[[filter]]\n" ∷ codes "log = \"script\"\nfilter = 1\n" ∷ []);
}
unfolding world_on_literals
the_whole_table = search

-- ---- the order of the tables
-- the texts of tables, each with a fault in its second row, and of a filter that has one
abbrev bad : record { spaces : List ℕ; mounts : List ℕ; files : List ℕ; processes : List ℕ; filter : List ℕ }
bad = record {
  spaces = codes "[[space]]\nname = \"a\"\nparent = \"init\"\nowner = 0\n[[space]]\n";
  mounts = codes "[[mount]]\nname = \"m\"\n[[mount]]\n";
  files = codes "[[file]]\npath = \"/a\"\nuid = 0\ngid = 0\nmode = \"0\"\n[[file]]\n";
  processes = codes "[[process]]\npid = 1\n[[process]]\n";
  filter = codes "[filter]\nexclude = [\"x\"]\n";
}

abbrev script : List ℕ
script = codes "log = \"script\"\n"

-- the first table that has a fault is told
pub tables_in_their_order : map world_text
    ((script ++ bad.filter ++ bad.processes ++ bad.files ++ bad.mounts ++ bad.spaces)
    ∷ (script ++ bad.filter ++ bad.processes ++ bad.files ++ bad.mounts)
    ∷ (script ++ bad.filter ++ bad.processes ++ bad.files) ∷ (script ++ bad.filter ++ bad.processes)
    ∷ (script ++ bad.filter) ∷ (codes "log = 1\n" ++ bad.filter ++ bad.spaces) ∷ [])
    ≡ Bad table.Space 2 fault.MissingKey ∷ Bad table.Mount 2 fault.MissingKey ∷ Bad table.File 2 fault.MissingKey
    ∷ Bad table.Process 2 fault.MissingKey ∷ Bad table.Filter 0 fault.NoSuchCall ∷ whole fault.WrongType ∷ []
unfolding world_on_literals
tables_in_their_order = refl

-- The world of the drill (choice): one process, which is root, and one set-user-ID-root program. It is given here as the
-- world that it is, and as a text that declares it.
use Rattle.std.specs.Prelude.{ℕ, codes, false, List, [], ◌∷◌, None}
use Rattle.cm_base.specs.CapSet.{full, none}
use Rattle.cm_filter.specs.Filters.{no_filter}
use Rattle.model_cred.specs.Credential.{Credential, all_four}
use Rattle.model_cred.specs.Files.{FileRow, plain_mount}
use Rattle.model_cred.specs.Process.{Process}
use Rattle.model_cred.specs.Space.{first_spaces}
use Rattle.model_cred.specs.World.{World, Script}

-- what a text declares of a process that has user id 0 and all else by default: all capabilities permitted and effective
abbrev pub root_credential : Credential
root_credential = record {
  uid = all_four 0;
  gid = all_four 0;
  groups = [];
  inheritable = none;
  permitted = full;
  effective = full;
  bounding = full;
  ambient = none;
  securebits = 0;
  no_new_privs = false;
}

-- the one process that is declared
abbrev pub first_process : Process
first_process = record { pid = 1; forebear = None; space = 0; cred = root_credential; filter = no_filter }

-- the one file that is declared: set-user-ID, its owner root
abbrev pub su_row : FileRow
su_row = record { path = codes "/drill/su"; mount = 0; uid = 0; gid = 0; mode = 0o4755; caps = None; interpreter = None }

-- the world of the drill, without a filter; its log is a script
unfoldable pub drill_world : World
drill_world = record {
  start = record { processes = first_process ∷ []; spaces = first_spaces };
  names = [];
  files = record { mounts = plain_mount (codes "root") ∷ []; rows = su_row ∷ [] };
  filter = no_filter;
  form = Script;
}

-- a text that declares it
unfoldable pub drill_world_text : List ℕ
drill_world_text =
    codes
    "log = \"script\"\n\n[[file]]\npath = \"/drill/su\"\nuid = 0\ngid = 0\nmode = \"4755\"\n\n[[process]]\npid = 1\nuid = 0\n"

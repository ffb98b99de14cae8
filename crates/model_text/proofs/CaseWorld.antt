-- The world of the worked cases of lines.
use Rattle.std.proofs.Common.{ℕ, List, [], ◌∷◌, None}
use Rattle.std.specs.Prelude.{codes}
use Rattle.cm_filter.specs.Filters.{no_filter}
use Rattle.model_cred.specs.Files.{FileRow, plain_mount}
use Rattle.model_cred.specs.Space.{first_spaces}
use Rattle.model_cred.specs.World.{World, Script}

-- a file of root with that path
abbrev pub at_path : List ℕ → FileRow
at_path path = record { path = path; mount = 0; uid = 0; gid = 0; mode = 493; caps = None; interpreter = None }

-- the world of these cases: two declared spaces, and three files
abbrev pub the_world : World
the_world = record {
  start = record { processes = []; spaces = first_spaces };
  names = codes "pod" ∷ codes "box-1.a" ∷ [];
  files = record {
    mounts = plain_mount (codes "root") ∷ [];
    rows = at_path (codes "/bin/su") ∷ at_path (codes "/opt/x") ∷ at_path (codes "pod") ∷ [];
  };
  filter = no_filter;
  form = Script;
}

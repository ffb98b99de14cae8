-- The world of the worked cases, and words for what logs of it read as.
use Rattle.std.proofs.Common.{◌≡◌, ℕ, false, map, List, [], ◌∷◌, None}
use Rattle.std.specs.Prelude.{codes}
use Rattle.cm_base.specs.declared.faults.LineFault.{LineFault}
use Rattle.cm_base.specs.declared.limited.Limited.{Limited}
use Rattle.cm_base.specs.declared.res.Res.{Res}
use Rattle.cm_filter.specs.Filters.{no_filter}
use Rattle.model_cred.specs.Call.{Call}
use Rattle.model_cred.specs.Credential.{Credential, all_four}
use Rattle.model_cred.specs.Files.{plain_mount}
use Rattle.model_cred.specs.IdMap.{Extent}
use Rattle.model_cred.specs.Process.{Process}
use Rattle.model_cred.specs.Space.{first_spaces}
use Rattle.model_cred.specs.World.{World, Strace}
use Rattle.model_strace.specs.Lines.{reading}
use Rattle.model_text.specs.Reading.{Placed, Reading, AtEnd, Stops, Fault, Limit}

-- the credential of each process; no reading depends on it
abbrev root : Credential
root = record {
  uid = all_four 0;
  gid = all_four 0;
  groups = [];
  inheritable = 0;
  permitted = 0;
  effective = 0;
  bounding = 0;
  ambient = 0;
  securebits = 0;
  no_new_privs = false;
}

-- a process in the initial user namespace
abbrev pub process : ℕ → Process
process pid = record { pid = pid; forebear = None; space = 0; cred = root; filter = no_filter }

-- the world of these cases: process 200, and the file /bin/su
abbrev pub the_world : World
the_world = record {
  start = record { processes = process 200 ∷ []; spaces = first_spaces };
  names = [];
  files = record {
    mounts = plain_mount (codes "root") ∷ [];
    rows = record { path = codes "/bin/su"; mount = 0; uid = 0; gid = 0; mode = 2541; caps = None; interpreter = None } ∷ [];
  };
  filter = no_filter;
  form = Strace;
}

-- the event of a process, in the line of that number
abbrev pub at_line : ℕ → ℕ → Call → Res → Placed
at_line number pid call result = record { line = number; event = record { pid = pid; call = call; res = result } }

-- the extent of a map: inside, outside, length
abbrev pub extent : ℕ → ℕ → ℕ → Extent
extent inside outside length = record { inside = inside; outside = outside; length = length }

-- these events, and then the log's end
abbrev pub to_the_end : List Placed → Reading
to_the_end events = record { events = events; ending = AtEnd }

-- these events, and then a fault of the line of that number
abbrev pub up_to_fault : List Placed → ℕ → LineFault → Reading
up_to_fault events number why = record { events = events; ending = Stops (Fault number why) }

-- these events, and then a limit
abbrev pub up_to_limit : List Placed → Limited → Reading
up_to_limit events limit = record { events = events; ending = Stops (Limit limit) }

-- ---- logs of one line
-- the line tells this call of process 200
abbrev pub Tells : List ℕ → Call → Res → Type 0
Tells line call result = reading the_world (line ∷ []) ≡ to_the_end (at_line 1 200 call result ∷ [])

-- each of the lines tells nothing
abbrev pub TellNothing : List (List ℕ) → Type 0
TellNothing lines = map (λ line. reading the_world (line ∷ [])) lines ≡ map (λ _. to_the_end []) lines

-- each of the lines has this fault
abbrev pub Have : LineFault → List (List ℕ) → Type 0
Have why lines = map (λ line. reading the_world (line ∷ [])) lines ≡ map (λ _. up_to_fault [] 1 why) lines

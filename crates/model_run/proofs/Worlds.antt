-- Words for worked cases: credentials, processes and states with the defaults of a declared world, and what becomes of
-- a list of events.
use Rattle.std.proofs.Common.{◌≡◌, ℕ, ◌==◌, false, List, [], ◌∷◌, None, Some, if◌then◌else◌, codes}
use Rattle.cm_base.specs.CapSet.{full, none}
use Rattle.cm_base.specs.declared.errno.Errno.{Errno}
use Rattle.cm_base.specs.declared.res.Res.{Res}
use Rattle.cm_base.specs.declared.res.Res.TheVariants.{Done, Err}
use Rattle.model_cred.specs.Call.{Call, Event}
use Rattle.cm_filter.specs.Filters.{no_filter}
use Rattle.model_cred.specs.Credential.{Credential, all_four}
use Rattle.model_cred.specs.Files.{FileRow, Mount, plain_mount}
use Rattle.model_cred.specs.IdMap.{Extent}
use Rattle.model_cred.specs.Process.{Process, State}
use Rattle.model_cred.specs.Space.{Space, first_spaces}
use Rattle.model_cred.specs.World.{World, Script}
use Rattle.model_run.specs.Step.{Outcome, Goes, NoProcess, NoSpace, PidInUse, Wrong, outcome}

-- a credential with that id as all four user ids, group ids 0, and all capabilities permitted and effective for user 0
-- alone
abbrev pub user : ℕ → Credential
user id = record {
  uid = all_four id;
  gid = all_four 0;
  groups = [];
  inheritable = none;
  permitted = if id == 0 then full else none;
  effective = if id == 0 then full else none;
  bounding = full;
  ambient = none;
  securebits = 0;
  no_new_privs = false;
}

-- a process in a space, without a forebear
abbrev pub in_space : ℕ → ℕ → Credential → Process
in_space n pid c = record { pid = pid; forebear = None; space = n; cred = c; filter = no_filter }

-- a process in the initial space, without a forebear
abbrev pub process : ℕ → Credential → Process
process pid c = in_space 0 pid c

-- a state with the initial space alone
abbrev pub with_processes : List Process → State
with_processes processes = record { processes = processes; spaces = first_spaces }

-- a state with one process, 100, in the initial space
abbrev pub one : Credential → State
one c = with_processes (process 100 c ∷ [])

-- a space with that map for users and for groups, whose setgroups word is "allow", made without CAP_SETFCAP
abbrev pub space : ℕ → ℕ → List Extent → Space
space parent owner map = record { parent = Some parent; owner = owner; uids = Some map; gids = Some map; deny = false; creator_setfcap = false }

-- a space that was just made, by a process with that effective user id and without CAP_SETFCAP, where the word is "allow"
abbrev pub new_space : ℕ → ℕ → Space
new_space parent owner = record (space parent owner []) { uids = None; gids = None }

-- a user with that id that has all capabilities in a space of its own
abbrev pub newcomer : ℕ → Credential
newcomer id = record (user id) { permitted = full; effective = full }

-- one line of a map
abbrev pub ids : ℕ → ℕ → ℕ → Extent
ids inside outside length = record { inside = inside; outside = outside; length = length }

-- a file on the mount root with mode 755, owner and group 0, no attribute and no interpreter
abbrev pub file : FileRow
file = record { path = codes "/bin/file"; mount = 0; uid = 0; gid = 0; mode = 0o755; caps = None; interpreter = None }

-- a world with these mounts beside root, and these files
abbrev pub world_with : List Mount → List FileRow → World
world_with mounts rows = record {
  start = with_processes [];
  names = [];
  files = record { mounts = plain_mount (codes "root") ∷ mounts; rows = rows };
  filter = no_filter;
  form = Script;
}

-- a world without files
abbrev pub world : World
world = world_with [] []

-- a world with one file
abbrev pub world_of : FileRow → World
world_of row = world_with [] (row ∷ [])

-- the call is done
abbrev pub done : ℕ → Call → Event
done pid call = record { pid = pid; call = call; res = Done }

-- the call is refused
abbrev pub refused : ℕ → Call → Errno → Event
refused pid call e = record { pid = pid; call = call; res = Err e }

-- the call has that result
abbrev pub gives : ℕ → Call → Res → Event
gives pid call res = record { pid = pid; call = call; res = res }

-- what becomes of an event after those before it: nothing more, where one of them is no step
abbrev pub then_event : World → Outcome → Event → Outcome
then_event w (Goes s) e = outcome w s e
then_event w NoProcess e = NoProcess
then_event w NoSpace e = NoSpace
then_event w PidInUse e = PidInUse
then_event w (Wrong res) e = Wrong res

-- what becomes of a list of events after others
abbrev pub after_all : World → Outcome → List Event → Outcome
after_all w o [] = o
after_all w o (e ∷ es) = after_all w (then_event w o e) es

-- what becomes of a list of events: the state after them, or why the first of them that is no step is none
abbrev pub replay : World → State → List Event → Outcome
replay w s es = after_all w (Goes s) es

-- the events lead from the one state to the other
abbrev pub Leads : World → State → List Event → State → Type 0
Leads w s es s' = replay w s es ≡ Goes s'

-- the call is refused by that error, and nothing else is a step
pub record IsRefused (w : World) (s : State) (pid : ℕ) (call : Call) (e : Errno) : Type 0 where
  pub refused : replay w s (refused pid call e ∷ []) ≡ Goes s
  pub done : replay w s (done pid call ∷ []) ≡ Wrong (Err e)

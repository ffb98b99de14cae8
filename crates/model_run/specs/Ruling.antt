-- What the rules give for a call of a process in a state.
use Rattle.std.specs.Prelude.{ℕ, suc, not, length, find, Some, unwrap_or, if◌then◌else◌}
use Rattle.std.specs.List.{range_with_len}
use Rattle.cm_base.specs.declared.errno.Errno.TheVariants.{EPERM, EAGAIN}
use Rattle.cm_base.specs.declared.res.Res.{Res}
use Rattle.cm_base.specs.declared.res.Res.TheVariants.{Done, Child, Err}
use Rattle.cm_filter.specs.Filters.{Filter, excludes}
use Rattle.model_cred.specs.Call.{Call, Fork, CloneUser, Exit, kind_of}
use Rattle.model_cred.specs.Credential.{Credential}
use Rattle.model_cred.specs.Process.{Process, State, is_alive, is_pid, put_process, insert_process, without_process}
use Rattle.model_cred.specs.Space.{Spaces}
use Rattle.model_cred.specs.World.{World}
use Rattle.model_rules.specs.Namespaces.{as_newcomer, clone_user}
use Rattle.model_rules.specs.Reply.{Reply, reply, spaces_after, filter_after}

-- What the rules give: a result, and the state that they leave.
pub record Ruling : Type 0 where
  pub res : Res
  pub state : State

-- the state with another credential of the process
abbrev pub with_cred : State → Process → Credential → State
with_cred s p c = record s { processes = put_process (record p { cred = c }) s.processes }

-- what the rules reply to a call of the process
abbrev pub reply_to : World → State → Process → Call → Reply
reply_to w s p call = reply w.files s.spaces p.space p.cred call

-- the spaces after a call of the process
abbrev pub spaces_left : State → Process → Call → Spaces
spaces_left s p call = spaces_after s.spaces p.space p.cred call

-- the caller's filter after its call
abbrev pub filter_left : Process → Call → Filter
filter_left p call = filter_after p.filter p.cred call

-- The state after a call that is neither a birth nor an exit: the caller has the space and the credential of the reply,
-- and its filter.
abbrev pub state_left : State → Process → Call → Reply → State
state_left s p call r =
    with_cred (record s { spaces = spaces_left s p call }) (record p { space = r.space; filter = filter_left p call }) r.cred

-- The child of fork(2): a copy of its parent, with a pid of its own and the parent as its forebear (capabilities(7),
-- credentials(7): it inherits copies of all credentials; seccomp(2): and the parent's filters).
abbrev pub fork_child : Process → ℕ → Process
fork_child p pid = record p { pid = pid; forebear = Some p.pid }

-- The child of clone(2) with CLONE_NEWUSER: as that of fork(2), and then a newcomer in the space that is made for it.
abbrev pub clone_child : Spaces → Process → ℕ → Process
clone_child spaces p pid = record (fork_child p pid) { space = length spaces; cred = as_newcomer p.cred }

-- A birth: the child comes to the processes, the spaces become these; without a pid for the child it is EAGAIN (fork(2),
-- "ERRORS"), and nothing changes.
abbrev pub birth : State → Process → Spaces → Ruling
birth s child spaces =
    if is_pid child.pid
    then record { res = Child child.pid; state = record { processes = insert_process child s.processes; spaces = spaces } }
    else record { res = Err EAGAIN; state = s }

-- A birth into a new space, or the refusal to make that space, with nothing changed.
abbrev pub birth_unless : Res → State → Process → Spaces → Ruling
birth_unless (Err e) s child spaces = record { res = Err e; state = s }
birth_unless _ s child spaces = birth s child spaces

-- the state after the exit of a process
abbrev pub state_without : State → Process → State
state_without s p = record s { processes = without_process p s.processes }

-- What the rules give for a call that the caller's filter permits. The number is the child's pid at a birth, and counts
-- for no other call.
abbrev pub permitted_ruling : World → State → Process → Call → ℕ → Ruling
permitted_ruling w s p Fork pid = birth s (fork_child p pid) s.spaces
permitted_ruling w s p CloneUser pid = birth_unless (clone_user s.spaces p.space p.cred) s (clone_child s.spaces p pid) (spaces_left s p CloneUser)
permitted_ruling w s p Exit pid = record { res = Done; state = state_without s p }
permitted_ruling w s p call pid = record { res = (reply_to w s p call).res; state = state_left s p call (reply_to w s p call) }

-- A call that the caller's filter excludes: EPERM, and nothing changes (choice; seccomp(2), SECCOMP_RET_ERRNO, may
-- answer another error).
abbrev pub excluded_ruling : State → Ruling
excluded_ruling s = record { res = Err EPERM; state = s }

-- What the rules give for a call of the process.
abbrev pub ruling : World → State → Process → Call → ℕ → Ruling
ruling w s p call pid = if excludes p.filter (kind_of call) then excluded_ruling s else permitted_ruling w s p call pid

-- The least pid that isn't alive: one of the first, as many as processes live and one more. Past the last pid it is
-- none, as where all pids are alive.
abbrev pub free_pid : State → ℕ
free_pid s = unwrap_or (find (λ pid. not (is_alive s.processes pid)) (range_with_len 1 (suc (length s.processes)))) 0

-- The own step of a process with a call: what the rules give, a child's pid being the least one that isn't alive (choice).
abbrev pub own : World → State → Process → Call → Ruling
own w s p call = ruling w s p call (free_pid s)

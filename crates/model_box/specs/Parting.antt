-- The parting of a family: each member has the number of one, and a child has its parent's; and later runs in which what
-- a member may call is its own.
use Rattle.std.specs.Prelude.{◌≡◌, ℕ, ◌==◌, Bool, not, IsTrue, List, [], ◌∷◌, filter, if◌then◌else◌}
use Rattle.cm_base.specs.declared.res.Res.{Res}
use Rattle.cm_base.specs.declared.res.Res.TheVariants.{Done, Child}
use Rattle.cm_filter.specs.declared.kind.CallKind.{CallKind}
use Rattle.model_cred.specs.Call.{Call, Exit, Event, kind_of}
use Rattle.model_cred.specs.Process.{State, is_alive}
use Rattle.model_cred.specs.World.{World}
use Rattle.model_run.specs.Later.{is_member, members_after}
use Rattle.model_run.specs.Step.{Step}
use Rattle.model_box.specs.Laws.{PermitsWithin}

-- a member with the number of its cell
pub record InCell : Type 0 where
  pub pid : ℕ
  pub cell : ℕ

-- the cell of a pid, as its first entry has it
abbrev pub cell_of : List InCell → ℕ → ℕ
cell_of [] pid = 0
cell_of (entry ∷ parting) pid = if entry.pid == pid then entry.cell else cell_of parting pid

-- the parting with the child of a birth, in its parent's cell
abbrev pub parting_with : List InCell → ℕ → Res → List InCell
parting_with parting caller (Child pid) = record { pid = pid; cell = cell_of parting caller } ∷ parting
parting_with parting caller _ = parting

-- the parting without a process that exited
abbrev pub parting_without : List InCell → ℕ → Res → List InCell
parting_without parting caller Done = filter (λ entry. not (entry.pid == caller)) parting
parting_without parting caller _ = parting

-- The parting after a member's call: the child of a birth comes to them, a process that exits goes.
abbrev pub parting_after : List InCell → ℕ → Call → Res → List InCell
parting_after parting caller Exit res = parting_without parting caller res
parting_after parting caller call res = parting_with parting caller res

-- the parting after a list of members' calls
abbrev pub parting_then : List InCell → List Event → List InCell
parting_then parting [] = parting
parting_then parting (e ∷ es) = parting_then (parting_after parting e.pid e.call e.res) es

-- A later run: each event is a step of one who is a member at that point, of a kind that this member may call then.
-- (A later run under a filter is one in which each member may call what that filter and its own at that point permit.)
abbrev pub LaterBy : (State → ℕ → CallKind → Bool) → World → State → List ℕ → List Event → State → List ℕ → Type 0
LaterBy may w s members [] s' members' = (s' ≡ s) × (members' ≡ members)
LaterBy may w s members (e ∷ es) s' members' =
    (mid : State) × IsTrue (is_member members e.pid) × IsTrue (may s e.pid (kind_of e.call)) × Step w s e mid
    × LaterBy may w mid (members_after members e.pid e.call e.res) es s' members'

-- After a step each process that lived and lives may call at most what it might, and a child at most what its parent
-- might.
pub record Falls (may : State → ℕ → CallKind → Bool) (s : State) (e : Event) (s' : State) : Type 0 where
  pub still : (pid : ℕ) → IsTrue (is_alive s.processes pid) → IsTrue (is_alive s'.processes pid) → PermitsWithin (may s' pid) (may s pid)
  pub child : (pid : ℕ) → e.res ≡ Child pid → PermitsWithin (may s' pid) (may s e.pid)

-- What processes may call never grows.
abbrev pub OnlyFalls : World → (State → ℕ → CallKind → Bool) → Type 0
OnlyFalls w may = (s : State) (e : Event) (s' : State) → Step w s e s' → Falls may s e s'

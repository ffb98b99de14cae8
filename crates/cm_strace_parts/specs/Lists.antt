-- The descriptors that are followed, in a list for each process.
use Rattle.std.specs.Prelude.{ℕ, ◌==◌, Bool, nat_lt, List, [], ◌∷◌, ◌++◌, map, if◌then◌else◌}
use Rattle.cm_ordered.specs.Order.{Ascends}
use Rattle.model_strace.specs.Files.{Followed}
use Rattle.model_strace.specs.Parts.{Descriptor}

-- A descriptor of a process: its number, the file that it is for, the user namespace of that file's process at the
-- open, and whether an execve closes it.
pub record Fd : Type 0 where
  pub number : ℕ
  pub file : Followed
  pub space : ℕ
  pub until_exec : Bool

-- The descriptors of the process of that pid.
pub record FdList : Type 0 where
  pub pid : ℕ
  pub fds : List Fd

-- ---- the descriptors of all
-- the descriptor as that of a process
abbrev pub of_process : ℕ → Fd → Descriptor
of_process pid fd = record {
  pid = pid;
  number = fd.number;
  file = fd.file;
  space = fd.space;
  until_exec = fd.until_exec;
}

-- the descriptor without its process
abbrev pub fd_of : Descriptor → Fd
fd_of d = record { number = d.number; file = d.file; space = d.space; until_exec = d.until_exec }

-- the descriptors of all processes
abbrev pub descriptors_in : List FdList → List Descriptor
descriptors_in [] = []
descriptors_in (f ∷ fs) = map (of_process f.pid) f.fds ++ descriptors_in fs

-- ---- in order
-- the number of a descriptor
abbrev pub fd_number : Fd → ℕ
fd_number fd = fd.number

-- the descriptor has that number
abbrev pub is_fd : ℕ → Fd → Bool
is_fd number fd = fd.number == number

-- the descriptor comes before the other one
abbrev pub fd_before : Fd → Fd → Bool
fd_before fd other = nat_lt fd.number other.number

-- the pid of their process
abbrev pub files_pid : FdList → ℕ
files_pid f = f.pid

-- they are those of that process
abbrev pub is_files : ℕ → FdList → Bool
is_files pid f = f.pid == pid

-- the process comes before the other one
abbrev pub files_before : FdList → FdList → Bool
files_before f other = nat_lt f.pid other.pid

-- the process has a lower pid
abbrev pub files_below : ℕ → FdList → Bool
files_below pid f = nat_lt f.pid pid

-- the descriptors of that process
abbrev pub fds_of : ℕ → List FdList → List Fd
fds_of pid [] = []
fds_of pid (f ∷ fs) = if is_files pid f then f.fds else fds_of pid fs

-- the descriptors of each process ascend
abbrev pub EachAscends : List FdList → Type 0
EachAscends [] = Unit {0}
EachAscends (f ∷ fs) = Ascends fd_before f.fds × EachAscends fs

-- The lists stand in their orders.
pub record ListsInOrder (fs : List FdList) : Type 0 where
  pub processes : Ascends files_before fs
  pub each : EachAscends fs

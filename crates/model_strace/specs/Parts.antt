-- What is known while a log of strace(1) is read: the processes and the user namespaces in which they stand, the calls that
-- aren't finished, the descriptors that are followed, and how many user namespaces there are (the reading is a choice).
use Rattle.std.specs.Prelude.{ℕ, ◌+◌, ◌==◌, ◌&&◌, ◌||◌, Bool, false, not, nat_lt, is_some, filter, find, map, length}
use Rattle.std.specs.Prelude.{List, []}
use Rattle.std.specs.Prelude.{◌∷◌, Option}
use Rattle.std.specs.Prelude.{option_map, if◌then◌else◌}
use Rattle.std.specs.List.{list_any}
use Rattle.std.specs.Option.{option_map_or}
use Rattle.model_cred.specs.Process.{Process}
use Rattle.model_cred.specs.World.{World}
use Rattle.model_strace.specs.Files.{Followed}

-- A process: its pid, the number of its user namespace, and whether it shares its descriptors, since it was born so or has
-- given such a birth (clone(2), CLONE_FILES).
pub record Task : Type 0 where
  pub pid : ℕ
  pub space : ℕ
  pub shares : Bool

-- The beginning of a call of a process that isn't finished.
pub record Kept : Type 0 where
  pub pid : ℕ
  pub text : List ℕ

-- A descriptor that is followed: whose it is, its number, the file that it is for, the user namespace of that file's process
-- at the open, and whether an execve closes it.
pub record Descriptor : Type 0 where
  pub pid : ℕ
  pub number : ℕ
  pub file : Followed
  pub space : ℕ
  pub until_exec : Bool

-- What is known: the processes and the kept texts by ascending pids, the descriptors by ascending pids and numbers, each
-- once; the next user namespace has the number `spaces`.
pub record Parts : Type 0 where
  pub tasks : List Task
  pub kept : List Kept
  pub descriptors : List Descriptor
  pub spaces : ℕ

-- ---- in order
-- a thing in its place among others in an order, instead of one that comes neither before nor after it
abbrev pub put : {A : Type 0} → (A → A → Bool) → A → List A → List A
put before new [] = new ∷ []
put before new (old ∷ others) =
    if before new old then new ∷ old ∷ others else if before old new then old ∷ put before new others else new ∷ others

-- things, each in its place
abbrev pub put_all : {A : Type 0} → (A → A → Bool) → List A → List A → List A
put_all before [] others = others
put_all before (new ∷ more) others = put_all before more (put before new others)

-- ---- at the beginning
-- a process of the world
abbrev pub first_task : Process → Task
first_task p = record { pid = p.pid; space = p.space; shares = false }

-- what is known at the beginning of a world's log
abbrev pub first_parts : World → Parts
first_parts w = record {
  tasks = map first_task w.start.processes;
  kept = [];
  descriptors = [];
  spaces = length w.start.spaces;
}

-- ---- processes
-- the process is that of that pid
abbrev pub is_task : ℕ → Task → Bool
is_task pid task = task.pid == pid

-- the process of that pid
abbrev pub task_of : ℕ → Parts → Option Task
task_of pid p = find (is_task pid) p.tasks

-- the pid is known: one of the world's, or of those born since, that hasn't ended
abbrev pub is_known : ℕ → Parts → Bool
is_known pid p = is_some (task_of pid p)

-- the user namespace of a process, the initial one where the pid isn't known
abbrev pub space_of : ℕ → Parts → ℕ
space_of pid p = option_map_or (λ task. task.space) (task_of pid p) 0

-- the process shares its descriptors
abbrev pub shares_files : ℕ → Parts → Bool
shares_files pid p = option_map_or (λ task. task.shares) (task_of pid p) false

-- the process comes before the other one
abbrev pub task_before : Task → Task → Bool
task_before task other = nat_lt task.pid other.pid

-- the process of that pid in another user namespace
abbrev pub moved_task : ℕ → ℕ → Task → Task
moved_task pid space task = if is_task pid task then record task { space = space } else task

-- the process of that pid in another user namespace
abbrev pub moved : ℕ → ℕ → Parts → Parts
moved pid space p = record p { tasks = map (moved_task pid space) p.tasks }

-- the process of that pid in a new user namespace
abbrev pub moved_to_new : ℕ → Parts → Parts
moved_to_new pid p = record p { tasks = map (moved_task pid p.spaces) p.tasks; spaces = p.spaces + 1 }

-- ---- calls that aren't finished
-- the text is kept of that process
abbrev pub is_kept : ℕ → Kept → Bool
is_kept pid kept = kept.pid == pid

-- the text comes before the other one
abbrev pub kept_before : Kept → Kept → Bool
kept_before kept other = nat_lt kept.pid other.pid

-- the text that is kept of a process
abbrev pub kept_of : ℕ → Parts → Option (List ℕ)
kept_of pid p = option_map (λ kept. kept.text) (find (is_kept pid) p.kept)

-- that text is kept too
abbrev pub keeping : ℕ → List ℕ → Parts → Parts
keeping pid text p = record p { kept = put kept_before (record { pid = pid; text = text }) p.kept }

-- no text of the process is kept
abbrev pub without_kept : ℕ → Parts → Parts
without_kept pid p = record p { kept = filter (λ kept. not (is_kept pid kept)) p.kept }

-- no text is kept
abbrev pub without_any_kept : Parts → Parts
without_any_kept p = record p { kept = [] }

-- ---- descriptors
-- the descriptor is of that process
abbrev pub is_of : ℕ → Descriptor → Bool
is_of pid d = d.pid == pid

-- the descriptor is that one of that process
abbrev pub is_descriptor : ℕ → ℕ → Descriptor → Bool
is_descriptor pid number d = d.pid == pid && d.number == number

-- the descriptor of that number of a process, where it is followed
abbrev pub descriptor_of : ℕ → ℕ → Parts → Option Descriptor
descriptor_of pid number p = find (is_descriptor pid number) p.descriptors

-- a descriptor of the process is followed
abbrev pub has_descriptor : ℕ → Parts → Bool
has_descriptor pid p = list_any (is_of pid) p.descriptors

-- the descriptor isn't followed any more
abbrev pub without_descriptor : ℕ → ℕ → Parts → Parts
without_descriptor pid number p = record p { descriptors = filter (λ d. not (is_descriptor pid number d)) p.descriptors }

-- the descriptor comes before the other one
abbrev pub descriptor_before : Descriptor → Descriptor → Bool
descriptor_before d other = nat_lt d.pid other.pid || (d.pid == other.pid && nat_lt d.number other.number)

-- the descriptor is followed, in the place of any of its number
abbrev pub with_descriptor : Descriptor → Parts → Parts
with_descriptor new p = record p { descriptors = put descriptor_before new p.descriptors }

-- an execve of the process closes the descriptor
abbrev pub is_closed_at_exec : ℕ → Descriptor → Bool
is_closed_at_exec pid d = d.pid == pid && d.until_exec

-- what an execve of the process leaves (execve(2), "Effect on process attributes")
abbrev pub after_exec : ℕ → Parts → Parts
after_exec pid p = record p { descriptors = filter (λ d. not (is_closed_at_exec pid d)) p.descriptors }

-- a descriptor as the child's (fork(2))
abbrev pub copied_to : ℕ → Descriptor → Descriptor
copied_to child d = record d { pid = child }

-- the copies of a process's descriptors as its child's
abbrev pub copies_for : ℕ → ℕ → Parts → List Descriptor
copies_for parent child p = map (copied_to child) (filter (is_of parent) p.descriptors)

-- ---- births and ends
-- the process with descriptors that it shares, where it has given such a birth
abbrev pub sharing_task : ℕ → Bool → Task → Task
sharing_task pid shares task = if is_task pid task then record task { shares = task.shares || shares } else task

-- what a birth leaves: the child in this user namespace, with the parent's descriptors or with copies of them
abbrev pub after_birth : ℕ → ℕ → ℕ → Bool → Parts → Parts
after_birth parent child space shares p = record p {
  tasks = put task_before (record { pid = child; space = space; shares = shares }) (map (sharing_task parent shares) p.tasks);
  descriptors = if shares then p.descriptors else put_all descriptor_before (copies_for parent child p) p.descriptors;
}

-- what a birth in a new user namespace leaves
abbrev pub after_user_birth : ℕ → ℕ → Bool → Parts → Parts
after_user_birth parent child shares p =
    let born = after_birth parent child p.spaces shares p in record born { spaces = p.spaces + 1 }

-- what the end of a process leaves
abbrev pub after_end : ℕ → Parts → Parts
after_end pid p = record p {
  tasks = filter (λ task. not (is_task pid task)) p.tasks;
  kept = filter (λ kept. not (is_kept pid kept)) p.kept;
  descriptors = filter (λ d. not (is_of pid d)) p.descriptors;
}

-- The pids that are noted, in slots by their remainders.
use Rattle.std.specs.Prelude.{◌≡◌, ℕ, ◌+◌, ◌/◌, ◌%◌, ◌==◌, Bool, true, false, List, find, is_some, slice_index}
use Rattle.std.specs.List.{list_any}
use Rattle.model_strace.specs.Parts.{Descriptor, Task, is_of, is_task}

-- how many slots there are
abbrev pub slot_count : ℕ
slot_count = 4096

-- the slot of a pid
abbrev pub slot_of : ℕ → ℕ
slot_of pid = pid % slot_count

-- what its slot holds where the pid is noted
abbrev pub mark_of : ℕ → ℕ
mark_of pid = pid / slot_count + 1

-- the pid is noted
unfoldable pub notes : List ℕ → ℕ → Bool
notes slots pid = slice_index slots (slot_of pid) == mark_of pid

-- Each pid that is noted is that of a process.
pub record NotesKnown (slots : List ℕ) (ts : List Task) : Type 0 where
  pub known : (pid : ℕ) → notes slots pid ≡ true → is_some (find (is_task pid) ts) ≡ true

-- None of these descriptors is that of a process whose pid is noted.
pub record NotesBare (slots : List ℕ) (ds : List Descriptor) : Type 0 where
  pub bare : (pid : ℕ) → notes slots pid ≡ true → list_any (is_of pid) ds ≡ false

-- The orders of what is known, the count of descriptors, and the pids that are noted; and the same at a savepoint.
use Rattle.std.specs.Prelude.{◌≡◌, ℕ, length, List, Option, Some, None, is_some, IfSome}
use Rattle.cm_strace_parts.specs.Slots.{NotesBare, NotesKnown}
use Rattle.cm_strace_parts.specs.Lists.{FdList, ListsInOrder, descriptors_in}
use Rattle.cm_ordered.specs.Undone.{Tracked}
use Rattle.model_strace.specs.Parts.{Parts, Task, Kept}

-- The descriptors stand in their orders, and so many are followed.
pub record Counted (fs : List FdList) (followed : ℕ) : Type 0 where
  pub files : ListsInOrder fs
  pub count : followed ≡ length (descriptors_in fs)

-- A savepoint is set for all lists or for none, and the descriptors stood in their orders there, and so many were
-- followed.
pub record SavedInOrder (ts : Option (List Task)) (ks : Option (List Kept)) (fs : Option (List FdList)) (followed : ℕ) : Type 0 where
  pub kept : is_some ks ≡ is_some ts
  pub files : is_some fs ≡ is_some ts
  pub counted : IfSome fs (λ fs. Counted fs followed)

-- Such lists, and each pid that is noted as known is, and each that is noted as bare has no descriptor that is
-- followed.
pub record InOrder (ts : Tracked Task) (ks : Tracked Kept) (fs : Tracked FdList) (followed saved_followed : ℕ)
    (known_slots bare_slots : List ℕ) : Type 0 where
  pub counted : Counted fs.items followed
  pub saved : SavedInOrder ts.saved ks.saved fs.saved saved_followed
  pub noted : NotesKnown known_slots ts.items
  pub bare : NotesBare bare_slots (descriptors_in fs.items)

-- what was known at the savepoint, where one is set
abbrev pub saved_parts : Option (List Task) → Option (List Kept) → Option (List FdList) → ℕ → Option Parts
saved_parts None ks fs spaces = None
saved_parts (Some ts) None fs spaces = None
saved_parts (Some ts) (Some ks) None spaces = None
saved_parts (Some ts) (Some ks) (Some fs) spaces = Some (record {
  tasks = ts;
  kept = ks;
  descriptors = descriptors_in fs;
  spaces = spaces;
})

-- What is left of a process's list at its place, where a filter takes some of its descriptors.
use Rattle.std.proofs.Common.{◌≡◌, ◌∙◌, ℕ, Bool, true, false, filter, List, ap, get_or, slice_set}
use Rattle.cm_ordered.specs.Order.{IsCut, StandsAt, is_at, others_by}
use Rattle.cm_ordered.proofs.Order.{filter_ascends}
use Rattle.cm_strace_parts.specs.Lists.{Fd, FdList, ListsInOrder, descriptors_in, fd_before, fds_of, files_below}
use Rattle.cm_strace_parts.specs.Lists.{files_pid, is_files, of_process}
use Rattle.cm_strace_parts.proofs.ListOrders.{changed_here, changed_stands, none_at, own_ascends, put_leaves}
use Rattle.cm_strace_parts.proofs.Lists.{left_in, none_left_in, none_of}
use Rattle.model_strace.specs.Parts.{Descriptor, is_of}

-- The lists stand in their orders, with that list in its place; of all descriptors those are left, and the lists of the
-- other processes.
pub record LeftAt (pid : ℕ) (left : Descriptor → Bool) (fs gs : List FdList) (at : ℕ) : Type 0 where
  pub ordered : ListsInOrder gs
  pub items : descriptors_in gs ≡ filter left (descriptors_in fs)
  pub stands : StandsAt (is_files pid) gs at
  pub others : others_by files_pid pid gs ≡ others_by files_pid pid fs

pub left_at : {f g : FdList} (keeps : Fd → Bool) (left : Descriptor → Bool) (pid : ℕ) (fs : List FdList) (at : ℕ)
    → ListsInOrder fs → IsCut (files_below pid) fs at → is_at (is_files pid) fs at ≡ true → f ≡ get_or fs at f
    → g ≡ record f { fds = filter keeps f.fds } → ((fd : Fd) → left (of_process pid fd) ≡ keeps fd)
    → ((d : Descriptor) → is_of pid d ≡ false → left d ≡ true) → LeftAt pid left fs (slice_set fs at g) at
left_at {f = f} {g = g} keeps left pid fs at order cut here is made own others =
    let changed = changed_here (filter keeps) pid fs at f g order.processes cut here is made in
    let rest = put_leaves pid (filter keeps (fds_of pid fs)) fs (filter_ascends fd_before keeps (fds_of pid fs)
    (own_ascends pid fs order.each)) order in
    record {
      ordered = rw changed rest.ordered;
      items = ap descriptors_in changed ∙ left_in pid keeps left fs order.processes own others;
      stands = changed_stands pid fs at f g order.processes cut here is (ap (λ (f : FdList). f.pid) made);
      others = ap (others_by files_pid pid) changed ∙ rest.others;
    }

-- and where the process has no list
pub none_left_at : (left : Descriptor → Bool) (pid : ℕ) (fs : List FdList) (at : ℕ) → ListsInOrder fs
    → IsCut (files_below pid) fs at → is_at (is_files pid) fs at ≡ false
    → ((d : Descriptor) → is_of pid d ≡ false → left d ≡ true) → descriptors_in fs ≡ filter left (descriptors_in fs)
none_left_at left pid fs at order cut isnt others =
    none_left_in pid left fs order.processes (none_of pid fs (none_at pid fs at order.processes cut isnt)) others

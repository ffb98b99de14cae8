-- The lists of processes stay in their orders, and are changed in their places.
use Rattle.std.proofs.Common.{◌≡◌, ◌==◌, ℕ, zero, suc, Bool, true, false, cond, filter, List, [], ◌∷◌}
use Rattle.std.proofs.Common.{refl, sym, ◌∙◌, ap, arith, get_or, slice_set, subst}
use Rattle.std.specs.Prelude.{Result, Ok, Err, IfOk, OnErr}
use Rattle.std.specs.List.{insert, remove}
use Rattle.std.proofs.lemmas.Bool.{cond-true, cond-false}
use Rattle.cm_ordered.specs.Order.{AllSay, Ascends, IsCut, StandsAt, is_at, others_by, put_by}
use Rattle.cm_ordered.proofs.Order.{filter_ascends, removed_ascends, stands, stands_nowhere}
use Rattle.cm_ordered.proofs.Puts.{put_ascends, put_between, put_instead}
use Rattle.cm_ordered.proofs.Undoing.{others_put}
use Rattle.cm_strace_parts.specs.Lists.{Fd, FdList, fd_before, files_pid, is_files, files_before, files_below, fds_of}
use Rattle.cm_strace_parts.specs.Lists.{EachAscends, ListsInOrder, descriptors_in}
use Rattle.cm_strace_parts.proofs.Lists.{none_of}
use Rattle.model_strace.specs.Parts.{Descriptor}

-- ---- the orders
-- the descriptors of a process ascend
pub own_ascends : (pid : ℕ) (fs : List FdList) → EachAscends fs → Ascends fd_before (fds_of pid fs)
own_ascends pid [] each = tt
own_ascends pid (f ∷ fs) each =
    elim (is_files pid f) as (λ b. Ascends fd_before (cond b f.fds (fds_of pid fs))) [
      | true ↦ each.0
      | false ↦ own_ascends pid fs each.1
    ]

each_put : (new : FdList) (fs : List FdList) → Ascends fd_before new.fds → EachAscends fs
    → EachAscends (put_by files_pid new fs)
each_put new [] up each = (up, tt)
each_put new (f ∷ fs) up each =
    elim (files_before new f) as (λ b. EachAscends (cond b (new ∷ f ∷ fs) (cond (files_before f new)
    (f ∷ put_by files_pid new fs) (new ∷ fs)))) [
      | true ↦ (up, each)
      | false ↦ elim (files_before f new) as (λ b. EachAscends (cond b (f ∷ put_by files_pid new fs) (new ∷ fs))) [
        | true ↦ (each.0, each_put new fs up each.1)
        | false ↦ (up, each.1)
      ]
    ]

each_left : (keeps : FdList → Bool) (fs : List FdList) → EachAscends fs → EachAscends (filter keeps fs)
each_left keeps [] each = tt
each_left keeps (f ∷ fs) each =
    elim (keeps f) as (λ b. EachAscends (cond b (f ∷ filter keeps fs) (filter keeps fs))) [
      | true ↦ (each.0, each_left keeps fs each.1)
      | false ↦ each_left keeps fs each.1
    ]

-- with a list put in its place they stand in their orders
pub put_ordered : (new : FdList) (fs : List FdList) → Ascends fd_before new.fds → ListsInOrder fs
    → ListsInOrder (put_by files_pid new fs)
put_ordered new fs up order = record {
  processes = put_ascends files_pid new fs order.processes;
  each = each_put new fs up order.each;
}

-- What a change of one process's descriptors leaves: the lists in their orders, and those of the other processes.
pub record Leaves (pid : ℕ) (old new : List FdList) : Type 0 where
  pub ordered : ListsInOrder new
  pub others : others_by files_pid pid new ≡ others_by files_pid pid old

-- a list put in its place leaves so
pub put_leaves : (pid : ℕ) (fds : List Fd) (fs : List FdList) → Ascends fd_before fds → ListsInOrder fs
    → Leaves pid fs (put_by files_pid (record { pid = pid; fds = fds }) fs)
put_leaves pid fds fs up order = record {
  ordered = put_ordered (record { pid = pid; fds = fds }) fs up order;
  others = others_put files_pid pid (record { pid = pid; fds = fds }) fs refl;
}

-- the same of a change of what stood there, for which memory may have run out
pub put_may_leave : {T E : Type 0} (r : Result T E) (pid : ℕ) (change : List Fd → List Fd) (fs gs : List FdList)
    → IfOk r (λ _. gs ≡ put_by files_pid (record { pid = pid; fds = change (fds_of pid fs) }) fs) → OnErr r (gs ≡ fs)
    → ((fds : List Fd) → Ascends fd_before fds → Ascends fd_before (change fds)) → ListsInOrder fs → Leaves pid fs gs
put_may_leave (Ok x) pid change fs gs is still rises order =
    rw is (put_leaves pid (change (fds_of pid fs)) fs (rises (fds_of pid fs) (own_ascends pid fs order.each)) order)
put_may_leave (Err e) pid change fs gs is still rises order = rw still (record { ordered = order; others = refl })

-- the descriptors are then those of the lists that were made
pub if_made : {T E : Type 0} (r : Result T E) (gs made : List FdList) (ds : List Descriptor) → IfOk r (λ _. gs ≡ made)
    → descriptors_in made ≡ ds → IfOk r (λ _. descriptors_in gs ≡ ds)
if_made (Ok x) gs made ds is are = ap descriptors_in is ∙ are
if_made (Err e) gs made ds is are = tt

-- and so do those that a filter leaves
pub left_ordered : (keeps : FdList → Bool) (fs : List FdList) → ListsInOrder fs → ListsInOrder (filter keeps fs)
left_ordered keeps fs order = record {
  processes = filter_ascends files_before keeps fs order.processes;
  each = each_left keeps fs order.each;
}

-- ---- the places
abbrev pub files_with : ℕ → List Fd → FdList
files_with pid fds = record { pid = pid; fds = fds }

-- the same descriptors of the same process
pub same_files : (pid other : ℕ) (xs ys : List Fd) → pid ≡ other → xs ≡ ys → files_with pid xs ≡ files_with other ys
same_files pid other xs ys same alike = ap (λ p. files_with p xs) same ∙ ap (λ l. files_with other l) alike

-- the list at its place has the descriptors of the process
pub fds_at : (pid : ℕ) (fs : List FdList) (at : ℕ) (f : FdList) → StandsAt (is_files pid) fs at → f ≡ get_or fs at f
    → fds_of pid fs ≡ f.fds
fds_at pid [] at f here is = absurd here
fds_at pid (g ∷ fs) zero f here is = cond-true (is_files pid g) g.fds (fds_of pid fs) here.0
    ∙ ap (λ (f : FdList). f.fds) (sym is)
fds_at pid (g ∷ fs) (suc at) f here is = cond-false (is_files pid g) g.fds (fds_of pid fs) here.0
    ∙ fds_at pid fs at f here.1 is

pub same_at : {A : Type 0} (same : A → Bool) (xs : List A) (at : ℕ) (x : A) → StandsAt same xs at → x ≡ get_or xs at x
    → same x ≡ true
same_at same [] at x here is = absurd here
same_at same (y ∷ xs) zero x here is = ap same is ∙ here.0
same_at same (y ∷ xs) (suc at) x here is = same_at same xs at x here.1 is

-- the list is changed at its place
pub changed_at : (pid : ℕ) (ys : List Fd) (fs : List FdList) (at : ℕ) (f : FdList) → Ascends files_before fs
    → IsCut (files_below pid) fs at → is_at (is_files pid) fs at ≡ true → f ≡ get_or fs at f
    → slice_set fs at (record f { fds = ys }) ≡ put_by files_pid (record { pid = pid; fds = ys }) fs
changed_at pid ys fs at f up cut here is =
    let stands : StandsAt (is_files pid) fs at =
    stands files_pid pid fs at up cut here in
    let same : f.pid ≡ pid = grind (arith, same_at (is_files pid) fs at f stands is) in
    ap (λ p. slice_set fs at (record { pid = p; fds = ys })) same
    ∙ put_instead files_pid (record { pid = pid; fds = ys }) pid fs at refl cut here

-- the descriptors at its place are those of the process
pub own_at : (pid : ℕ) (fs : List FdList) (at : ℕ) (f : FdList) → Ascends files_before fs
    → IsCut (files_below pid) fs at → is_at (is_files pid) fs at ≡ true → f ≡ get_or fs at f → fds_of pid fs ≡ f.fds
own_at pid fs at f up cut here is =
    fds_at pid fs at f (stands files_pid pid fs at up cut here) is

-- they ascend
pub ascends_at : (pid : ℕ) (fs : List FdList) (at : ℕ) (f : FdList) → ListsInOrder fs
    → IsCut (files_below pid) fs at → is_at (is_files pid) fs at ≡ true → f ≡ get_or fs at f → Ascends fd_before f.fds
ascends_at pid fs at f order cut here is =
    subst (λ l. Ascends fd_before l) (own_at pid fs at f order.processes cut here is) (own_ascends pid fs order.each)

-- the list is changed at its place
pub changed_here : (change : List Fd → List Fd) (pid : ℕ) (fs : List FdList) (at : ℕ) (f g : FdList)
    → Ascends files_before fs → IsCut (files_below pid) fs at → is_at (is_files pid) fs at ≡ true
    → f ≡ get_or fs at f → g ≡ record f { fds = change f.fds }
    → slice_set fs at g ≡ put_by files_pid (record { pid = pid; fds = change (fds_of pid fs) }) fs
changed_here change pid fs at f g up cut here is changed =
    ap (λ g. slice_set fs at g) changed ∙ changed_at pid (change f.fds) fs at f up cut here is
    ∙ ap (λ l. put_by files_pid (record { pid = pid; fds = change l }) fs) (sym (own_at pid fs at f up cut here is))

-- one of its process stands there then
pub set_stands : {A : Type 0} (same : A → Bool) (xs : List A) (at : ℕ) (x : A) → StandsAt same xs at → same x ≡ true
    → StandsAt same (slice_set xs at x) at
set_stands same [] at x here is = absurd here
set_stands same (y ∷ xs) zero x here is = (is, here.1)
set_stands same (y ∷ xs) (suc at) x here is = (here.0, set_stands same xs at x here.1 is)

pub changed_stands : (pid : ℕ) (fs : List FdList) (at : ℕ) (f g : FdList) → Ascends files_before fs
    → IsCut (files_below pid) fs at → is_at (is_files pid) fs at ≡ true → f ≡ get_or fs at f → g.pid ≡ f.pid
    → StandsAt (is_files pid) (slice_set fs at g) at
changed_stands pid fs at f g up cut here is keeps =
    let stands : StandsAt (is_files pid) fs at =
    stands files_pid pid fs at up cut here in
    set_stands (is_files pid) fs at g stands (ap (λ n. n == pid) keeps ∙ same_at (is_files pid) fs at f stands is)

-- no list stands at its place: the process has no descriptors
pub none_at : (pid : ℕ) (fs : List FdList) (at : ℕ) → Ascends files_before fs
    → IsCut (files_below pid) fs at → is_at (is_files pid) fs at ≡ false → AllSay (is_files pid) false fs
none_at pid fs at up cut isnt = stands_nowhere files_pid pid fs at up cut isnt

-- a list is made at its place
pub inserted_here : (change : List Fd → List Fd) (pid : ℕ) (fs : List FdList) (at : ℕ) (g : FdList)
    → Ascends files_before fs → IsCut (files_below pid) fs at → is_at (is_files pid) fs at ≡ false
    → g ≡ record { pid = pid; fds = change [] }
    → insert fs at g ≡ put_by files_pid (record { pid = pid; fds = change (fds_of pid fs) }) fs
inserted_here change pid fs at g up cut isnt made =
    ap (λ g. insert fs at g) made
    ∙ put_between files_pid (record { pid = pid; fds = change [] }) pid fs at refl cut isnt
    ∙ ap (λ l. put_by files_pid (record { pid = pid; fds = change l }) fs)
    (sym (none_of pid fs (none_at pid fs at up cut isnt)))

-- ---- one goes
each_removed : (fs : List FdList) (at : ℕ) → EachAscends fs → EachAscends (remove fs at)
each_removed [] zero each = tt
each_removed [] (suc at) each = tt
each_removed (f ∷ fs) zero each = each.1
each_removed (f ∷ fs) (suc at) each = (each.0, each_removed fs at each.1)

-- with one list less they stand in their orders
pub removed_ordered : (fs : List FdList) (at : ℕ) → ListsInOrder fs → ListsInOrder (remove fs at)
removed_ordered fs at order = record {
  processes = removed_ascends files_before fs at order.processes;
  each = each_removed fs at order.each;
}

-- The descriptors of a process among those of all.
use Rattle.std.proofs.Common.{◌≡◌, ℕ, zero, suc, ◌<◌, ◌+◌, ◌==◌, Bool, true, false, not, cond, nat_lt}
use Rattle.std.proofs.Common.{take, get_or, filter, find, map, length}
use Rattle.std.proofs.Common.{List, [], ◌∷◌, ◌++◌, refl, sym, ◌∙◌, ap, arith, append_assoc}
use Rattle.std.specs.Prelude.{option_map}
use Rattle.std.specs.List.{list_any, remove}
use Rattle.std.proofs.lemmas.List.{take_more, length-append, length-map}
use Rattle.std.proofs.lemmas.Bool.{cond-true, cond-false}
use Rattle.cm_ordered.specs.Order.{AllSay, Ascends, is_at, put_by}
use Rattle.cm_ordered.proofs.Among.{all_append, all_changed, filter_among, filter_only, filter_changed, filter_past}
use Rattle.cm_ordered.proofs.Among.{filter_after, find_past, find_before, find_changed, any_past, any_none}
use Rattle.cm_ordered.proofs.Order.{all_along}
use Rattle.cm_strace_parts.specs.Lists.{Fd, FdList, of_process, descriptors_in, is_fd, fd_before, fd_number, files_pid}
use Rattle.cm_strace_parts.specs.Lists.{is_files, files_before, fds_of}
use Rattle.cm_strace_parts.proofs.Among.{put_among, put_changed, put_same, put_all_among, put_all_changed}
use Rattle.model_strace.specs.Parts.{Descriptor, is_of, is_descriptor, copied_to, descriptor_before}
use Rattle.model_strace.specs.Parts.{put, put_all}

-- ---- where they stand
-- How the descriptors of a process stand: after those of lower pids, and before those of higher ones. Other ones of the
-- process stand in their place.
pub record Stand (pid : ℕ) (fs : List FdList) : Type 0 where
  pub front : List Descriptor
  pub back : List Descriptor
  pub lower : AllSay (λ d. nat_lt d.pid pid) true front
  pub higher : AllSay (λ d. nat_lt pid d.pid) true back
  pub whole : descriptors_in fs ≡ front ++ (map (of_process pid) (fds_of pid fs) ++ back)
  pub changed : (ys : List Fd) → descriptors_in (put_by files_pid (record { pid = pid; fds = ys }) fs)
      ≡ front ++ (map (of_process pid) ys ++ back)

higher_in : (pid : ℕ) (fs : List FdList) → AllSay (λ f. nat_lt pid f.pid) true fs
    → AllSay (λ d. nat_lt pid d.pid) true (descriptors_in fs)
higher_in pid [] all = tt
higher_in pid (f ∷ fs) all = all_append (λ d. nat_lt pid d.pid) true (map (of_process f.pid) f.fds) (descriptors_in fs)
    (all_changed (λ d. nat_lt pid d.pid) true (of_process f.pid) f.fds (λ fd. all.0)) (higher_in pid fs all.1)

-- a process without a list has no descriptors
pub none_of : (pid : ℕ) (fs : List FdList) → AllSay (is_files pid) false fs → fds_of pid fs ≡ []
none_of pid [] none = refl
none_of pid (f ∷ fs) none = cond-false (is_files pid f) f.fds (fds_of pid fs) none.0 ∙ none_of pid fs none.1

stand_first : (pid : ℕ) (f : FdList) (fs : List FdList) → nat_lt pid f.pid ≡ true → AllSay (files_before f) true fs
    → Stand pid (f ∷ fs)
stand_first pid f fs first later =
    let above : AllSay (λ g. nat_lt pid g.pid) true (f ∷ fs) = (
      first,
      all_along (files_before f) (λ g. nat_lt pid g.pid) true true fs (λ g h. grind (arith, first, h)) later,
    ) in
    let none : AllSay (is_files pid) false (f ∷ fs) =
    all_along (λ g. nat_lt pid g.pid) (is_files pid) true false (f ∷ fs) (λ g h. grind (arith, h)) above in
    record {
      front = [];
      back = descriptors_in (f ∷ fs);
      lower = tt;
      higher = higher_in pid (f ∷ fs) above;
      whole = sym (ap (λ l. map (of_process pid) l ++ descriptors_in (f ∷ fs)) (none_of pid (f ∷ fs) none));
      changed = λ ys. ap descriptors_in (cond-true (nat_lt pid f.pid) _ _ first);
    }

stand_later : (pid : ℕ) (f : FdList) (fs : List FdList) → nat_lt f.pid pid ≡ true → Stand pid fs → Stand pid (f ∷ fs)
stand_later pid f fs lower rest =
    let own : List Descriptor = map (of_process f.pid) f.fds in
    let apart : is_files pid f ≡ false = grind (arith, lower) in
    let later : nat_lt pid f.pid ≡ false = grind (arith, lower) in
    record {
      front = own ++ rest.front;
      back = rest.back;
      lower = all_append (λ d. nat_lt d.pid pid) true own rest.front
          (all_changed (λ d. nat_lt d.pid pid) true (of_process f.pid) f.fds (λ fd. lower)) rest.lower;
      higher = rest.higher;
      whole = ap (λ l. own ++ l) rest.whole ∙ sym (append_assoc own rest.front _)
          ∙ ap (λ l. (own ++ rest.front) ++ (map (of_process pid) l ++ rest.back))
          (sym (cond-false (is_files pid f) f.fds (fds_of pid fs) apart));
      changed = λ ys. ap descriptors_in (cond-false (nat_lt pid f.pid) _ _ later ∙ cond-true (nat_lt f.pid pid) _ _ lower)
          ∙ ap (λ l. own ++ l) (rest.changed ys) ∙ sym (append_assoc own rest.front _);
    }

stand_here : (pid : ℕ) (f : FdList) (fs : List FdList) → nat_lt pid f.pid ≡ false → nat_lt f.pid pid ≡ false
    → AllSay (files_before f) true fs → Stand pid (f ∷ fs)
stand_here pid f fs later lower after =
    let same : f.pid ≡ pid = grind (arith, later, lower) in
    let is : is_files pid f ≡ true = grind (arith, same) in
    record {
      front = [];
      back = descriptors_in fs;
      lower = tt;
      higher = higher_in pid fs (all_along (files_before f) (λ g. nat_lt pid g.pid) true true fs
          (λ g h. grind (arith, same, h)) after);
      whole = ap (λ p. map (of_process p) f.fds ++ descriptors_in fs) same
          ∙ ap (λ l. map (of_process pid) l ++ descriptors_in fs)
          (sym (cond-true (is_files pid f) f.fds (fds_of pid fs) is));
      changed = λ ys. ap descriptors_in (cond-false (nat_lt pid f.pid) _ _ later ∙ cond-false (nat_lt f.pid pid) _ _ lower);
    }

-- the descriptors of each process stand so
pub stand : (pid : ℕ) (fs : List FdList) → Ascends files_before fs → Stand pid fs
stand pid [] up = record {
  front = [];
  back = [];
  lower = tt;
  higher = tt;
  whole = refl;
  changed = λ ys. refl;
}
stand pid (f ∷ fs) up =
    (elim (nat_lt pid f.pid) as (λ b. nat_lt pid f.pid ≡ b → Stand pid (f ∷ fs)) [
      | true ↦ λ first. stand_first pid f fs first up.0
      | false ↦ λ later. (elim (nat_lt f.pid pid) as (λ b. nat_lt f.pid pid ≡ b → Stand pid (f ∷ fs)) [
        | true ↦ λ lower. stand_later pid f fs lower (stand pid fs up.1)
        | false ↦ λ lower. stand_here pid f fs later lower up.0
      ]) refl
    ]) refl

-- ---- what is known of a process's
-- the descriptor of a number
pub found_in : (pid number : ℕ) (fs : List FdList) → Ascends files_before fs
    → find (is_descriptor pid number) (descriptors_in fs) ≡ option_map (of_process pid) (find (is_fd number)
    (fds_of pid fs))
found_in pid number fs up =
    let s = stand pid fs up in
    let own = map (of_process pid) (fds_of pid fs) in
    ap (find (is_descriptor pid number)) s.whole
    ∙ find_past (is_descriptor pid number) s.front (own ++ s.back)
    (all_along (λ d. nat_lt d.pid pid) (is_descriptor pid number) true false s.front (λ d h. grind (arith, h)) s.lower)
    ∙ find_before (is_descriptor pid number) own s.back
    (all_along (λ d. nat_lt pid d.pid) (is_descriptor pid number) true false s.back (λ d h. grind (arith, h)) s.higher)
    ∙ find_changed (is_fd number) (is_descriptor pid number) (of_process pid) (fds_of pid fs) (λ fd. grind arith)

any_own : (pid : ℕ) (fds : List Fd) (back : List Descriptor) → AllSay (is_of pid) false back
    → list_any (is_of pid) (map (of_process pid) fds ++ back) ≡ not (length fds == 0)
any_own pid [] back none = any_none (is_of pid) back none
any_own pid (fd ∷ fds) back none = grind arith

-- whether there is one
pub any_in : (pid : ℕ) (fs : List FdList) → Ascends files_before fs
    → list_any (is_of pid) (descriptors_in fs) ≡ not (length (fds_of pid fs) == 0)
any_in pid fs up =
    let s = stand pid fs up in
    ap (list_any (is_of pid)) s.whole
    ∙ any_past (is_of pid) s.front (map (of_process pid) (fds_of pid fs) ++ s.back)
    (all_along (λ d. nat_lt d.pid pid) (is_of pid) true false s.front (λ d h. grind (arith, h)) s.lower)
    ∙ any_own pid (fds_of pid fs) s.back
    (all_along (λ d. nat_lt pid d.pid) (is_of pid) true false s.back (λ d h. grind (arith, h)) s.higher)

-- all of them
pub own_in : (pid : ℕ) (fs : List FdList) → Ascends files_before fs
    → filter (is_of pid) (descriptors_in fs) ≡ map (of_process pid) (fds_of pid fs)
own_in pid fs up =
    let s = stand pid fs up in
    ap (filter (is_of pid)) s.whole
    ∙ filter_only (is_of pid) s.front (map (of_process pid) (fds_of pid fs)) s.back
    (all_along (λ d. nat_lt d.pid pid) (is_of pid) true false s.front (λ d h. grind (arith, h)) s.lower)
    (all_changed (is_of pid) true (of_process pid) (fds_of pid fs) (λ fd. grind arith))
    (all_along (λ d. nat_lt pid d.pid) (is_of pid) true false s.back (λ d h. grind (arith, h)) s.higher)

-- ---- changes
-- what is left of all descriptors, where those of other processes are
pub left_in : (pid : ℕ) (keeps : Fd → Bool) (left : Descriptor → Bool) (fs : List FdList) → Ascends files_before fs
    → ((fd : Fd) → left (of_process pid fd) ≡ keeps fd)
    → ((d : Descriptor) → is_of pid d ≡ false → left d ≡ true)
    → descriptors_in (put_by files_pid (record { pid = pid; fds = filter keeps (fds_of pid fs) }) fs)
    ≡ filter left (descriptors_in fs)
left_in pid keeps left fs up own others =
    let s = stand pid fs up in
    s.changed (filter keeps (fds_of pid fs))
    ∙ ap (λ l. s.front ++ (l ++ s.back)) (filter_changed keeps left (of_process pid) (fds_of pid fs) own)
    ∙ sym (filter_among left s.front (map (of_process pid) (fds_of pid fs)) s.back
    (all_along (λ d. nat_lt d.pid pid) left true true s.front (λ d h. others d (grind (arith, h))) s.lower)
    (all_along (λ d. nat_lt pid d.pid) left true true s.back (λ d h. others d (grind (arith, h))) s.higher))
    ∙ ap (filter left) (sym s.whole)

-- and where the process has none
pub none_left_in : (pid : ℕ) (left : Descriptor → Bool) (fs : List FdList) → Ascends files_before fs
    → fds_of pid fs ≡ [] → ((d : Descriptor) → is_of pid d ≡ false → left d ≡ true)
    → descriptors_in fs ≡ filter left (descriptors_in fs)
none_left_in pid left fs up none others =
    let s = stand pid fs up in
    let whole : descriptors_in fs ≡ s.front ++ ([] ++ s.back) =
    s.whole ∙ ap (λ l. s.front ++ (map (of_process pid) l ++ s.back)) none in
    whole
    ∙ sym (filter_among left s.front [] s.back
    (all_along (λ d. nat_lt d.pid pid) left true true s.front (λ d h. others d (grind (arith, h))) s.lower)
    (all_along (λ d. nat_lt pid d.pid) left true true s.back (λ d h. others d (grind (arith, h))) s.higher))
    ∙ ap (filter left) (sym whole)

-- one is put in its place
pub put_in : (pid : ℕ) (new : Fd) (fs : List FdList) → Ascends files_before fs
    → descriptors_in (put_by files_pid (record { pid = pid; fds = put_by fd_number new (fds_of pid fs) }) fs)
    ≡ put descriptor_before (of_process pid new) (descriptors_in fs)
put_in pid new fs up =
    let s = stand pid fs up in
    let d : Descriptor = of_process pid new in
    s.changed (put_by fd_number new (fds_of pid fs))
    ∙ ap (λ l. s.front ++ (map (of_process pid) l ++ s.back)) (put_same fd_number new (fds_of pid fs))
    ∙ ap (λ l. s.front ++ (l ++ s.back)) (put_changed fd_before descriptor_before (of_process pid) new (fds_of pid fs)
    (λ x y. grind arith))
    ∙ sym (put_among descriptor_before d s.front (map (of_process pid) (fds_of pid fs)) s.back
    (all_along (λ x. nat_lt x.pid pid) (λ x. descriptor_before x d) true true s.front (λ x h. grind (arith, h)) s.lower)
    (all_along (λ x. nat_lt x.pid pid) (descriptor_before d) true false s.front (λ x h. grind (arith, h)) s.lower)
    (all_along (λ x. nat_lt pid x.pid) (descriptor_before d) true true s.back (λ x h. grind (arith, h)) s.higher))
    ∙ ap (put descriptor_before d) (sym s.whole)

-- copies are put in their places
pub put_all_in : (pid : ℕ) (news : List Fd) (fs : List FdList) → Ascends files_before fs
    → descriptors_in (put_by files_pid (record { pid = pid; fds = put_all fd_before news (fds_of pid fs) }) fs)
    ≡ put_all descriptor_before (map (of_process pid) news) (descriptors_in fs)
put_all_in pid news fs up =
    let s = stand pid fs up in
    s.changed (put_all fd_before news (fds_of pid fs))
    ∙ ap (λ l. s.front ++ (l ++ s.back)) (put_all_changed fd_before descriptor_before (of_process pid) news
    (fds_of pid fs) (λ x y. grind arith))
    ∙ sym (put_all_among descriptor_before (of_process pid) news s.front (map (of_process pid) (fds_of pid fs)) s.back
    (λ new. all_along (λ x. nat_lt x.pid pid) (λ x. descriptor_before x (of_process pid new)) true true s.front
    (λ x h. grind (arith, h)) s.lower)
    (λ new. all_along (λ x. nat_lt x.pid pid) (descriptor_before (of_process pid new)) true false s.front
    (λ x h. grind (arith, h)) s.lower)
    (λ new. all_along (λ x. nat_lt pid x.pid) (descriptor_before (of_process pid new)) true true s.back
    (λ x h. grind (arith, h)) s.higher))
    ∙ ap (put_all descriptor_before (map (of_process pid) news)) (sym s.whole)

copied : (parent child : ℕ) (fds : List Fd) → map (copied_to child) (map (of_process parent) fds)
    ≡ map (of_process child) fds
copied parent child [] = refl
copied parent child (fd ∷ fds) = ap (λ l. of_process child fd ∷ l) (copied parent child fds)

-- the copies of a process's descriptors as its child's
pub copies_in : (parent child : ℕ) (fs : List FdList) → Ascends files_before fs
    → map (copied_to child) (filter (is_of parent) (descriptors_in fs)) ≡ map (of_process child) (fds_of parent fs)
copies_in parent child fs up = ap (map (copied_to child)) (own_in parent fs up) ∙ copied parent child (fds_of parent fs)

-- ---- the end of a process
-- the lists of the others have all descriptors but the process's
pub others_in : (pid : ℕ) (fs : List FdList)
    → descriptors_in (filter (λ f. not (is_files pid f)) fs) ≡ filter (λ d. not (is_of pid d)) (descriptors_in fs)
others_in pid [] = refl
others_in pid (f ∷ fs) =
    let own : List Descriptor = map (of_process f.pid) f.fds in
    (elim (is_files pid f) as (λ b. is_files pid f ≡ b → descriptors_in (cond (not b)
    (f ∷ filter (λ f. not (is_files pid f)) fs) (filter (λ f. not (is_files pid f)) fs))
    ≡ filter (λ d. not (is_of pid d)) (own ++ descriptors_in fs)) [
      | true ↦ λ h. others_in pid fs ∙ sym (filter_past (λ d. not (is_of pid d)) own (descriptors_in fs)
          (all_changed (λ d. not (is_of pid d)) false (of_process f.pid) f.fds (λ fd. grind (arith, h))))
      | false ↦ λ h. ap (λ l. own ++ l) (others_in pid fs) ∙ sym (filter_after (λ d. not (is_of pid d)) own
          (descriptors_in fs) (all_changed (λ d. not (is_of pid d)) true (of_process f.pid) f.fds (λ fd. grind (arith, h))))
    ]) refl

-- ---- lists without descriptors
empty_adds : (pid : ℕ) (fds : List Fd) (ds : List Descriptor) → (length fds == 0) ≡ true
    → ds ≡ map (of_process pid) fds ++ ds
empty_adds pid [] ds empty = refl
empty_adds pid (fd ∷ fds) ds empty = grind (arith, empty)

-- a list without descriptors can go
pub without_empty : (fs : List FdList) (at : ℕ) → is_at (λ f. length f.fds == 0) fs at ≡ true
    → descriptors_in (remove fs at) ≡ descriptors_in fs
without_empty [] at empty = absurd (cc)
without_empty (f ∷ fs) zero empty = empty_adds f.pid f.fds (descriptors_in fs) empty
without_empty (f ∷ fs) (suc at) empty = ap (λ l. map (of_process f.pid) f.fds ++ l) (without_empty fs at empty)

-- ---- how many there are
in_both : (fs gs : List FdList) → descriptors_in (fs ++ gs) ≡ descriptors_in fs ++ descriptors_in gs
in_both [] gs = refl
in_both (f ∷ fs) gs = ap (λ l. map (of_process f.pid) f.fds ++ l) (in_both fs gs)
    ∙ sym (append_assoc (map (of_process f.pid) f.fds) (descriptors_in fs) (descriptors_in gs))

-- those of one process more
pub count_more : (fs : List FdList) (at : ℕ) (f : FdList) → at < length fs → f ≡ get_or fs at f
    → length (descriptors_in (take (at + 1) fs)) ≡ length (descriptors_in (take at fs)) + length f.fds
count_more fs at f within is =
    let more : take (at + 1) fs ≡ take at fs ++ f ∷ [] =
    take_more fs at f within ∙ ap (λ g. take at fs ++ g ∷ []) (sym is) in
    ap (λ l. length (descriptors_in l)) more ∙ ap length (in_both (take at fs) (f ∷ []))
    ∙ length-append (descriptors_in (take at fs)) (map (of_process f.pid) f.fds ++ [])
    ∙ ap (λ n. length (descriptors_in (take at fs)) + n)
    (length-append (map (of_process f.pid) f.fds) [] ∙ grind (arith, length-map f.fds (of_process f.pid)))

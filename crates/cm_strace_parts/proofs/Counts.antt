-- How many descriptors there are after a change of those of one process.
use Rattle.std.proofs.Common.{◌≡◌, ℕ, ◌+◌, Bool, true, false, cond, not, List, [], ◌∷◌, filter, length, map, refl, ◌∙◌, ap, arith, eq-eqb}
use Rattle.std.proofs.lemmas.List.{length-map}
use Rattle.cm_strace_parts.proofs.Lists.{own_in}
use Rattle.cm_strace_parts.specs.InOrder.{Counted}
use Rattle.cm_strace_parts.specs.Lists.{FdList, descriptors_in, fds_of, files_before, of_process, ListsInOrder}
use Rattle.cm_ordered.specs.Order.{Ascends}
use Rattle.model_strace.specs.Parts.{Descriptor, copied_to, descriptor_before, is_closed_at_exec, is_descriptor, is_of, put, put_all}

-- the descriptors of the other processes
abbrev pub others_of : ℕ → List Descriptor → List Descriptor
others_of pid ds = filter (λ d. not (is_of pid d)) ds

-- all are those of a process and the others
parts_count : (pid : ℕ) (ds : List Descriptor) → length ds ≡ length (filter (is_of pid) ds) + length (others_of pid ds)
parts_count pid [] = omega arith
parts_count pid (d ∷ ds) = let rest = parts_count pid ds in grind (arith, rest)

-- where the others stay, the count changes as that of the process does
counted : (pid : ℕ) (new old : List Descriptor) → others_of pid new ≡ others_of pid old
    → length new + length (filter (is_of pid) old) ≡ length old + length (filter (is_of pid) new)
counted pid new old same =
    omega (arith, parts_count pid new, parts_count pid old, ap (λ (ds : List Descriptor). length ds) same)

-- ---- the others stay
pub put_stay : (pid : ℕ) (d : Descriptor) (ds : List Descriptor) → is_of pid d ≡ true
    → others_of pid (put descriptor_before d ds) ≡ others_of pid ds
put_stay pid d [] own = grind (arith, own)
put_stay pid d (old ∷ ds) own = let rest = put_stay pid d ds own in grind (arith, rest, own)

copies_stay : (child : ℕ) (news ds : List Descriptor)
    → others_of child (put_all descriptor_before (map (copied_to child) news) ds) ≡ others_of child ds
copies_stay child [] ds = refl
copies_stay child (d ∷ news) ds =
    copies_stay child news (put descriptor_before (copied_to child d) ds)
    ∙ put_stay child (copied_to child d) ds (eq-eqb child child refl)

filter_stay : (pid : ℕ) (keeps : Descriptor → Bool) → ((d : Descriptor) → is_of pid d ≡ false → keeps d ≡ true)
    → (ds : List Descriptor) → others_of pid (filter keeps ds) ≡ others_of pid ds
filter_stay pid keeps others [] = refl
filter_stay pid keeps others (d ∷ ds) =
    let rest = filter_stay pid keeps others ds in
    let here = others d in
    grind (arith, rest, here)

pub forgotten_stay : (pid number : ℕ) (ds : List Descriptor)
    → others_of pid (filter (λ d. not (is_descriptor pid number d)) ds) ≡ others_of pid ds
forgotten_stay pid number ds = filter_stay pid (λ d. not (is_descriptor pid number d)) (λ d h. grind (arith, h)) ds

pub executed_stay : (pid : ℕ) (ds : List Descriptor)
    → others_of pid (filter (λ d. not (is_closed_at_exec pid d)) ds) ≡ others_of pid ds
executed_stay pid ds = filter_stay pid (λ d. not (is_closed_at_exec pid d)) (λ d h. grind (arith, h)) ds

pub ended_stay : (pid : ℕ) (ds : List Descriptor) → others_of pid (others_of pid ds) ≡ others_of pid ds
ended_stay pid ds = filter_stay pid (λ d. not (is_of pid d)) (λ d h. grind (arith, h)) ds

-- a child has copies of its parent's, unless it shares them
pub born_stay : (shares : Bool) (child : ℕ) (news ds : List Descriptor)
    → others_of child (cond shares ds (put_all descriptor_before (map (copied_to child) news) ds)) ≡ others_of child ds
born_stay true child news ds = refl
born_stay false child news ds = copies_stay child news ds

-- ---- the counts
-- what is asked for to count anew after a change that leaves the descriptors of the other processes: `made` became of
-- those in `fs`, and `own` were the process's
pub recounted : {fs : List FdList} {all : ℕ} (pid own : ℕ) (before after gs : List FdList) (made : List Descriptor)
    → Counted fs all → before ≡ fs → after ≡ gs → own ≡ length (filter (is_of pid) (descriptors_in before))
    → descriptors_in gs ≡ made → others_of pid made ≡ others_of pid (descriptors_in fs)
    → length (descriptors_in after) + own ≡ all + length (filter (is_of pid) (descriptors_in after))
recounted {fs = fs} pid own before after gs made was there here part is stay =
    rw (here, is, part, there, was.count) (counted pid made (descriptors_in fs) stay)

-- and so they are counted then
pub counted_anew : {fs gs : List FdList} {all : ℕ} → ListsInOrder fs → gs ≡ fs → all ≡ length (descriptors_in gs)
    → Counted fs all
counted_anew order is count = record {
  files = order;
  count = count ∙ ap (λ (fs : List FdList). length (descriptors_in fs)) is;
}

-- those of a process are as many as its list has
pub own_count : (pid : ℕ) (fs : List FdList) → Ascends files_before fs
    → length (filter (is_of pid) (descriptors_in fs)) ≡ length (fds_of pid fs)
own_count pid fs up =
    ap (λ (ds : List Descriptor). length ds) (own_in pid fs up) ∙ length-map (fds_of pid fs) (of_process pid)

-- Lists of intervals that grow at their end.
use Rattle.std.proofs.Common.{◌≡◌, ℕ, ◌+◌, ◌-◌, ◌<◌, ◌≤◌, ◌||◌, Bool, true, false, List, [], ◌∷◌, ◌++◌}
use Rattle.std.proofs.Common.{length, take, get_or, set, Option, refl, sym, ap, subst, ◌∙◌, arith}
use Rattle.std.specs.Prelude.{IsTrue, nat_le}
use Rattle.std.specs.Option.{option_map_or}
use Rattle.std.proofs.lemmas.Bool.{leb-true, leb-false}
use Rattle.std.proofs.lemmas.Bool.Decides.{nat_tests}
use Rattle.std.proofs.lemmas.List.{take_all, take_more, take_more_set, length-set}
use Rattle.std.proofs.lemmas.Option.{slice_get-get_or}
use Rattle.std.proofs.Math.Bool.{or_assoc, or-false}
use Rattle.cm_base.specs.Limits.{id_count}
use Rattle.model_cred.specs.Intervals.{Interval, is_between, ids_hold, ascend_from, IsCanonical}
use Rattle.cm_idset.specs.Order.{AllBegun, InOrderFrom, Continues, CanTake, Taken, last_reaches}
use Rattle.cm_idset.specs.Pairs.{joined, reaches}
use Rattle.model_cred.proofs.Intervals.{ascend_parts, ascend_made}

-- two lists, one after the other, hold what the one or the other holds
pub held_appended : (xs ys : List Interval) (id : ℕ) → ids_hold (xs ++ ys) id ≡ (ids_hold xs id || ids_hold ys id)
held_appended [] ys id = refl
held_appended (x ∷ xs) ys id = ap (λ (b : Bool). is_between x id || b) (held_appended xs ys id)
    ∙ sym (or_assoc (is_between x id) (ids_hold xs id) (ids_hold ys id))

pub held_pushed : (xs : List Interval) (i : Interval) (id : ℕ) → ids_hold (xs ++ i ∷ []) id ≡ (ids_hold xs id || is_between i id)
held_pushed xs i id = held_appended xs (i ∷ []) id ∙ ap (λ (b : Bool). ids_hold xs id || b) (or-false (is_between i id))

-- Each interval ends before the number, with a number between.
abbrev pub AllBefore : ℕ → List Interval → Type 0
AllBefore high [] = Unit {0}
AllBefore high (i ∷ list) = (i.last + 2 ≤ high) × AllBefore high list

pub before_pushed : (high : ℕ) (list : List Interval) (i : Interval) → AllBefore high list → i.last + 2 ≤ high → AllBefore high (list ++ i ∷ [])
before_pushed high [] i before last = (last, tt)
before_pushed high (j ∷ list) i before last = (before.0, before_pushed high list i before.1 last)

-- intervals that ascend do so with one more that begins after them all
pub ascend_pushed : (low : ℕ) (list : List Interval) (i : Interval) → IsTrue (ascend_from low list) → AllBefore i.first list
    → low ≤ i.first → i.first ≤ i.last → i.last < id_count → IsTrue (ascend_from low (list ++ i ∷ []))
ascend_pushed low [] i is before above full ids = ascend_made low i [] (record { above = above; full = full; ids = ids; rest = refl })
ascend_pushed low (j ∷ list) i is before above full ids =
    let a = ascend_parts low j list is in
    ascend_made low j (list ++ i ∷ [])
    (record { above = a.above; full = a.full; ids = a.ids; rest = ascend_pushed (j.last + 2) list i a.rest before.1 before.0 full ids })

pub canonical_pushed : (list : List Interval) (i : Interval) → IsCanonical list
    → AllBefore i.first list → i.first ≤ i.last → i.last < id_count → IsCanonical (list ++ i ∷ [])
canonical_pushed list i is before full ids = ascend_pushed 0 list i is before (omega arith) full ids

-- ---- the last interval
pub split_last : (list : List Interval) (d : Interval) → 0 < length list → list ≡ take (length list - 1) list ++ get_or list (length list - 1) d ∷ []
split_last list d some =
    sym (take_all (length list - 1 + 1) list (omega arith)) ∙ take_more list (length list - 1) d (omega arith)

pub set_last : (list : List Interval) (i : Interval) → 0 < length list → set list (length list - 1) i ≡ take (length list - 1) list ++ i ∷ []
set_last list i some =
    sym (take_all (length list - 1 + 1) (set list (length list - 1) i) (omega (arith, length-set list (length list - 1) i)))
    ∙ take_more_set list (length list - 1) i (omega arith)

-- what ascends up to an interval ends before what begins after it
last_above : (low : ℕ) (list : List Interval) (i : Interval) → IsTrue (ascend_from low (list ++ i ∷ [])) → low ≤ i.last
last_above low [] i is = let a = ascend_parts low i [] is in omega (arith, a.above, a.full)
last_above low (j ∷ list) i is =
    let a = ascend_parts low j (list ++ i ∷ []) is in
    let rest = last_above (j.last + 2) list i a.rest in
    omega (arith, a.above, a.full, rest)

all_before : (low high : ℕ) (list : List Interval) (i : Interval)
    → IsTrue (ascend_from low (list ++ i ∷ [])) → i.last + 2 ≤ high → AllBefore high (list ++ i ∷ [])
all_before low high [] i is last = (last, tt)
all_before low high (j ∷ list) i is last =
    let a = ascend_parts low j (list ++ i ∷ []) is in
    let above = last_above (j.last + 2) list i a.rest in
    (omega (arith, above, last), all_before (j.last + 2) high list i a.rest last)

-- the last interval may end later
ascend_longer : (low : ℕ) (list : List Interval) (i longer : Interval) → IsTrue (ascend_from low (list ++ i ∷ [])) → longer.first ≡ i.first
    → i.last ≤ longer.last → longer.last < id_count → IsTrue (ascend_from low (list ++ longer ∷ []))
ascend_longer low [] i longer is first last ids =
    let a = ascend_parts low i [] is in
    ascend_made low longer [] (record { above = omega (arith, a.above); full = omega (arith, a.full); ids = ids; rest = refl })
ascend_longer low (j ∷ list) i longer is first last ids =
    let a = ascend_parts low j (list ++ i ∷ []) is in
    ascend_made low j (list ++ longer ∷ []) (record {
      above = a.above;
      full = a.full;
      ids = a.ids;
      rest = ascend_longer (j.last + 2) list i longer a.rest first last ids;
    })

-- where all have begun
pub begun_later : (low high : ℕ) (list : List Interval) → low ≤ high → AllBegun low list → AllBegun high list
begun_later low high [] le begun = tt
begun_later low high (i ∷ list) le begun = (let first = begun.0 in omega arith, begun_later low high list le begun.1)

begun_pushed : (high : ℕ) (list : List Interval) (i : Interval) → AllBegun high list → i.first ≤ high → AllBegun high (list ++ i ∷ [])
begun_pushed high [] i begun first = (first, tt)
begun_pushed high (j ∷ list) i begun first = (begun.0, begun_pushed high list i begun.1 first)

begun_last : (high : ℕ) (list : List Interval) (i : Interval) → AllBegun high (list ++ i ∷ []) → AllBegun high list × (i.first ≤ high)
begun_last high [] i begun = (tt, begun.0)
begun_last high (j ∷ list) i begun = let rest = begun_last high list i begun.1 in ((begun.0, rest.0), rest.1)

-- ---- one more interval
joined_holds : (i next : Interval) (id : ℕ) → i.first ≤ next.first → next.first ≤ i.last + 1
    → is_between (joined i next) id ≡ (is_between i id || is_between next id)
joined_holds i next id begun near = grind (arith, nat_tests)

last_is_id : (low : ℕ) (list : List Interval) (i : Interval) → IsTrue (ascend_from low (list ++ i ∷ [])) → i.last < id_count
last_is_id low [] i is = (ascend_parts low i [] is).ids
last_is_id low (j ∷ list) i is = last_is_id (j.last + 2) list i (ascend_parts low j (list ++ i ∷ []) is).rest

-- the last interval reaches the next one, and takes it in
taken_joined : (front : List Interval) (i next : Interval) → CanTake (front ++ i ∷ []) next
    → next.first ≤ i.last + 1 → Taken (front ++ i ∷ []) next (front ++ joined i next ∷ [])
taken_joined front i next can near =
    let begun : AllBegun next.first front × (i.first ≤ next.first) = begun_last next.first front i can.begun in
    let ids = last_is_id 0 front i can.canonical in
    let longer : Interval = joined i next in
    record {
      canonical = ascend_longer 0 front i longer can.canonical refl (omega arith) (omega (arith, can.ids));
      begun = begun_pushed next.first front longer begun.0 begun.1;
      holds = λ id. held_pushed front longer id ∙ ap (λ (b : Bool). ids_hold front id || b) (joined_holds i next id begun.1 near)
          ∙ sym (or_assoc (ids_hold front id) (is_between i id) (is_between next id))
          ∙ ap (λ (b : Bool). b || is_between next id) (sym (held_pushed front i id));
    }

-- the next interval comes at the end
taken_pushed : (list : List Interval) (next : Interval) → CanTake list next → AllBefore next.first list → Taken list next (list ++ next ∷ [])
taken_pushed list next can before = record {
  canonical = canonical_pushed list next can.canonical before can.full can.ids;
  begun = begun_pushed next.first list next can.begun (omega arith);
  holds = held_pushed list next;
}

-- the last interval of a list that has one, and what is asked of it
last_asked : (list : List Interval) (next : Interval) → 0 < length list
    → last_reaches list next ≡ nat_le next.first ((get_or list (length list - 1) next).last + 1)
last_asked list next some =
    ap (λ (o : Option Interval). option_map_or (λ (last : Interval). reaches last next) o false)
    (slice_get-get_or list (length list - 1) next (omega arith))

-- a list whose last interval reaches the next takes it in there
pub put_joined : (list new : List Interval) (next : Interval) → CanTake list next → true ≡ last_reaches list next
    → ((d : Interval) → new ≡ set list (length list - 1) (joined (get_or list (length list - 1) d) next)) → Taken list next new
put_joined [] new next can asked is = absurd (cc)
put_joined (x ∷ xs) new next can asked is =
    let list : List Interval = x ∷ xs in
    let front : List Interval = take (length list - 1) list in
    let last : Interval = get_or list (length list - 1) next in
    let split : list ≡ front ++ last ∷ [] = split_last list next (omega arith) in
    let near : next.first ≤ last.last + 1 = leb-true next.first (last.last + 1) (sym (last_asked list next (omega arith)) ∙ sym asked) in
    let new_is : new ≡ front ++ joined last next ∷ [] = is next ∙ set_last list (joined last next) (omega arith) in
    let can_split : CanTake (front ++ last ∷ []) next = subst (λ (l : List Interval). CanTake l next) split can in
    subst (λ (l : List Interval). Taken l next new) (sym split)
    (subst (λ (l : List Interval). Taken (front ++ last ∷ []) next l) (sym new_is) (taken_joined front last next can_split near))

-- another list takes it at its end
pub put_pushed : (list new : List Interval) (next : Interval) → CanTake list next
    → false ≡ last_reaches list next → new ≡ list ++ next ∷ [] → Taken list next new
put_pushed list new next can asked is =
    subst (λ (l : List Interval). Taken list next l) (sym is)
    (taken_pushed list next can (ends_before list next can.canonical asked))
  where
    ends_before : (list : List Interval) (next : Interval) → IsCanonical list → false ≡ last_reaches list next → AllBefore next.first list
    ends_before [] next is asked = tt
    ends_before (x ∷ xs) next is asked =
        let list : List Interval = x ∷ xs in
        let front : List Interval = take (length list - 1) list in
        let last : Interval = get_or list (length list - 1) next in
        let split : list ≡ front ++ last ∷ [] = split_last list next (omega arith) in
        let far : last.last + 1 < next.first = leb-false next.first (last.last + 1) (sym (last_asked list next (omega arith)) ∙ sym asked) in
        subst (AllBefore next.first) (sym split) (all_before 0 next.first front last (subst IsCanonical split is) (omega arith))

-- What is left of intervals that are put into a list one by one.
pub record Putting (old more list left : List Interval) : Type 0 where
  pub canonical : IsCanonical list
  pub continues : Continues list left
  pub same : (id : ℕ) → (ids_hold list id || ids_hold left id) ≡ (ids_hold old id || ids_hold more id)

pub continues_on : (list new rest : List Interval) (next : Interval) → Continues list (next ∷ rest) → AllBegun next.first new → Continues new rest
continues_on list new [] next continues begun = tt
continues_on list new (after ∷ rest) next continues begun =
    let order : InOrderFrom next.first (after ∷ rest) = continues.1.3 in
    (begun_later next.first after.first new order.0 begun, (omega arith, order.1, order.2, order.3))

-- one more is put
pub put_next : (old more list new left rest : List Interval) (next : Interval) → left ≡ next ∷ rest → Putting old more list left → Taken list next new
    → Putting old more new rest
put_next old more list new left rest next is p taken =
    let here : Putting old more list (next ∷ rest) = subst (λ (l : List Interval). Putting old more list l) is p in
    record {
      canonical = taken.canonical;
      continues = continues_on list new rest next here.continues taken.begun;
      same = λ id. ap (λ (b : Bool). b || ids_hold rest id) (taken.holds id)
          ∙ or_assoc (ids_hold list id) (is_between next id) (ids_hold rest id) ∙ here.same id;
    }

-- What an index of rows finds, and an index with one row more.
use Rattle.std.proofs.Common.{◌≡◌, ◌≢◌, ℕ, ◌+◌, ◌<◌, ◌≤◌, ◌==◌, ◌||◌, Bool, true, false, length, take, drop}
use Rattle.std.proofs.Common.{◌-◌, ◌∷◌, List, Some, None, sym, ap, subst, ◌∙◌, inl, inr, arith, get_or}
use Rattle.std.specs.Prelude.{IsTrue, bytes_eq, slice_index, nat_lt}
use Rattle.std.specs.List.{insert, list_any, position_or_len}
use Rattle.std.proofs.lemmas.Bool.{cases_Bool, cases_eq, cases_order, cond-true, cond-false, eqb-true, eq-eqb}
use Rattle.std.proofs.lemmas.Bool.{false≢true, lt-ltb, le-ltb, or_left, or_right}
use Rattle.std.proofs.lemmas.List.{get_or-take, get_or_default, length-take, take-append-drop}
use Rattle.std.proofs.lemmas.List.Edits.{length-insert, get_or-insert_below, get_or-insert_at, get_or-insert_above}
use Rattle.std.proofs.lemmas.List.Folds.{Any-from_list_any, list_any-append, list_any_at, list_any_none}
use Rattle.std.proofs.lemmas.List.Sums.{position_or_len_is}
use Rattle.std.proofs.lemmas.Grind.{get_or_default_zero}
use Rattle.std.proofs.Math.Bool.{or_assoc, or_comm}
use Rattle.cm_base.proofs.Texts.{text_other}
use Rattle.cm_files.specs.Fault.{has_path}
use Rattle.cm_files.specs.Index.{Ascend, IsIndex, IsPlace, is_before, no_row, path_at}
use Rattle.cm_files.proofs.Paths.{before_itself, before_through, before_other, equal_path}
use Rattle.model_cred.specs.Files.{FileRow, row_named}

-- ---- by halves
-- the paths up to a place whose path comes before another come before it
pub before_up_to : (rows : List FileRow) (order path : List ℕ) → Ascend rows order → (m : ℕ) → m < length order
    → IsTrue (is_before (path_at rows order m) path) → (k : ℕ) → k < m + 1 → IsTrue (is_before (path_at rows order k) path)
before_up_to rows order path up m within is k low =
    elim (cases_order k m) [
      | inl same ↦ subst (λ i. IsTrue (is_before (path_at rows order i) path)) (sym same) is
      | inr (inl less) ↦ before_through (path_at rows order k) (path_at rows order m) path (up.paths k m less within) is
      | inr (inr more) ↦ absurd (omega arith)
    ]

-- from a place whose path doesn't come before another none does
pub not_before_from : (rows : List FileRow) (order path : List ℕ) → Ascend rows order → (m : ℕ)
    → is_before (path_at rows order m) path ≡ false → (k : ℕ) → m ≤ k → k < length order → is_before (path_at rows order k) path ≡ false
not_before_from rows order path up m is k low within =
    elim (cases_order m k) [
      | inl same ↦ subst (λ i. is_before (path_at rows order i) path ≡ false) same is
      | inr (inl less) ↦
          elim (cases_Bool (is_before (path_at rows order k) path)) [
            | inl wrong ↦ absurd (false≢true (sym is ∙ before_through (path_at rows order m) (path_at rows order k) path (up.paths m k less within) wrong))
            | inr it ↦ it
          ]
      | inr (inr more) ↦ absurd (omega arith)
    ]

-- ---- what is found
-- at another place than its own a path doesn't stand
apart_from : (rows : List FileRow) (order path : List ℕ) (at : ℕ) → Ascend rows order → IsPlace rows order path at
    → (i : ℕ) → i < length order → i ≢ at → path_at rows order i ≢ path
apart_from rows order path at up place i within other same =
    elim (cases_order i at) [
      | inl here ↦ other here
      | inr (inl less) ↦ false≢true (sym (before_itself path) ∙ subst (λ p. is_before p path ≡ true) same (place.below i less))
      | inr (inr more) ↦
          false≢true (sym (place.rest at (omega arith) (omega arith))
          ∙ subst (λ p. is_before (path_at rows order at) p ≡ true) same (up.paths at i more within))
    ]

-- each row that is counted has its place
pub place_of_row : (rows : List FileRow) (count : ℕ) (order : List ℕ) → IsIndex rows count order → (n : ℕ) → n < count
    → (i : ℕ) × (i < length order) × (slice_index order i ≡ n)
place_of_row rows count order index n low = go (Any-from_list_any (λ m. m == n) order (index.whole n low)) where
  go : (k : ℕ) × (x : ℕ) × (k < length order) × (get_or order k x ≡ x) × ((x == n) ≡ true) → (i : ℕ) × (i < length order) × (slice_index order i ≡ n)
  go (k, x, within, is, same) = (k, within, sym (get_or_default_zero order k x within) ∙ is ∙ eqb-true x n same)

-- the first of the counted rows with a path, where those before it have others
position_is : (rows : List FileRow) (count : ℕ) (path : List ℕ) (n : ℕ) → count ≤ length rows → n ≤ count
    → ((k : ℕ) → k < n → (get_or rows k no_row).path ≢ path) → (n < count → (get_or rows n no_row).path ≡ path)
    → position_or_len (λ row. bytes_eq row.path path) (take count rows) ≡ n
position_is rows count path n few low before here =
    let long : length (take count rows) ≡ count = omega (arith, length-take count rows) in
    position_or_len_is (λ row. bytes_eq row.path path) (take count rows) n no_row (omega (arith, long))
    (λ k less. ap (λ (r : FileRow). bytes_eq r.path path) (get_or-take count rows k no_row (omega arith)) ∙ text_other _ path (before k less))
    (λ less. let within : n < count = omega (arith, long) in
    ap (λ (r : FileRow). bytes_eq r.path path) (get_or-take count rows n no_row within) ∙ equal_path _ path (here within))

-- the path of a row is that at its place
path_of_row : (rows : List FileRow) (order : List ℕ) (i n : ℕ) → slice_index order i ≡ n → path_at rows order i ≡ (get_or rows n no_row).path
path_of_row rows order i n is = ap (λ m. (get_or rows m no_row).path) is

-- a path that stands at its place is that of the row whose number stands there
pub found : (rows : List FileRow) (count : ℕ) (order path : List ℕ) (at : ℕ) → IsIndex rows count order → IsPlace rows order path at
    → at < length order → path_at rows order at ≡ path → Some (slice_index order at) ≡ row_named (take count rows) path
found rows count order path at index place within is =
    let n : ℕ = slice_index order at in
    let low : n < count = index.first at within in
    let long : length (take count rows) ≡ count = omega (arith, length-take count rows, index.counted) in
    let others : (k : ℕ) → k < n → (get_or rows k no_row).path ≢ path = λ k less same.
    let there = place_of_row rows count order index k (omega arith) in
    let apart : there.0 ≢ at = λ here. absurd (omega (arith, there.2, ap (slice_index order) here)) in
    apart_from rows order path at index.ascend place there.0 there.1 apart (path_of_row rows order there.0 k there.2 ∙ same) in
    let first : position_or_len (λ row. bytes_eq row.path path) (take count rows) ≡ n =
    position_is rows count path n index.counted (omega arith) others (λ _. is) in
    sym (rw (first, long) (cond-true (nat_lt n count) (Some n) None (lt-ltb n count low)))

-- a path of a counted row is that of the row of its number
pub found_row : (rows : List FileRow) (count : ℕ) (order path : List ℕ) (n : ℕ) → IsIndex rows count order → n < count
    → (get_or rows n no_row).path ≡ path → Some n ≡ row_named (take count rows) path
found_row rows count order path n index low is =
    let there = place_of_row rows count order index n low in
    let at : ℕ = there.0 in
    let here : path_at rows order at ≡ path = path_of_row rows order at n there.2 ∙ is in
    let place : IsPlace rows order path at = record {
      within = omega (arith, there.1);
      below = λ k less. subst (λ p. IsTrue (is_before (path_at rows order k) p)) here (index.ascend.paths k at less there.1);
      rest = not_before_from rows order path index.ascend at (ap (λ p. is_before p path) here ∙ before_itself path);
    } in
    ap Some (sym there.2) ∙ found rows count order path at index place there.1 here

-- so that one of the counted rows has it
pub found_path : (rows : List FileRow) (count : ℕ) (order path : List ℕ) (at : ℕ) → IsIndex rows count order
    → at < length order → path_at rows order at ≡ path → true ≡ has_path path (take count rows)
found_path rows count order path at index within is =
    let n : ℕ = slice_index order at in
    let low : n < count = index.first at within in
    sym (list_any_at (λ row. bytes_eq row.path path) (take count rows) n no_row (omega (arith, length-take count rows, index.counted))
    (ap (λ (r : FileRow). bytes_eq r.path path) (get_or-take count rows n no_row low) ∙ equal_path _ path is))

-- a path that doesn't stand at its place is that of none of them
none_has : (rows : List FileRow) (count : ℕ) (order path : List ℕ) (at : ℕ) → IsIndex rows count order → IsPlace rows order path at
    → (at < length order → path_at rows order at ≢ path) → (k : ℕ) → k < count → (get_or rows k no_row).path ≢ path
none_has rows count order path at index place apart k less same =
    let there = place_of_row rows count order index k less in
    let here : path_at rows order there.0 ≡ path = path_of_row rows order there.0 k there.2 ∙ same in
    elim (cases_eq there.0 at) [
      | inl equal ↦ apart (subst (λ i. i < length order) equal there.1) (subst (λ i. path_at rows order i ≡ path) equal here)
      | inr other ↦ apart_from rows order path at index.ascend place there.0 there.1 other here
    ]

pub absent : (rows : List FileRow) (count : ℕ) (order path : List ℕ) (at : ℕ) → IsIndex rows count order → IsPlace rows order path at
    → (at < length order → path_at rows order at ≢ path) → None ≡ row_named (take count rows) path
absent rows count order path at index place apart =
    let long : length (take count rows) ≡ count = omega (arith, length-take count rows, index.counted) in
    let first : position_or_len (λ row. bytes_eq row.path path) (take count rows) ≡ count =
    position_is rows count path count index.counted (omega arith) (none_has rows count order path at index place apart) (λ wrong. absurd (omega arith)) in
    sym (rw (first, long) (cond-false (nat_lt count count) (Some count) None (le-ltb count count (omega arith))))

pub absent_path : (rows : List FileRow) (count : ℕ) (order path : List ℕ) (at : ℕ) → IsIndex rows count order → IsPlace rows order path at
    → (at < length order → path_at rows order at ≢ path) → false ≡ has_path path (take count rows)
absent_path rows count order path at index place apart =
    sym (list_any_none (λ row. bytes_eq row.path path) (take count rows) (λ k d within.
    let low : k < count = omega (arith, length-take count rows) in
    ap (λ (r : FileRow). bytes_eq r.path path) (get_or-take count rows k d low ∙ get_or_default rows k d no_row (omega (arith, index.counted)))
    ∙ text_other _ path (none_has rows count order path at index place apart k low)))

-- ---- one row more
-- the numbers with one more put in are those before and this one
any_inserted : (order : List ℕ) (at n m : ℕ) → at ≤ length order → list_any (λ x. x == m) (insert order at n) ≡ (list_any (λ x. x == m) order || (n == m))
any_inserted order at n m within =
    let p : ℕ → Bool = λ x. x == m in
    list_any-append p (take at order) (n ∷ drop at order)
    ∙ ap (λ b. list_any p (take at order) || b) (or_comm (n == m) (list_any p (drop at order)))
    ∙ sym (or_assoc (list_any p (take at order)) (list_any p (drop at order)) (n == m))
    ∙ ap (λ b. b || (n == m)) (sym (list_any-append p (take at order) (drop at order)) ∙ ap (list_any p) (take-append-drop at order))

-- what holds of two paths holds of those that equal them
alike : {a b c d : List ℕ} → a ≡ c → b ≡ d → IsTrue (is_before c d) → IsTrue (is_before a b)
alike {a} {b} {c} {d} first second less = subst (λ p. IsTrue (is_before p b)) (sym first) (subst (λ p. IsTrue (is_before c p)) (sym second) less)

module _ (rows : List FileRow) (n : ℕ) (order path : List ℕ) (at : ℕ) (index : IsIndex rows n order) (place : IsPlace rows order path at)
    (apart : at < length order → path_at rows order at ≢ path) (there : n < length rows) (is : (get_or rows n no_row).path ≡ path) where
  long : length (insert order at n) ≡ length order + 1
  long = length-insert order at n place.within

  -- what stands before the place, at it, and after it
  below : (i : ℕ) → i < at → slice_index (insert order at n) i ≡ slice_index order i
  below i less = get_or-insert_below order at n 0 i less place.within

  here : slice_index (insert order at n) at ≡ n
  here = get_or-insert_at order at n 0 place.within

  above : (i : ℕ) → at ≤ i → slice_index (insert order at n) (i + 1) ≡ slice_index order i
  above i low = get_or-insert_above order at n 0 i low place.within

  -- the new path comes before each from its place on
  comes_before : (i : ℕ) → at ≤ i → i < length order → IsTrue (is_before path (path_at rows order i))
  comes_before i low within =
      elim (cases_eq i at) [
        | inl same ↦ before_other (path_at rows order i) path (place.rest i low within)
            (λ wrong. apart (omega arith) (subst (λ k. path_at rows order k ≡ path) same wrong))
        | inr other ↦ before_other (path_at rows order i) path (place.rest i low within) (apart_from rows order path at index.ascend place i within other)
      ]

  -- each number of the list is one from before, or the new one
  each : (P : ℕ → Type 0) → ((i : ℕ) → i < length order → P (slice_index order i)) → P n
      → (i : ℕ) → i < length (insert order at n) → P (slice_index (insert order at n) i)
  each P old new i within =
      elim (cases_order i at) [
        | inl same ↦ subst (λ k. P (slice_index (insert order at n) k)) (sym same) (subst P (sym here) new)
        | inr (inl less) ↦ subst P (sym (below i less)) (old i (omega arith))
        | inr (inr more) ↦
            let back : i - 1 + 1 ≡ i = omega arith in
            subst (λ k. P (slice_index (insert order at n) k)) back (subst P (sym (above (i - 1) (omega arith))) (old (i - 1) (omega (arith, long))))
      ]

  -- the path at a place of the longer list
  path_below : (i : ℕ) → i < at → path_at rows (insert order at n) i ≡ path_at rows order i
  path_below i less = ap (λ m. (get_or rows m no_row).path) (below i less)

  path_here : path_at rows (insert order at n) at ≡ path
  path_here = ap (λ m. (get_or rows m no_row).path) here ∙ is

  path_above : (i : ℕ) → at < i → path_at rows (insert order at n) i ≡ path_at rows order (i - 1)
  path_above i more =
      let back : i - 1 + 1 ≡ i = omega arith in
      subst (λ k. path_at rows (insert order at n) k ≡ path_at rows order (i - 1)) back
      (ap (λ m. (get_or rows m no_row).path) (above (i - 1) (omega arith)))

  ascends : (i j : ℕ) → i < j → j < length (insert order at n) → IsTrue (is_before (path_at rows (insert order at n) i) (path_at rows (insert order at n) j))
  ascends i j less within =
      elim (cases_order i at) [
        | inl same ↦
            let first : path_at rows (insert order at n) i ≡ path = ap (path_at rows (insert order at n)) same ∙ path_here in
            alike first (path_above j (omega arith)) (comes_before (j - 1) (omega arith) (omega (arith, long)))
        | inr (inl low) ↦
            elim (cases_order j at) [
              | inl same ↦
                  let second : path_at rows (insert order at n) j ≡ path = ap (path_at rows (insert order at n)) same ∙ path_here in
                  alike (path_below i low) second (place.below i low)
              | inr (inl both) ↦ alike (path_below i low) (path_below j both) (index.ascend.paths i j less (omega arith))
              | inr (inr high) ↦ alike (path_below i low) (path_above j high) (index.ascend.paths i (j - 1) (omega arith) (omega (arith, long)))
            ]
        | inr (inr high) ↦
            alike (path_above i high) (path_above j (omega arith)) (index.ascend.paths (i - 1) (j - 1) (omega arith) (omega (arith, long)))
      ]

  pub index_more : IsIndex rows (n + 1) (insert order at n)
  index_more = record {
    ascend = record { numbers = each (λ m. m < length rows) index.ascend.numbers there; paths = ascends };
    counted = omega arith;
    first = each (λ m. m < n + 1) (λ i within. omega (arith, index.first i within)) (omega arith);
    whole = λ m low. any_inserted order at n m place.within ∙ among m low;
  } where
    among : (m : ℕ) → m < n + 1 → (list_any (λ x. x == m) order || (n == m)) ≡ true
    among m low =
        elim (cases_eq n m) [
          | inl same ↦ or_right (list_any (λ x. x == m) order) (n == m) (eq-eqb n m same)
          | inr other ↦ or_left (list_any (λ x. x == m) order) (n == m) (index.whole m (omega arith))
        ]

-- the path of a row that was read is that of the row of that number
pub path_read : (rows : List FileRow) (n : ℕ) (path : List ℕ) (row : FileRow) → n < length rows → path ≡ row.path → row ≡ get_or rows n row
    → path ≡ (get_or rows n no_row).path
path_read rows n path row within is read = is ∙ ap (λ (r : FileRow). r.path) (read ∙ get_or_default rows n row no_row within)

-- Mounts and files without a fault: each row's mount is there, each interpreter is a row that is no script, and no two rows
-- have one path.
use Rattle.std.proofs.Common.{◌≡◌, ℕ, zero, suc, ◌+◌, ◌<◌, ◌^◌, ◌++◌, true, false, not, length, take, drop, List, [], ◌∷◌, Option, Some, None}
use Rattle.std.proofs.Common.{refl, sym, ap, ◌∙◌, arith, get_or, append_assoc, subst}
use Rattle.std.specs.Prelude.{All, IfSome, IsSomeAnd, bytes_eq, map, nat_lt, slice_get}
use Rattle.std.specs.Option.{option_or}
use Rattle.std.proofs.lemmas.Bool.{false≢true, not-false, ltb-true}
use Rattle.std.proofs.lemmas.List.{append-nil, get_or-take, get_or_default, length-take, take_more}
use Rattle.std.proofs.Math.Seq.{drop-cons}
use Rattle.std.proofs.lemmas.List.Folds.{list_any_at}
use Rattle.cm_files.proofs.Paths.{equal_path}
use Rattle.cm_files.specs.Fault.{first_fault, row_fault, has_path, fits_interpreter, is_program}
use Rattle.cm_files.specs.Index.{HasKeys, IsIndex, no_row}
use Rattle.cm_files.specs.Table.{KeepsTable, PathsDiffer, seen_on}
use Rattle.cm_files.specs.declared.fault.BadFiles.{BadFiles}
use Rattle.cm_files.specs.declared.fault.BadFiles.TheVariants.{Twice, NoMount, NoInterpreter}
use Rattle.model_cred.specs.Files.{FileRow, IsProgram, KeepsMount, KeepsRow, Mount}
use Rattle.model_rules.proofs.Options.{both_none, not_some, none_is}
use Rattle.model_rules.specs.FileView.{FileView}

-- The row is without a fault after those before it.
record IsFine (mounts : ℕ) (before : List FileRow) (row : FileRow) : Type 0 where
  path : has_path row.path before ≡ false
  mount : nat_lt row.mount mounts ≡ true
  interpreter : fits_interpreter before row.interpreter ≡ true

fine : (mounts : ℕ) (before : List FileRow) (row : FileRow) → row_fault mounts before row ≡ None → IsFine mounts before row
fine mounts before row is =
    let first = not_some (has_path row.path before) (Twice (length before)) _ is in
    let second = not_some (not (nat_lt row.mount mounts)) (NoMount (length before)) _ first.1 in
    let third = not_some (not (fits_interpreter before row.interpreter)) (NoInterpreter (length before)) None second.1 in
    record { path = first.0; mount = not-false _ second.0; interpreter = not-false _ third.0 }

-- each row is without a fault after those before it
each_fine : (mounts : ℕ) (before rows : List FileRow) → first_fault mounts before rows ≡ None → (k : ℕ) → k < length rows
    → row_fault mounts (before ++ take k rows) (get_or rows k no_row) ≡ None
each_fine mounts before [] is k within = absurd (omega (arith, within))
each_fine mounts before (row ∷ rows) is zero within =
    ap (λ l. row_fault mounts l row) (append-nil before) ∙ (both_none (row_fault mounts before row) _ is).0
each_fine mounts before (row ∷ rows) is (suc k) within =
    ap (λ l. row_fault mounts l (get_or rows k no_row)) (sym (append_assoc before (row ∷ []) (take k rows)))
    ∙ each_fine mounts (before ++ row ∷ []) rows (both_none (row_fault mounts before row) _ is).1 k (omega arith)

-- a row without a fault leaves the fault to those after it
pub fault_more : (mounts : ℕ) (rows : List FileRow) (n : ℕ) (fault : Option BadFiles) → n < length rows
    → row_fault mounts (take n rows) (get_or rows n no_row) ≡ None → first_fault mounts (take n rows) (drop n rows) ≡ fault
    → first_fault mounts (take (n + 1) rows) (drop (n + 1) rows) ≡ fault
fault_more mounts rows n fault within none is =
    let row : FileRow = get_or rows n no_row in
    let next : suc n ≡ n + 1 = omega arith in
    let rest : drop n rows ≡ row ∷ drop (n + 1) rows = drop-cons rows n no_row within ∙ ap (λ (m : ℕ). row ∷ drop m rows) next in
    ap (λ l. first_fault mounts l (drop (n + 1) rows)) (take_more rows n no_row within)
    ∙ sym (ap (λ o. option_or o (first_fault mounts (take n rows ++ row ∷ []) (drop (n + 1) rows))) none)
    ∙ sym (ap (first_fault mounts (take n rows)) rest) ∙ is

-- the row of a number among the first is that of all
get_taken : (rows : List FileRow) (k n : ℕ) (row : FileRow) → slice_get (take k rows) n ≡ Some row → slice_get rows n ≡ Some row
get_taken [] zero n row is = absurd (cc)
get_taken (other ∷ rows) (suc k) zero row is = is
get_taken (other ∷ rows) (suc k) (suc n) row is = get_taken rows k n row is
get_taken _ _ n row is = absurd (cc)

module _ (mounts : ℕ) (rows : List FileRow) (none : first_fault mounts [] rows ≡ None) where
  at_place : (k : ℕ) (d : FileRow) → k < length rows → IsFine mounts (take k rows) (get_or rows k d)
  at_place k d within =
      subst (IsFine mounts (take k rows)) (get_or_default rows k no_row d within)
      (fine mounts (take k rows) (get_or rows k no_row) (each_fine mounts [] rows none k within))

  program : (k n : ℕ) (o : Option FileRow) → slice_get (take k rows) n ≡ o → is_program o ≡ true → IsProgram rows n
  program k n None is wrong = absurd (false≢true wrong)
  program k n (Some row) is it = subst (λ o. IsSomeAnd o (λ (r : FileRow). r.interpreter ≡ None)) (sym (get_taken rows k n row is)) (none_is row.interpreter it)

  interpreter : (k : ℕ) (o : Option ℕ) → fits_interpreter (take k rows) o ≡ true → IfSome o (IsProgram rows)
  interpreter k None is = tt
  interpreter k (Some n) is = program k n (slice_get (take k rows) n) refl is

  pub paths_differ : PathsDiffer rows
  paths_differ i j d less within same =
      let other = (at_place j d within).path in
      let before : get_or (take j rows) i d ≡ get_or rows i d = get_or-take j rows i d less in
      let some : has_path (get_or rows j d).path (take j rows) ≡ true =
      list_any_at (λ row. bytes_eq row.path (get_or rows j d).path) (take j rows) i d (omega (arith, length-take j rows))
      (ap (λ (r : FileRow). bytes_eq r.path (get_or rows j d).path) before ∙ equal_path _ _ same) in
      false≢true (sym other ∙ some)

-- what mounts and rows that keep what they should, without a fault, with their index and their views, keep as a table
pub keeps_table : (mounts : List Mount) (rows : List FileRow) (order keys : List ℕ) (views : List FileView) → All KeepsMount mounts → All KeepsRow rows
    → length rows < 2 ^ 32 → first_fault (length mounts) [] rows ≡ None → IsIndex rows (length rows) order → HasKeys rows order keys
    → views ≡ map (seen_on mounts) rows → KeepsTable (record { mounts = mounts; rows = rows }) order keys views
keeps_table mounts rows order keys views all_mounts all_rows few none index keyed seen = record {
  keeps = record {
    mounts = all_mounts;
    rows = all_rows;
    mounted = λ k d within. ltb-true _ (length mounts) (at_place (length mounts) rows none k d within).mount;
    interpreters = λ k d within.
        interpreter (length mounts) rows none k _ (at_place (length mounts) rows none k d within).interpreter;
  };
  few = few;
  paths_differ = paths_differ (length mounts) rows none;
  index = index;
  keyed = keyed;
  seen = seen;
}

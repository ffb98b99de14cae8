-- The world that a text declares: how its parts are read, that its pids ascend, and that it is within the limits.
use Rattle.std.proofs.Common.{◌≡◌, ℕ, ◌+◌, ◌≤◌, Bool, true, false, cond, length, List, [], ◌∷◌, ◌++◌, Option, Some, None, Ok, Err}
use Rattle.std.proofs.Common.{Result, IfSome, IsTrue, All, pos, refl, ap, subst, arith}
use Rattle.std.proofs.lemmas.Bool.{cond_both}
use Rattle.std.proofs.lemmas.List.Elements.{All-nil}
use Rattle.std.proofs.lemmas.List.{length_push}
use Rattle.std.specs.Prelude.{codes}
use Rattle.std.specs.Str.{is_utf8}
use Rattle.cm_base.specs.Limited.{limit_number}
use Rattle.cm_base.specs.Limits.{last_pid}
use Rattle.cm_base.specs.declared.faults.Table.TheVariants as table
use Rattle.cm_base.specs.declared.faults.WorldFault.TheVariants.{Toml}
use Rattle.cm_base.specs.declared.limited.Limited.TheVariants as limit
use Rattle.cm_filter.specs.Filters.{Filter}
use Rattle.model_cred.proofs.Orders.{all_insert, insert_ascends}
use Rattle.model_cred.specs.Files.{Mount, FileRow}
use Rattle.model_cred.specs.Process.{Process, Ascends, is_alive, is_pid, insert_process}
use Rattle.model_cred.specs.World.{World}
use Rattle.model_text.proofs.Rows.{then_ok, unless_ok, none_stands, NoneStands, any_rows, rows_keep, rows_count, read_ok}
use Rattle.model_text.proofs.Values.{or_default}
use Rattle.model_text.specs.FileText.{file_row}
use Rattle.model_text.specs.FilterText.{filter_row}
use Rattle.model_text.specs.Keys.{key_checks, shape_checks}
use Rattle.model_text.specs.MountText.{mount_row, root_alone}
use Rattle.model_text.specs.ProcessText.{pid_of, process_row, process_checks, process_declared, process_key_checks}
use Rattle.model_text.specs.Refusal.{Refusal, At, Past, first_standing, in_row, read_rows, unless}
use Rattle.model_text.specs.SpaceText.{Declared, name_of, none_declared, space_row, space_checks, space_keys}
use Rattle.model_text.specs.Toml.{number_from, number_of, table_of}
use Rattle.model_text.specs.WorldText.{Reads, world_text, read_text, text_as, document_world, table_world, whole_keys, form_of_row, rows_at}
use Rattle.toml.specs.Data.{Data, integer, Members, get_member}
use Rattle.toml.specs.Parse.{parse_document}

-- ---- the parts of a world
-- The parts of the world of a whole table, each read from its rows.
pub record Made (top : Members) (w : World) : Type 0 where
  pub declared : Declared
  pub mounts : List Mount
  pub files : List FileRow
  pub processes : List Process
  pub filter : Filter
  pub spaces_read : read_rows table.Space limit.Spaces 1 space_row none_declared (rows_at (codes "space") top) ≡ Ok declared
  pub mounts_read : read_rows table.Mount limit.Mounts 1 (mount_row declared.names) root_alone (rows_at (codes "mount") top) ≡ Ok mounts
  pub files_read : read_rows table.File limit.Files 0 (file_row mounts) [] (rows_at (codes "file") top) ≡ Ok files
  pub processes_read : read_rows table.Process limit.Processes 0 (process_row declared.names) [] (rows_at (codes "process") top) ≡ Ok processes
  pub filter_read : in_row table.Filter 0 (filter_row (table_of (get_member (codes "filter") top))) ≡ Ok filter
  pub is : record {
    start = record { processes = processes; spaces = declared.spaces };
    names = declared.names;
    files = record { mounts = mounts; rows = files };
    filter = filter;
    form = form_of_row top;
  } ≡ w

table_made : (top : Members) (w : World) → table_world top ≡ Ok w → Made top w
table_made top w is =
    let whole = then_ok (in_row table.Whole 0 (unless (first_standing (shape_checks whole_keys top)) top)) _ w is in
    let spaces = then_ok (read_rows table.Space limit.Spaces 1 space_row none_declared (rows_at (codes "space") top)) _ w whole.2 in
    let mounts = then_ok (read_rows table.Mount limit.Mounts 1 (mount_row spaces.0.names) root_alone (rows_at (codes "mount") top)) _ w spaces.2 in
    let files = then_ok (read_rows table.File limit.Files 0 (file_row mounts.0) [] (rows_at (codes "file") top)) _ w mounts.2 in
    let processes = then_ok (read_rows table.Process limit.Processes 0 (process_row spaces.0.names) [] (rows_at (codes "process") top)) _ w files.2 in
    let filter = then_ok (in_row table.Filter 0 (filter_row (table_of (get_member (codes "filter") top)))) _ w processes.2 in
    record {
      declared = spaces.0;
      mounts = mounts.0;
      files = files.0;
      processes = processes.0;
      filter = filter.0;
      spaces_read = spaces.1;
      mounts_read = mounts.1;
      files_read = files.1;
      processes_read = processes.1;
      filter_read = filter.1;
      is = cc;
    }

text_read : (r : Result World Refusal) (w : World) → text_as r ≡ Reads w → r ≡ Ok w
text_read (Ok v) w is = let same : v ≡ w = cc in ap Ok same
text_read (Err (At t row fault)) w is = absurd (cc)
text_read (Err (Past l)) w is = absurd (cc)

-- A text that declares a world is UTF-8 and TOML, and the world is that of its whole table.
pub record Declares (bytes : List ℕ) (w : World) : Type 0 where
  pub top : Members
  pub utf8 : is_utf8 bytes ≡ true
  pub document : parse_document bytes ≡ Some top
  pub made : Made top w

pub declares : (bytes : List ℕ) (w : World) → world_text bytes ≡ Reads w → Declares bytes w
declares bytes w is = by_utf8 (is_utf8 bytes) refl (text_read (read_text bytes) w is)
  where
    by_document : is_utf8 bytes ≡ true → (document : Option Members) → parse_document bytes ≡ document
        → document_world document ≡ Ok w → Declares bytes w
    by_document utf8 None same is = absurd (cc)
    by_document utf8 (Some top) same is = record { top = top; utf8 = utf8; document = same; made = table_made top w is }

    by_utf8 : (utf8 : Bool) → is_utf8 bytes ≡ utf8 → cond utf8 (document_world (parse_document bytes)) (Err (At table.Whole 0 Toml)) ≡ Ok w
        → Declares bytes w
    by_utf8 true same is = by_document same (parse_document bytes) refl is
    by_utf8 false same is = absurd (cc)

-- ---- processes
-- a process that is read comes to those before it, among which its pid isn't
pub process_read : (names : List (List ℕ)) (before : List Process) (row : Members) (all : List Process) → process_row names before row ≡ Ok all
    → NoneStands (process_key_checks row ++ process_checks names before row) × (insert_process (process_declared names row) before ≡ all)
process_read names before row all is =
    let parts = unless_ok (first_standing (process_key_checks row ++ process_checks names before row))
    (insert_process (process_declared names row) before) all is in
    (none_stands (process_key_checks row ++ process_checks names before row) parts.0, parts.1)

processes_ascend : (names : List (List ℕ)) (before : List Process) (row : Members) (all : List Process) → Ascends before → Unit {0}
    → process_row names before row ≡ Ok all → Ascends all
processes_ascend names before row all ascends any is =
    let parts = process_read names before row all is in
    let free : is_alive before (process_declared names row).pid ≡ false = parts.0.1.1.1.1.1.0 in
    subst Ascends parts.1 (insert_ascends (process_declared names row) before free ascends)

-- a pid that a row declares is one
pid_from : (value : Data) → IfSome (number_from 1 last_pid value) (λ n. IsTrue (is_pid n))
pid_from (integer (pos n)) = cond_both (is_pid n) (Some n) None (λ o. IfSome o (λ n. IsTrue (is_pid n))) (λ is. is) (λ _. tt)
pid_from _ = tt

pid_if : (value : Option Data) → IfSome (number_of 1 last_pid value) (λ n. IsTrue (is_pid n))
pid_if None = tt
pid_if (Some value) = pid_from value

pid_is : (row : Members) → IsTrue (is_pid (pid_of row))
pid_is row = or_default (λ n. IsTrue (is_pid n)) (number_of 1 last_pid (get_member (codes "pid") row)) 1 (pid_if (get_member (codes "pid") row)) refl

processes_have_pids : (names : List (List ℕ)) (before : List Process) (row : Members) (all : List Process)
    → All (λ p. IsTrue (is_pid p.pid)) before → Unit {0}
    → process_row names before row ≡ Ok all → All (λ p. IsTrue (is_pid p.pid)) all
processes_have_pids names before row all pids any is =
    subst (All (λ (p : Process). IsTrue (is_pid p.pid))) (process_read names before row all is).1
    (all_insert (λ p. IsTrue (is_pid p.pid)) (process_declared names row) before (pid_is row) pids)

length_insert : (p : Process) (ps : List Process) → length (insert_process p ps) ≤ length ps + 1
length_insert p [] = omega arith
length_insert p (q ∷ ps) = grind (arith, length_insert p ps)

one_process : (names : List (List ℕ)) (before : List Process) (row : Members) (all : List Process) → process_row names before row ≡ Ok all
    → length all ≤ length before + 1
one_process names before row all is =
    let parts = process_read names before row all is in
    subst (λ (ps : List Process). length ps ≤ length before + 1) parts.1 (length_insert (process_declared names row) before)

one_space : (before : Declared) (row : Members) (all : Declared) → space_row before row ≡ Ok all → length all.spaces ≤ length before.spaces + 1
one_space before row all is =
    let parts = unless_ok (first_standing (key_checks space_keys row ++ space_checks before row)) _ all is in
    subst (λ (d : Declared). length d.spaces ≤ length before.spaces + 1) parts.1 (omega arith)

one_name : (before : Declared) (row : Members) (all : Declared) → space_row before row ≡ Ok all → length all.names ≤ length before.names + 1
one_name before row all is =
    let parts = unless_ok (first_standing (key_checks space_keys row ++ space_checks before row)) _ all is in
    let count = length_push before.names (name_of row) in
    subst (λ (d : Declared). length d.names ≤ length before.names + 1) parts.1 (omega (arith, count))

module _ (bytes : List ℕ) (w : World) (is : world_text bytes ≡ Reads w) where
  -- the pids ascend
  pub start_ascends : Ascends w.start.processes
  start_ascends =
      let d : Declares bytes w = declares bytes w is in
      let m : Made d.top w = d.made in
      let rows = read_ok table.Process limit.Processes 0 (process_row m.declared.names) [] (rows_at (codes "process") d.top) m.processes m.processes_read in
      subst (λ (v : World). Ascends v.start.processes) m.is
      (rows_keep table.Process (process_row m.declared.names) Ascends (λ row. Unit {0}) (processes_ascend m.declared.names) 1 []
      (rows_at (codes "process") d.top) m.processes tt (any_rows (rows_at (codes "process") d.top)) rows.1)

  -- they are pids
  pub start_pids : All (λ p. IsTrue (is_pid p.pid)) w.start.processes
  start_pids =
      let d : Declares bytes w = declares bytes w is in
      let m : Made d.top w = d.made in
      let rows = read_ok table.Process limit.Processes 0 (process_row m.declared.names) [] (rows_at (codes "process") d.top) m.processes m.processes_read in
      subst (λ (v : World). All (λ (p : Process). IsTrue (is_pid p.pid)) v.start.processes) m.is
      (rows_keep table.Process (process_row m.declared.names) (All (λ (p : Process). IsTrue (is_pid p.pid))) (λ row. Unit {0})
      (processes_have_pids m.declared.names) 1 [] (rows_at (codes "process") d.top) m.processes (All-nil (λ (p : Process). IsTrue (is_pid p.pid)))
      (any_rows (rows_at (codes "process") d.top)) rows.1)

  -- no more processes live than the limit
  pub start_processes : length w.start.processes ≤ limit_number limit.Processes
  start_processes =
      let d : Declares bytes w = declares bytes w is in
      let m : Made d.top w = d.made in
      let rows = read_ok table.Process limit.Processes 0 (process_row m.declared.names) [] (rows_at (codes "process") d.top) m.processes m.processes_read in
      let many = rows_count table.Process (process_row m.declared.names) length (one_process m.declared.names) 1 []
      (rows_at (codes "process") d.top) m.processes rows.1 in
      subst (λ (v : World). length v.start.processes ≤ limit_number limit.Processes) m.is (omega (arith, many, rows.0))

  -- and no more spaces stand
  pub start_spaces : length w.start.spaces ≤ limit_number limit.Spaces
  start_spaces =
      let d : Declares bytes w = declares bytes w is in
      let m : Made d.top w = d.made in
      let rows = read_ok table.Space limit.Spaces 1 space_row none_declared (rows_at (codes "space") d.top) m.declared m.spaces_read in
      let many = rows_count table.Space space_row (λ d. length d.spaces) one_space 1 none_declared (rows_at (codes "space") d.top) m.declared rows.1 in
      subst (λ (v : World). length v.start.spaces ≤ limit_number limit.Spaces) m.is (omega (arith, many, rows.0))

  -- so there are fewer names of spaces
  pub start_names : length w.names + 1 ≤ limit_number limit.Spaces
  start_names =
      let d : Declares bytes w = declares bytes w is in
      let m : Made d.top w = d.made in
      let rows = read_ok table.Space limit.Spaces 1 space_row none_declared (rows_at (codes "space") d.top) m.declared m.spaces_read in
      let many = rows_count table.Space space_row (λ d. length d.names) one_name 1 none_declared (rows_at (codes "space") d.top) m.declared rows.1 in
      subst (λ (v : World). length v.names + 1 ≤ limit_number limit.Spaces) m.is (omega (arith, many, rows.0))

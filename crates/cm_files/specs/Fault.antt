-- Which declared mounts and files make no table, and why.
use Rattle.std.specs.Prelude.{◌≡◌, ℕ, ◌++◌, Bool, true, false, not, nat_lt, bytes_eq, is_none, length, slice_get, List, [], ◌∷◌}
use Rattle.std.specs.Prelude.{Option, Some, None, if◌then◌else◌}
use Rattle.std.specs.List.{list_any}
use Rattle.std.specs.Option.{option_or}
use Rattle.cm_files.specs.declared.fault.BadFiles.{BadFiles}
use Rattle.cm_files.specs.declared.fault.BadFiles.TheVariants.{Twice, NoMount, NoInterpreter, NoMemory}
use Rattle.model_cred.specs.Files.{FileRow, Mount}

-- one of the rows has that path
abbrev pub has_path : List ℕ → List FileRow → Bool
has_path path rows = list_any (λ row. bytes_eq row.path path) rows

-- the row is there and is no script
abbrev pub is_program : Option FileRow → Bool
is_program None = false
is_program (Some row) = is_none row.interpreter

-- the interpreter, where there is one, is one of these rows and no script
abbrev pub fits_interpreter : List FileRow → Option ℕ → Bool
fits_interpreter rows None = true
fits_interpreter rows (Some n) = is_program (slice_get rows n)

-- The fault of what a row names, given the number of mounts and the rows before it: first its mount isn't there, then its
-- interpreter is no earlier row without one (the order is a choice).
abbrev pub link_fault : ℕ → List FileRow → FileRow → Option BadFiles
link_fault mounts before row =
    if not (nat_lt row.mount mounts) then Some (NoMount (length before))
    else if not (fits_interpreter before row.interpreter) then Some (NoInterpreter (length before))
    else None

-- the fault of a row: first its path stands before, then the fault of what it names (the order is a choice)
abbrev pub row_fault : ℕ → List FileRow → FileRow → Option BadFiles
row_fault mounts before row = if has_path row.path before then Some (Twice (length before)) else link_fault mounts before row

-- the fault of the first row that has one, among those that come after others
abbrev pub first_fault : ℕ → List FileRow → List FileRow → Option BadFiles
first_fault mounts before [] = None
first_fault mounts before (row ∷ rows) = option_or (row_fault mounts before row) (first_fault mounts (before ++ row ∷ []) rows)

-- the fault of the first row that has one
abbrev pub files_fault : List Mount → List FileRow → Option BadFiles
files_fault mounts rows = first_fault (length mounts) [] rows

-- The error diagnoses this fault; NoMemory diagnoses nothing.
abbrev pub Diagnoses : BadFiles → Option BadFiles → Type 0
Diagnoses NoMemory fault = Unit {0}
Diagnoses (Twice n) fault = fault ≡ Some (Twice n)
Diagnoses (NoMount n) fault = fault ≡ Some (NoMount n)
Diagnoses (NoInterpreter n) fault = fault ≡ Some (NoInterpreter n)

-- Worked cases, by computation, of the limits of a world's text, each at its number and one past it, and of the deepest space.
use Rattle.std.proofs.Common.{◌≡◌, ℕ, zero, suc, ◌+◌, List, [], ◌∷◌, ◌++◌, map, None, Some, Ok, Err, Result, refl}
use Rattle.std.specs.Prelude.{codes, decimal, pos}
use Rattle.std.specs.Fmt.{digits}
use Rattle.cm_base.specs.declared.faults.Table.TheVariants as table
use Rattle.cm_base.specs.declared.faults.WorldFault.TheVariants as fault
use Rattle.cm_base.specs.declared.limited.Limited.TheVariants as limit
use Rattle.model_cred.specs.Space.{level}
use Rattle.model_text.proofs.WorldCases.{world_on_literals}
use Rattle.model_text.specs.ProcessText.{process_key_checks}
use Rattle.model_text.specs.Refusal.{Fault, Limit, Refusal, At, Past, first_standing, read_rows}
use Rattle.model_text.specs.SpaceText.{Declared, none_declared, space_row}
use Rattle.model_text.specs.WorldText.{table_world}
use Rattle.toml.specs.Data.{Data, string, integer, array, table as a_table, Items, no_items, item, Members, no_members, member}

-- so many rows that are empty tables
abbrev pub empty_rows : ℕ → Items
empty_rows zero = no_items
empty_rows (suc n) = item (a_table no_members) (empty_rows n)

-- the whole table with so many empty rows at the key
abbrev pub with_rows : List ℕ → ℕ → Members
with_rows key n = member (codes "log") (string (codes "script")) (member key (array (empty_rows n)) no_members)

pub row_limits : record {
  -- at the limit the first row is looked at, which lacks a key; one past it no row is
  spaces_at_the_limit : table_world (with_rows (codes "space") 255) ≡ Err (At table.Space 1 fault.MissingKey);
  spaces_past_the_limit : table_world (with_rows (codes "space") 256) ≡ Err (Past limit.Spaces);
  mounts_at_the_limit : table_world (with_rows (codes "mount") 63) ≡ Err (At table.Mount 1 fault.MissingKey);
  mounts_past_the_limit : table_world (with_rows (codes "mount") 64) ≡ Err (Past limit.Mounts);
  files_at_the_limit : table_world (with_rows (codes "file") 4096) ≡ Err (At table.File 1 fault.MissingKey);
  files_past_the_limit : table_world (with_rows (codes "file") 4097) ≡ Err (Past limit.Files);
  processes_at_the_limit : table_world (with_rows (codes "process") 4096) ≡ Err (At table.Process 1 fault.MissingKey);
  processes_past_the_limit : table_world (with_rows (codes "process") 4097) ≡ Err (Past limit.Processes);
}
row_limits = search

-- ---- groups
-- so many times this value before others
abbrev pub times : ℕ → Data → Items → Items
times zero value values = values
times (suc n) value values = item value (times n value values)

-- a row with these groups, and this pid
abbrev pub with_groups : Items → Data → Members
with_groups groups pid = member (codes "groups") (array groups) (member (codes "pid") pid no_members)

-- repeats count; before a number out of range, after a value of another type
pub groups_by_their_number : map (λ row. first_standing (process_key_checks row))
    (with_groups (times 1024 (integer (pos 7)) no_items) (integer (pos 1)) ∷ with_groups (times 1025 (integer (pos 7)) no_items) (integer (pos 1))
    ∷ with_groups (times 1025 (integer (pos 7)) no_items) (integer (pos 0)) ∷ with_groups (times 1024 (integer (pos 7)) no_items) (integer (pos 0))
    ∷ with_groups (times 1024 (integer (pos 7)) (item (string []) no_items)) (integer (pos 1)) ∷ [])
    ≡ None ∷ Some (Limit limit.Groups) ∷ Some (Limit limit.Groups) ∷ Some (Fault fault.BadNumber) ∷ Some (Fault fault.WrongType) ∷ []
groups_by_their_number = refl

-- ---- the deepest space
-- a name for each number
abbrev pub named : ℕ → List ℕ
named zero = codes "init"
named (suc n) = codes "s" ++ decimal (suc n)

-- the row of a space below the one of that number
abbrev pub below : ℕ → Data
below n = a_table (member (codes "name") (string (named (n + 1))) (member (codes "owner") (integer (pos 0))
    (member (codes "parent") (string (named n)) no_members)))

-- a chain of so many spaces, each below the one before
abbrev pub chained : ℕ → ℕ → Items
chained from zero = no_items
chained from (suc n) = item (below from) (chained (from + 1) n)

-- how deep the last of them is nested
abbrev pub depth_of : Result Declared Refusal → Result ℕ Refusal
depth_of (Ok declared) = Ok (level declared.spaces 32)
depth_of (Err refusal) = Err refusal

pub depths : record {
  the_deepest_space : depth_of (read_rows table.Space limit.Spaces 1 space_row none_declared (chained 0 32)) ≡ Ok 32;
  one_below_the_deepest : depth_of (read_rows table.Space limit.Spaces 1 space_row none_declared (chained 0 33))
      ≡ Err (At table.Space 33 fault.TooDeep);
}
unfolding world_on_literals digits
depths = search

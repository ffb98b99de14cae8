-- Why a text declares no world, and how the rows of its tables are read one after another, up to the first refusal (choice).
use Rattle.std.specs.Prelude.{ℕ, ◌+◌, Bool, nat_lt, List, [], ◌∷◌, Option, Some, None, Result, Ok, Err, if◌then◌else◌}
use Rattle.cm_base.specs.Limited.{limit_number}
use Rattle.cm_base.specs.declared.faults.Table.{Table}
use Rattle.cm_base.specs.declared.faults.WorldFault.{WorldFault}
use Rattle.cm_base.specs.declared.faults.WorldFault.TheVariants.{WrongType}
use Rattle.cm_base.specs.declared.limited.Limited.{Limited}
use Rattle.model_text.specs.Toml.{count}
use Rattle.toml.specs.Data.{Data, table, Items, no_items, item, Members}

-- Why a row is refused: it has a fault, or a list of it is past a limit.
pub data Cause : Type 0 where
  Fault : WorldFault → Cause
  Limit : Limited → Cause

-- Why a text is refused: a row of a table has a fault, or a count is past a limit. Rows count from 1; the whole table and
-- the filter are row 0.
pub data Refusal : Type 0 where
  At : Table → ℕ → WorldFault → Refusal
  Past : Limited → Refusal

-- a row's cause as the refusal of the text
abbrev pub refusal_at : Table → ℕ → Cause → Refusal
refusal_at t n (Fault fault) = At t n fault
refusal_at t n (Limit limit) = Past limit

-- the first cause of a list that stands
abbrev pub first_standing : List (Cause × Bool) → Option Cause
first_standing [] = None
first_standing (check ∷ checks) = if check.1 then Some check.0 else first_standing checks

-- the value, unless there is a cause
abbrev pub unless : {A : Type 0} → Option Cause → A → Result A Cause
unless None value = Ok value
unless (Some cause) value = Err cause

-- the next step, unless there is a refusal
abbrev pub then_read : {A B : Type 0} → Result A Refusal → (A → Result B Refusal) → Result B Refusal
then_read (Ok value) next = next value
then_read (Err refusal) next = Err refusal

-- what a row gives, or its cause as the refusal of the text
abbrev pub in_row : {A : Type 0} → Table → ℕ → Result A Cause → Result A Refusal
in_row t n (Ok value) = Ok value
in_row t n (Err cause) = Err (refusal_at t n cause)

-- a row that is a table, read; another one has a fault
abbrev pub row_of : {A : Type 0} → (Members → Result A Cause) → Data → Result A Cause
row_of read (table row) = read row
row_of read _ = Err (Fault WrongType)

-- the rows of a table one after another, each added to what stands before it; the first of them has number n
abbrev pub rows_from : {A : Type 0} → Table → (A → Members → Result A Cause) → ℕ → A → Items → Result A Refusal
rows_from t read n before no_items = Ok before
rows_from t read n before (item row rows) =
    then_read (in_row t n (row_of (read before) row)) (λ all. rows_from t read (n + 1) all rows)

-- the rows of a table, unless with those that always stand they are past the limit
abbrev pub read_rows : {A : Type 0} → Table → Limited → ℕ → (A → Members → Result A Cause) → A → Items → Result A Refusal
read_rows t limit standing read start rows =
    if nat_lt (limit_number limit) (standing + count rows) then Err (Past limit) else rows_from t read 1 start rows

-- How the rows of a world's tables are read: what each row keeps they keep, they are no more than the limit, and a row that is
-- read passes each check.
use Rattle.std.proofs.Common.{◌≡◌, ℕ, ◌+◌, ◌≤◌, Bool, true, false, cond, List, [], ◌∷◌, Option, Some, None, Ok, Err, Result, refl, ap, subst, arith}
use Rattle.std.proofs.Common.{nat_lt}
use Rattle.cm_base.specs.Limited.{limit_number}
use Rattle.cm_base.specs.declared.faults.Table.{Table}
use Rattle.cm_base.specs.declared.limited.Limited.{Limited}
use Rattle.model_text.specs.Refusal.{Cause, Refusal, Past, first_standing, in_row, read_rows, rows_from, then_read, unless}
use Rattle.model_text.specs.Toml.{count}
use Rattle.toml.specs.Data.{table, Items, no_items, item, Members}

-- ---- one step after another
-- what is read after a step comes of what that gave
pub then_ok : {A B : Type 0} (r : Result A Refusal) (next : A → Result B Refusal) (b : B) → then_read r next ≡ Ok b
    → (a : A) × (r ≡ Ok a) × (next a ≡ Ok b)
then_ok (Ok a) next b is = (a, refl, is)
then_ok (Err refusal) next b is = absurd (cc)

-- what a row gives
pub in_row_ok : {A : Type 0} (t : Table) (n : ℕ) (r : Result A Cause) (a : A) → in_row t n r ≡ Ok a → r ≡ Ok a
in_row_ok t n (Ok b) a is = let same : b ≡ a = cc in ap Ok same
in_row_ok t n (Err cause) a is = absurd (cc)

-- ---- the checks of a row
-- a value that is given unless there is a cause
pub unless_ok : {A : Type 0} (cause : Option Cause) (value given : A) → unless cause value ≡ Ok given → (cause ≡ None) × (value ≡ given)
unless_ok None value given is = (refl, let same : value ≡ given = cc in same)
unless_ok (Some cause) value given is = absurd (cc)

-- none of the checks stands
abbrev pub NoneStands : List (Cause × Bool) → Type 0
NoneStands [] = Unit {0}
NoneStands (check ∷ checks) = (check.1 ≡ false) × NoneStands checks

pub none_stands : (checks : List (Cause × Bool)) → first_standing checks ≡ None → NoneStands checks
none_stands [] is = tt
none_stands (check ∷ checks) is =
    by_first check.1 refl is (none_stands checks)
  where
    by_first : (b : Bool) → check.1 ≡ b → cond b (Some check.0) (first_standing checks) ≡ None
        → (first_standing checks ≡ None → NoneStands checks) → (check.1 ≡ false) × NoneStands checks
    by_first true same is rest = absurd (cc)
    by_first false same is rest = (same, rest is)

-- ---- the rows of a table
-- it holds of each row that is a table
abbrev pub AllRows : (Members → Type 0) → Items → Type 0
AllRows Q no_items = Unit {0}
AllRows Q (item (table row) rows) = Q row × AllRows Q rows
AllRows Q (item _ rows) = AllRows Q rows

-- nothing is asked of rows
pub any_rows : (rows : Items) → AllRows (λ row. Unit {0}) rows
any_rows no_items = tt
any_rows (item (table row) rows) = (tt, any_rows rows)
any_rows (item _ rows) = any_rows rows

-- what each row keeps, the rows keep
pub rows_keep : {A : Type 0} (t : Table) (read : A → Members → Result A Cause) (P : A → Type 0) (Q : Members → Type 0)
    → ((before : A) (row : Members) (all : A) → P before → Q row → read before row ≡ Ok all → P all)
    → (n : ℕ) (before : A) (rows : Items) (all : A) → P before → AllRows Q rows → rows_from t read n before rows ≡ Ok all → P all
rows_keep t read P Q step n before no_items all p q is = let same : before ≡ all = cc in subst P same p
rows_keep t read P Q step n before (item (table row) rows) all p q is =
    let first = then_ok (in_row t n (read before row)) (λ mid. rows_from t read (n + 1) mid rows) all is in
    rows_keep t read P Q step (n + 1) first.0 rows all (step before row first.0 p q.0 (in_row_ok t n (read before row) first.0 first.1)) q.1 first.2
rows_keep t read P Q step n before (item _ rows) all p q is = absurd (cc)

-- where each row adds at most one, the rows add at most as many as they are
pub rows_count : {A : Type 0} (t : Table) (read : A → Members → Result A Cause) (size : A → ℕ)
    → ((before : A) (row : Members) (all : A) → read before row ≡ Ok all → size all ≤ size before + 1)
    → (n : ℕ) (before : A) (rows : Items) (all : A) → rows_from t read n before rows ≡ Ok all → size all ≤ size before + count rows
rows_count t read size step n before no_items all is =
    let same : before ≡ all = cc in subst (λ x. size x ≤ size before + 0) same (omega arith)
rows_count t read size step n before (item (table row) rows) all is =
    let first = then_ok (in_row t n (read before row)) (λ mid. rows_from t read (n + 1) mid rows) all is in
    let one : size first.0 ≤ size before + 1 = step before row first.0 (in_row_ok t n (read before row) first.0 first.1) in
    let others : size all ≤ size first.0 + count rows = rows_count t read size step (n + 1) first.0 rows all first.2 in
    omega arith
rows_count t read size step n before (item _ rows) all is = absurd (cc)

-- the rows of a table that are read are within the limit
pub read_ok : {A : Type 0} (t : Table) (l : Limited) (standing : ℕ) (read : A → Members → Result A Cause) (start : A) (rows : Items) (all : A)
    → read_rows t l standing read start rows ≡ Ok all → (standing + count rows ≤ limit_number l) × (rows_from t read 1 start rows ≡ Ok all)
read_ok t l standing read start rows all is =
    by_count (nat_lt (limit_number l) (standing + count rows)) refl is
  where
    by_count : (over : Bool) → nat_lt (limit_number l) (standing + count rows) ≡ over
        → cond over (Err (Past l)) (rows_from t read 1 start rows) ≡ Ok all
        → (standing + count rows ≤ limit_number l) × (rows_from t read 1 start rows ≡ Ok all)
    by_count true same is = absurd (cc)
    by_count false same is = (grind (arith, same), is)

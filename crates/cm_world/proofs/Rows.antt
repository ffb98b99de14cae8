-- Rows read one after another up to the first refusal, as the code goes through them.
use Rattle.std.proofs.Common.{◌≡◌, ℕ, ◌+◌, ◌<◌, ◌≤◌, Bool, true, false, List, [], ◌∷◌, ◌++◌, length, drop, get_or}
use Rattle.std.proofs.Common.{cond, Option, None, Some, Result, Ok, Err, refl, sym, ap, subst, ◌∙◌, arith}
use Rattle.std.specs.Prelude.{IfSome, nat_lt, option_map}
use Rattle.std.proofs.lemmas.Bool.{cond-true, cond-false, lt-ltb, le-ltb}
use Rattle.std.proofs.lemmas.List.{drop_more, drop_all}
use Rattle.cm_base.specs.Limited.{limit_number}
use Rattle.cm_base.specs.declared.faults.Table.{Table}
use Rattle.cm_base.specs.declared.limited.Limited.{Limited}
use Rattle.cm_values.proofs.Members.{count_items}
use Rattle.cm_values.specs.Answers.{Gives, cause_of}
use Rattle.cm_values.specs.declared.error.RowError.{RowError}
use Rattle.cm_world.specs.Answers.{refusal_of}
use Rattle.cm_world.specs.declared.error.WorldError.{WorldError}
use Rattle.model_text.specs.Keys.{Key, key_checks}
use Rattle.model_text.specs.Refusal.{Cause, Refusal, Past, refusal_at, first_standing, unless, then_read, in_row, row_of, rows_from, read_rows}
use Rattle.model_text.specs.Toml.{count}
use Rattle.toml.specs.Data.{Members}
use Rattle.toml.specs.View.{items_view, view}
use Rattle.toml.specs.declared.value.Value.{Value}

-- ---- the faults of keys before others
one_none : {A : Type 0} (b : Bool) (cause : Cause) (rest : Option Cause) (other : Option Cause) (own : Result A Cause) (value : A)
    → unless (cond b (Some cause) rest) (tt {0}) ≡ Ok tt → (unless rest (tt {0}) ≡ Ok tt → own ≡ unless other value)
    → own ≡ unless (cond b (Some cause) other) value
one_none true cause rest other own value is more = absurd (cc)
one_none false cause rest other own value is more = more is

-- the row's own faults are looked at where none of its keys' stands
own_faults : {A : Type 0} (keys own : List (Cause × Bool)) (value : A) → unless (first_standing keys) (tt {0}) ≡ Ok tt
    → unless (first_standing own) value ≡ unless (first_standing (keys ++ own)) value
own_faults [] own value none = refl
own_faults (check ∷ keys) own value none =
    one_none check.1 check.0 (first_standing keys) (first_standing (keys ++ own)) (unless (first_standing own) value) value none (own_faults keys own value)

one_fault : {A : Type 0} (b : Bool) (first cause : Cause) (rest other : Option Cause) (value : A)
    → unless (cond b (Some first) rest) (tt {0}) ≡ Err cause → (unless rest (tt {0}) ≡ Err cause → unless other value ≡ Err cause)
    → unless (cond b (Some first) other) value ≡ Err cause
one_fault true first cause rest other value is more = let same : first ≡ cause = cc in ap (λ c. Err c) same
one_fault false first cause rest other value is more = more is

-- where one of its keys' stands, it is told
keys_fault : {A : Type 0} (keys own : List (Cause × Bool)) (value : A) (cause : Cause) → unless (first_standing keys) (tt {0}) ≡ Err cause
    → unless (first_standing (keys ++ own)) value ≡ Err cause
keys_fault [] own value cause is = absurd (cc)
keys_fault (check ∷ keys) own value cause is =
    one_fault check.1 check.0 cause (first_standing keys) (first_standing (keys ++ own)) value is (keys_fault keys own value cause)

cause_told : {A : Type 0} (keys own : List (Cause × Bool)) (value : A) (o : Option Cause)
    → IfSome o (λ cause. unless (first_standing keys) (tt {0}) ≡ Err cause)
    → IfSome o (λ cause. unless (first_standing (keys ++ own)) value ≡ Err cause)
cause_told keys own value None told = tt
cause_told keys own value (Some cause) told = keys_fault keys own value cause told

-- the same of the keys as the code has them
pub keys_refused : {A : Type 0} (row : Members) (ks keys : List Key) (own : List (Cause × Bool)) (value : A) (e : RowError) → ks ≡ keys
    → IfSome (cause_of e) (λ cause. unless (first_standing (key_checks ks row)) (tt {0}) ≡ Err cause)
    → IfSome (cause_of e) (λ cause. unless (first_standing (key_checks keys row ++ own)) value ≡ Err cause)
keys_refused row ks keys own value e same told =
    cause_told (key_checks keys row) own value (cause_of e)
    (subst (λ (k : List Key). IfSome (cause_of e) (λ cause. unless (first_standing (key_checks k row)) (tt {0}) ≡ Err cause)) same told)

pub keys_fit : {A : Type 0} (row : Members) (ks keys : List Key) (own : List (Cause × Bool)) (value : A) (r : Result A RowError) → ks ≡ keys
    → unless (first_standing (key_checks ks row)) (tt {0}) ≡ Ok tt → Gives r (unless (first_standing own) value)
    → Gives r (unless (first_standing (key_checks keys row ++ own)) value)
keys_fit row ks keys own value r same none gives =
    let here : unless (first_standing (key_checks keys row)) (tt {0}) ≡ Ok tt
    = subst (λ (k : List Key). unless (first_standing (key_checks k row)) (tt {0}) ≡ Ok tt) same none in
    subst (λ told. Gives r told) (own_faults (key_checks keys row) own value here) gives

-- ---- row by row
module _ {A : Type 0} (t : Table) (read : A → Members → Result A Cause) (start : A) (rows : List Value) where
  -- the rows before this place make this, and with those from it on the whole
  abbrev pub ReadTo : ℕ → A → Type 0
  ReadTo at before = rows_from t read (at + 1) before (items_view (drop at rows)) ≡ rows_from t read 1 start (items_view rows)

  module _ (at : ℕ) (before : A) (row : Value) (is : ReadTo at before) (within : at < length rows) (here : row ≡ get_or rows at row) where
    from_here : rows_from t read 1 start (items_view rows)
        ≡ then_read (in_row t (at + 1) (row_of (read before) (view row))) (λ all. rows_from t read (at + 1 + 1) all (items_view (drop (at + 1) rows)))
    from_here =
        let rest : drop at rows ≡ row ∷ drop (at + 1) rows = drop_more rows at row within ∙ cc in
        sym is ∙ ap (λ vs. rows_from t read (at + 1) before (items_view vs)) rest

    -- this one is refused
    refused_or_not : (o : Option Cause) → IfSome o (λ cause. row_of (read before) (view row) ≡ Err cause)
        → IfSome (option_map (refusal_at t (at + 1)) o) (λ refusal. rows_from t read 1 start (items_view rows) ≡ Err refusal)
    refused_or_not None gives = tt
    refused_or_not (Some cause) gives =
        from_here ∙ ap (λ r. then_read (in_row t (at + 1) r) (λ all. rows_from t read (at + 1 + 1) all (items_view (drop (at + 1) rows)))) gives

    rows_refused : (e : RowError) (told : WorldError) → IfSome (cause_of e) (λ cause. row_of (read before) (view row) ≡ Err cause)
        → refusal_of told ≡ option_map (refusal_at t (at + 1)) (cause_of e)
        → IfSome (refusal_of told) (λ refusal. rows_from t read 1 start (items_view rows) ≡ Err refusal)
    rows_refused e told gives tells =
        subst (λ (o : Option Refusal). IfSome o (λ refusal. rows_from t read 1 start (items_view rows) ≡ Err refusal)) (sym tells)
        (refused_or_not (cause_of e) gives)

  -- ---- the limit
  -- so many rows are within the limit
  within_limit : (limit : Limited) (standing : ℕ) → standing + length rows ≤ limit_number limit
      → read_rows t limit standing read start (items_view rows) ≡ rows_from t read 1 start (items_view rows)
  within_limit limit standing few =
      cond-false (nat_lt (limit_number limit) (standing + count (items_view rows))) (Err (Past limit)) (rows_from t read 1 start (items_view rows))
      (le-ltb (limit_number limit) (standing + count (items_view rows)) (omega (arith, count_items rows)))

  -- so many are past it
  pub past_limit : (limit : Limited) (standing : ℕ) → limit_number limit < standing + length rows
      → read_rows t limit standing read start (items_view rows) ≡ Err (Past limit)
  past_limit limit standing many =
      cond-true (nat_lt (limit_number limit) (standing + count (items_view rows))) (Err (Past limit)) (rows_from t read 1 start (items_view rows))
      (lt-ltb (limit_number limit) (standing + count (items_view rows)) (omega (arith, count_items rows)))

  -- all rows, of which there are few enough
  pub read_all : (limit : Limited) (standing at : ℕ) (before : A) → standing + length rows ≤ limit_number limit → ReadTo at before
      → length rows ≤ at → read_rows t limit standing read start (items_view rows) ≡ Ok before
  read_all limit standing at before few is end =
      within_limit limit standing few ∙ sym is
      ∙ ap (λ vs. rows_from t read (at + 1) before (items_view vs)) (drop_all at rows end)

  -- one of them is refused
  pub read_refused : (limit : Limited) (standing at : ℕ) (before : A) (row : Value) (e : RowError) (told : WorldError)
      → standing + length rows ≤ limit_number limit → ReadTo at before → at < length rows → row ≡ get_or rows at row
      → IfSome (cause_of e) (λ cause. row_of (read before) (view row) ≡ Err cause)
      → refusal_of told ≡ option_map (refusal_at t (at + 1)) (cause_of e)
      → IfSome (refusal_of told) (λ refusal. read_rows t limit standing read start (items_view rows) ≡ Err refusal)
  read_refused limit standing at before row e told few is within here gives tells =
      subst (λ (r : Result A Refusal). IfSome (refusal_of told) (λ refusal. r ≡ Err refusal)) (sym (within_limit limit standing few))
      (rows_refused at before row is within here e told gives tells)

-- ---- what is made of a row
-- a cause refuses whatever is made
refused_alike : {A B : Type 0} (o : Option Cause) (value : A) (other : B) (cause : Cause) → unless o value ≡ Err cause → unless o other ≡ Err cause
refused_alike None value other cause is = absurd (cc)
refused_alike (Some first) value other cause is = let same : first ≡ cause = cc in ap (λ c. Err c) same

pub both_refused : {A B : Type 0} (o : Option Cause) (value : A) (other : B) (e : Option Cause)
    → IfSome e (λ cause. unless o value ≡ Err cause) → IfSome e (λ cause. unless o other ≡ Err cause)
both_refused o value other None is = tt
both_refused o value other (Some cause) is = refused_alike o value other cause is

-- where there is none, what is made of the one is made of the other
pub both_made : {A B : Type 0} (o : Option Cause) (value found : A) (other made : B) → unless o value ≡ Ok found → (value ≡ found → other ≡ made)
    → unless o other ≡ Ok made
both_made None value found other made is then = let same : value ≡ found = cc in ap (λ x. Ok x) (then same)
both_made (Some cause) value found other made is then = absurd (cc)

-- Words that stand for names and paths, and the names of tables.
use Rattle.std.proofs.Common.{◌≡◌, ℕ, suc, ◌+◌, Bool, true, false, List, [], ◌∷◌, ◌++◌, length, refl, sym, ap, subst, ◌∙◌, arith, inl, inr}
use Rattle.std.proofs.Common.{Option, Some, None, Bor, eqb, take, drop}
use Rattle.std.proofs.lemmas.Bool.{cases_Bool}
use Rattle.std.proofs.lemmas.Iterator.Adapters.{position_from-zero}
use Rattle.std.proofs.lemmas.Option.{same_Some}
use Rattle.std.proofs.lemmas.Bool.Decides.{Decides-eqb}
use Rattle.std.proofs.lemmas.Slice.Eq.{bytes_eq-Decides, strip_prefix_is}
use Rattle.std.specs.Cmp.Lexicographic.{pointwise}
use Rattle.std.specs.Prelude.{bytes_eq, codes, decimal, position, slice_get, option_map, unwrap_or, IfSome, MatchOption}
use Rattle.std.specs.List.{position_from}
use Rattle.cm_base.specs.Names.{cap_names, cap_of, errno_name, errno_of, errnos}
use Rattle.cm_base.specs.declared.errno.Errno.{Errno}
use Rattle.cm_base.specs.declared.res.FileRef.TheVariants.{Row}
use Rattle.cm_filter.specs.declared.kind.CallKind.{CallKind}
use Rattle.cm_filter.specs.Kinds.{call_kinds, call_name, has_name, kind_named}
use Rattle.model_cred.specs.Files.{FileRow, FileTable, ref_of, row_named}
use Rattle.model_text.specs.NameText.{is_path}
use Rattle.model_text.specs.Token.{cap_name_or_number, file_text, file_token}
use Rattle.cm_script.proofs.CallNames.{found_passes}

-- ---- pieces
-- what a text goes on with after a piece
pub prefix_read : (text piece : List ℕ) (r : Option (Bor (List ℕ)))
    → MatchOption r (pointwise eqb (take (length piece) text) piece ≡ false)
    (λ x. (pointwise eqb (take (length piece) text) piece ≡ true) × (x.now ≡ drop (length piece) text) × (length x.now + length piece ≡ length text))
    → IfSome r (λ rest. text ≡ piece ++ rest.now)
prefix_read text piece None is = tt
prefix_read text piece (Some x) is = strip_prefix_is Decides-eqb text piece (Some x) is

-- ---- what is found
-- the one at the place that is found passes
record Stands {A : Type 0} (p : A → Bool) (xs : List A) (k : ℕ) : Type 0 where
  item : A
  there : slice_get xs k ≡ Some item
  passes : p item ≡ true

found_from : {A : Type 0} (p : A → Bool) (n : ℕ) (xs : List A) (i : ℕ) → position_from p n xs ≡ Some i → (k : ℕ) × (n + k ≡ i) × Stands p xs k
found_from p n [] i is = absurd (cc)
found_from p n (x ∷ xs) i is =
    elim (cases_Bool (p x)) [
      | inl here ↦ let same : n ≡ i = same_Some n i (rw here at is) in (0, omega arith, record { item = x; there = refl; passes = here })
      | inr later ↦ let found = found_from p (n + 1) xs i (rw later at is) in
          (suc found.0, omega (arith, found.1), record { item = found.2.item; there = found.2.there; passes = found.2.passes })
    ]

position_stands : {A : Type 0} (p : A → Bool) (xs : List A) (i : ℕ) → position p xs ≡ Some i → Stands p xs i
position_stands {A} p xs i is =
    let found = found_from p 0 xs i (sym (position_from-zero p xs) ∙ is) in
    let place : found.0 ≡ i = omega (arith, found.1) in
    let At : ℕ → Type 0 = λ k. Stands p xs k in
    subst At place found.2

-- ---- capabilities
-- a capability that is found by its name is written by it
pub cap_named : (name : List ℕ) (cap : ℕ) → cap_of name ≡ Some cap → cap_name_or_number cap ≡ name
cap_named name cap is =
    let stands : Stands (λ n. bytes_eq n name) cap_names cap = position_stands (λ n. bytes_eq n name) cap_names cap is in
    ap (λ (found : Option (List ℕ)). unwrap_or found (decimal cap)) stands.there ∙ (bytes_eq-Decides stands.item name).0 stands.passes

-- ---- calls and errors
pub kind_is_named : (name : List ℕ) (kind : CallKind) → kind_named name ≡ Some kind → call_name kind ≡ name
kind_is_named name kind is = (bytes_eq-Decides (call_name kind) name).0 (found_passes (has_name name) call_kinds kind is)

pub error_is_named : (name : List ℕ) (e : Errno) → errno_of name ≡ Some e → errno_name e ≡ name
error_is_named name e is = (bytes_eq-Decides (errno_name e) name).0 (found_passes (λ e. bytes_eq (errno_name e) name) errnos e is)

-- ---- files
-- a row that a path names has the path
row_is_named : (rows : List FileRow) (path : List ℕ) (n : ℕ) → row_named rows path ≡ Some n
    → unwrap_or (option_map (λ (row : FileRow). row.path) (slice_get rows n)) (codes "-") ≡ path
row_is_named rows path n is =
    let stands : Stands (λ (row : FileRow). bytes_eq row.path path) rows n = position_stands (λ (row : FileRow). bytes_eq row.path path) rows n is in
    ap (λ (found : Option FileRow). unwrap_or (option_map (λ (row : FileRow). row.path) found) (codes "-")) stands.there
    ∙ (bytes_eq-Decides stands.item.path path).0 stands.passes

row_of_ref : (found : Option ℕ) (n : ℕ) → ref_of found ≡ Row n → found ≡ Some n
row_of_ref None n is = absurd (cc)
row_of_ref (Some m) n is = let same : m ≡ n = cc in ap Some same

-- a file that a token names as a row is written by the token
pub row_written_so : (files : FileTable) (token : List ℕ) (n : ℕ) → file_token files token ≡ Some (Row n) → file_text files (Row n) ≡ token
row_written_so files token n is =
    elim (cases_Bool (bytes_eq token (codes "-"))) [
      | inl plain ↦ absurd (cc (rw plain at is))
      | inr other ↦ elim (cases_Bool (is_path token)) [
        | inl path ↦ let named : ref_of (row_named files.rows token) ≡ Row n = same_Some (ref_of (row_named files.rows token)) (Row n) (rw (other, path) at is) in
            row_is_named files.rows token n (row_of_ref (row_named files.rows token) n named)
        | inr none ↦ absurd (cc (rw (other, none) at is))
      ]
    ]

-- The spaces that a world's text declares have names that are names, and its files paths that are paths, each once.
use Rattle.std.proofs.Common.{◌≡◌, ◌≢◌, ℕ, zero, suc, ◌<◌, ◌||◌, true, false, Bool, List, [], ◌∷◌, ◌++◌, length, get_or}
use Rattle.std.proofs.Common.{cond, ◌+◌, Some, Ok, IsTrue, codes, refl, sym, ap, ◌∙◌, subst, arith}
use Rattle.std.proofs.lemmas.Bool.{false≢true, not-false, or_parts}
use Rattle.std.proofs.lemmas.Iterator.Adapters.{position_from-zero}
use Rattle.std.proofs.lemmas.List.{map-append}
use Rattle.std.proofs.lemmas.List.Elements.{All-nil, All-push}
use Rattle.std.proofs.lemmas.List.Quantifiers.{all_pairs_push}
use Rattle.std.specs.Prelude.{AllPairs, bytes_eq, is_some}
use Rattle.std.specs.List.{position_from}
use Rattle.cm_base.specs.declared.faults.Table.TheVariants as table
use Rattle.cm_base.specs.declared.limited.Limited.TheVariants as limit
use Rattle.model_cred.specs.Files.{FileRow, Mount}
use Rattle.model_cred.specs.World.{World}
use Rattle.model_text.proofs.FileTexts.{paths_of}
use Rattle.model_text.proofs.Found.{text_same}
use Rattle.model_text.proofs.Rows.{any_rows, none_stands, read_ok, rows_keep, unless_ok}
use Rattle.model_text.proofs.Starts.{Declares, Made, declares}
use Rattle.model_text.specs.FileText.{file_checks, file_declared, file_keys, file_row, path_of}
use Rattle.model_text.specs.Keys.{key_checks}
use Rattle.model_text.specs.NameText.{is_name, is_one_of, is_path}
use Rattle.model_text.specs.Refusal.{first_standing, read_rows}
use Rattle.model_text.specs.SpaceText.{Declared, name_of, none_declared, space_checks, space_keys, space_row}
use Rattle.model_text.specs.WorldText.{rows_at}
use Rattle.model_text.specs.Written.{AreNames, ArePaths, DeclaredNamesKeep, KeepsNames}
use Rattle.toml.specs.Data.{Items, Members}

-- ---- texts, each once
-- a text that is none of these differs from each
none_of : (texts : List (List ℕ)) (text : List ℕ) → is_one_of texts text ≡ false → (k : ℕ) (d : List ℕ)
    → k < length texts → get_or texts k d ≢ text
none_of [] text none k d within same = omega arith
none_of (first ∷ texts) text none zero d within same =
    let differs : bytes_eq first text ≡ false = (or_parts (bytes_eq first text) (is_one_of texts text) none).0 in
    false≢true (sym differs ∙ ap (λ t. bytes_eq t text) same ∙ text_same text)
none_of (first ∷ texts) text none (suc k) d within same =
    none_of texts text (or_parts (bytes_eq first text) (is_one_of texts text) none).1 k d (omega arith) same

-- one text more
more_distinct : (texts : List (List ℕ)) (text : List ℕ) → AllPairs (λ text other. text ≢ other) texts → is_one_of texts text ≡ false
    → AllPairs (λ text other. text ≢ other) (texts ++ text ∷ [])
more_distinct texts text distinct none = all_pairs_push (λ text other. text ≢ other) texts text distinct (none_of texts text none)

none_distinct : AllPairs {X = List ℕ} (λ text other. text ≢ other) []
none_distinct i j d before within same = omega arith

-- ---- names
one_more : (before : Declared) (row : Members) (all : Declared) → AreNames before.names → Unit {0} → space_row before row ≡ Ok all → AreNames all.names
one_more before row all keeps any is =
    let parts = unless_ok (first_standing (key_checks space_keys row ++ space_checks before row)) _ all is in
    let passed = none_stands (key_checks space_keys row ++ space_checks before row) parts.0 in
    let name : IsTrue (is_name (name_of row)) = not-false (is_name (name_of row)) passed.1.1.1.1.0 in
    subst (λ (d : Declared). AreNames d.names) parts.1 (record {
      each = All-push (λ name. IsTrue (is_name name)) before.names (name_of row) keeps.each name;
      distinct = more_distinct before.names (name_of row) keeps.distinct passed.1.1.1.1.1.0;
    })

-- the names of the spaces of a world's text
names_keep : (rows : Items) (d : Declared) → read_rows table.Space limit.Spaces 1 space_row none_declared rows ≡ Ok d → AreNames d.names
names_keep rows d is =
    rows_keep table.Space space_row (λ (d : Declared). AreNames d.names) (λ row. Unit {0}) one_more 1 none_declared rows d
    (record { each = All-nil (λ (name : List ℕ). IsTrue (is_name name)); distinct = none_distinct })
    (any_rows rows) (read_ok table.Space limit.Spaces 1 space_row none_declared rows d is).1

-- ---- paths
-- a path that no row has is none of the rows' paths
no_row : (n : ℕ) (rows : List FileRow) (path : List ℕ) → is_some (position_from (λ row. bytes_eq row.path path) n rows) ≡ false
    → is_one_of (paths_of rows) path ≡ false
no_row n [] path none = refl
no_row n (row ∷ rows) path none =
    by_first (bytes_eq row.path path) none (no_row (n + 1) rows path)
  where
    by_first : (b : Bool) → is_some (cond b (Some n) (position_from (λ row. bytes_eq row.path path) (n + 1) rows)) ≡ false
        → (is_some (position_from (λ row. bytes_eq row.path path) (n + 1) rows) ≡ false → is_one_of (paths_of rows) path ≡ false)
        → (b || is_one_of (paths_of rows) path) ≡ false
    by_first true none rest = absurd (cc)
    by_first false none rest = rest none

one_path_more : (mounts : List Mount) (before : List FileRow) (row : Members) (all : List FileRow) → ArePaths (paths_of before) → Unit {0}
    → file_row mounts before row ≡ Ok all → ArePaths (paths_of all)
one_path_more mounts before row all keeps any is =
    let parts = unless_ok (first_standing (key_checks file_keys row ++ file_checks mounts before row)) _ all is in
    let passed = none_stands (key_checks file_keys row ++ file_checks mounts before row) parts.0 in
    let path : IsTrue (is_path (path_of row)) = not-false (is_path (path_of row)) passed.1.1.1.1.0 in
    let none : is_one_of (paths_of before) (path_of row) ≡ false
    = no_row 0 before (path_of row) (ap is_some (sym (position_from-zero (λ row'. bytes_eq row'.path (path_of row)) before)) ∙ passed.1.1.1.1.1.0) in
    let more : ArePaths (paths_of before ++ path_of row ∷ []) = record {
      each = All-push (λ path. IsTrue (is_path path)) (paths_of before) (path_of row) keeps.each path;
      distinct = more_distinct (paths_of before) (path_of row) keeps.distinct none;
    } in
    subst (λ (rows : List FileRow). ArePaths (paths_of rows)) parts.1
    (subst ArePaths (sym (map-append (λ (row : FileRow). row.path) before (file_declared mounts before row ∷ []))) more)

-- the paths of the files of a world's text
paths_keep : (mounts : List Mount) (rows : Items) (files : List FileRow) → read_rows table.File limit.Files 0 (file_row mounts) [] rows ≡ Ok files
    → ArePaths (paths_of files)
paths_keep mounts rows files is =
    rows_keep table.File (file_row mounts) (λ (rows : List FileRow). ArePaths (paths_of rows)) (λ row. Unit {0}) (one_path_more mounts) 1 [] rows files
    (record { each = All-nil (λ (path : List ℕ). IsTrue (is_path path)); distinct = none_distinct })
    (any_rows rows) (read_ok table.File limit.Files 0 (file_row mounts) [] rows files is).1

-- ---- worlds
made_keep : (top : Members) (w : World) → Made top w → KeepsNames w
made_keep top w m = subst KeepsNames m.is (record {
  names = names_keep (rows_at (codes "space") top) m.declared m.spaces_read;
  paths = paths_keep m.mounts (rows_at (codes "file") top) m.files m.files_read;
})

pub declared_names_keep : DeclaredNamesKeep
unfolding DeclaredNamesKeep
declared_names_keep bytes w is =
    let d : Declares bytes w = declares bytes w is in
    made_keep d.top w d.made

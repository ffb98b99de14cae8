-- Files as they are written: a token, no `=`, which is read as the file, where the paths of the table keep their rules.
use Rattle.std.proofs.Common.{◌≡◌, ℕ, ◌<◌, true, false, not, List, length, map, refl, ap, ◌∙◌, arith, Option, Some}
use Rattle.std.proofs.Common.{None, inl, inr, lit<, nat_le, eqb}
use Rattle.std.proofs.lemmas.Bool.{and_parts, leb-true}
use Rattle.std.proofs.lemmas.Option.{slice_get-map, slice_get_cases}
use Rattle.std.specs.Prelude.{codes, bytes_eq, slice_get, option_map, unwrap_or}
use Rattle.cm_base.proofs.Texts.{text_other}
use Rattle.cm_base.specs.declared.res.FileRef.{FileRef}
use Rattle.cm_base.specs.declared.res.FileRef.TheVariants.{Row, Plain}
use Rattle.model_cred.specs.Files.{FileRow, FileTable, IsDeclared, row_named}
use Rattle.model_text.proofs.Found.{text_same, all_at, all_weaker, position_at, distinct_at, all_passes}
use Rattle.model_text.proofs.Tokens.{IsToken, is_plain, plain_above}
use Rattle.model_text.specs.NameText.{is_path_byte, is_path}
use Rattle.model_text.specs.Written.{ArePaths}
use Rattle.model_text.specs.Token.{file_token, file_text, is_equals}

-- What is written of a file.
pub record FileWritten (files : FileTable) (file : FileRef) (text : List ℕ) : Type 0 where
  pub token : IsToken text
  pub plain : is_equals text ≡ false
  pub back : file_token files text ≡ Some file

-- What a path is.
record IsPath (path : List ℕ) : Type 0 where
  token : IsToken path
  dash : bytes_eq path (codes "-") ≡ false
  equals : is_equals path ≡ false

plain_byte : (byte : ℕ) → is_path_byte byte ≡ true → is_plain byte ≡ true
plain_byte byte is = plain_above byte (leb-true 33 byte (and_parts (nat_le 33 byte) (not (eqb byte 127)) is).0)

path_is : (path : List ℕ) → is_path path ≡ true → IsPath path
unfolding is_path
path_is path is = record {
  token =
      record {
        some = grind arith;
        short = grind arith;
        plain = all_weaker is_path_byte is_plain plain_byte path
            (grind arith);
      };
  dash = grind arith;
  equals = grind arith;
}

-- the paths of rows
abbrev pub paths_of : List FileRow → List (List ℕ)
paths_of rows = map (λ row. row.path) rows

-- the path of the row at a place
path_at : (rows : List FileRow) (i : ℕ) (row : FileRow) → slice_get rows i ≡ Some row → slice_get (paths_of rows) i ≡ Some row.path
path_at rows i row is = slice_get-map (λ (row : FileRow). row.path) rows i ∙ ap (option_map (λ (row : FileRow). row.path)) is

row_written : (files : FileTable) (i : ℕ) (row : FileRow) → ArePaths (paths_of files.rows) → slice_get files.rows i ≡ Some row
    → FileWritten files (Row i) row.path
row_written files i row are is =
    let path : List ℕ = row.path in
    let there : slice_get (paths_of files.rows) i ≡ Some path = path_at files.rows i row is in
    let rule : is_path path ≡ true = all_at is_path (paths_of files.rows) i path (all_passes is_path (paths_of files.rows) are.each) there in
    let kept : IsPath path = path_is path rule in
    let place : row_named files.rows path ≡ Some i =
    position_at (λ (row : FileRow). bytes_eq row.path path) files.rows i row is (text_same path)
    (λ k other below at. text_other other.path path
    (distinct_at (paths_of files.rows) are.distinct k i other.path path below (path_at files.rows k other at) there)) in
    record { token = kept.token; plain = kept.equals; back = rw (rule, kept.dash, place) refl }

-- the row of that number, which is there
row_there : (files : FileTable) (i : ℕ) (row : Option FileRow) → ArePaths (paths_of files.rows) → i < length files.rows → slice_get files.rows i ≡ row
    → FileWritten files (Row i) (unwrap_or (option_map (λ (row : FileRow). row.path) row) (codes "-"))
row_there files i (Some row) are within is = row_written files i row are is
row_there files i None are within is =
    elim (slice_get_cases files.rows i).1 [
      | inl inside ↦ absurd (let found = inside.2 in cc)
      | inr past ↦ absurd (let over = past.0 in omega arith)
    ]

pub file_written : (files : FileTable) (file : FileRef) → ArePaths (paths_of files.rows) → IsDeclared files file
    → FileWritten files file (file_text files file)
file_written files Plain are there = record { token = record { some = lit< tt; short = lit< tt; plain = refl }; plain = refl; back = refl }
file_written files (Row i) are within = row_there files i (slice_get files.rows i) are within refl

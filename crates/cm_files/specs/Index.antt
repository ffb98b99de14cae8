-- An index of declared files: the numbers of the rows in the order of their paths' keys, those of one key in the order
-- of their paths, byte by byte.
use Rattle.std.specs.Prelude.{◌≡◌, ℕ, ◌-◌, ◌*◌, ◌%◌, ◌^◌, ◌==◌, ◌<◌, ◌≤◌, bit_or, drop, Bool, false, IsTrue, length, slice_index, slice_index_or, List, [], ◌∷◌, None}
use Rattle.std.specs.Cmp.Lexicographic.{slice_cmp}
use Rattle.std.specs.List.{fold, list_any}
use Rattle.std.specs.Ordering.{is_lt, nat_cmp}
use Rattle.model_cred.specs.Files.{FileRow}

-- a row without a path, in the place of one that isn't there
abbrev pub no_row : FileRow
no_row = record { path = []; mount = 0; uid = 0; gid = 0; mode = 0; caps = None; interpreter = None }

-- the path of the row whose number stands at a place of the index
abbrev pub path_at : List FileRow → List ℕ → ℕ → List ℕ
path_at rows order i = (slice_index_or rows (slice_index order i) no_row).path

-- a number of eight bytes, moved up by one, whose lowest byte is then this one
abbrev pub with_byte : ℕ → ℕ → ℕ
with_byte key byte = bit_or ((key * 2 ^ 8) % 2 ^ 64) byte

-- The key of a path: its last eight bytes as a number, in which most paths differ, or all of them where it has fewer.
-- Only the order depends on which number it is.
unfoldable pub path_key : List ℕ → ℕ
path_key path = fold with_byte 0 (drop (length path - 8) path)

-- a path after its key
abbrev pub keyed : List ℕ → List ℕ
keyed path = path_key path ∷ path

-- the first path comes before the second one: by its key, or where the keys are one by its bytes
abbrev pub is_before : List ℕ → List ℕ → Bool
is_before path other = is_lt (slice_cmp nat_cmp (keyed path) (keyed other))

-- The numbers are of rows, and the paths of these ascend.
pub record Ascend (rows : List FileRow) (order : List ℕ) : Type 0 where
  pub numbers : (i : ℕ) → i < length order → slice_index order i < length rows
  pub paths : (i j : ℕ) → i < j → j < length order → IsTrue (is_before (path_at rows order i) (path_at rows order j))

-- Each place has the key of its path.
pub record HasKeys (rows : List FileRow) (order keys : List ℕ) : Type 0 where
  pub counted : length keys ≡ length order
  pub each : (i : ℕ) → i < length order → slice_index keys i ≡ path_key (path_at rows order i)

-- The place of a path: those at the places before it come before the path, those from it on don't.
pub record IsPlace (rows : List FileRow) (order path : List ℕ) (at : ℕ) : Type 0 where
  pub within : at ≤ length order
  pub below : (k : ℕ) → k < at → IsTrue (is_before (path_at rows order k) path)
  pub rest : (k : ℕ) → at ≤ k → k < length order → is_before (path_at rows order k) path ≡ false

-- The list is the index of the first rows, as many as counted: it has just their numbers, and their paths ascend.
pub record IsIndex (rows : List FileRow) (count : ℕ) (order : List ℕ) : Type 0 where
  pub ascend : Ascend rows order
  pub counted : count ≤ length rows
  pub first : (i : ℕ) → i < length order → slice_index order i < count
  pub whole : (n : ℕ) → n < count → IsTrue (list_any (λ m. m == n) order)

-- Rows that grow and stay within all closed bounds, and the list of the rows that are to be looked at.
use Rattle.std.specs.Prelude.{◌≡◌, ◌≢◌, ℕ, ◌<◌, ◌≤◌, ◌^◌, Bool, true, false, List, length, slice_index_or}
use Rattle.cm_box.specs.declared.setting.Setting.{Setting}
use Rattle.cm_filter.specs.Filters.{permits}
use Rattle.cm_filter.specs.declared.kind.CallKind.{CallKind}
use Rattle.model_cred.specs.Files.{FileTable}
use Rattle.model_cred.specs.Space.{Spaces}
use Rattle.model_box.specs.Bounds.{BoxRow, row_in}
use Rattle.model_box.specs.Closed.{Closed, ClosedAt}
use Rattle.model_box.specs.Covers.{Earlier}
use Rattle.model_box.specs.Laws.{tested}
use Rattle.model_box.specs.Reads.{IsAbove}
use Rattle.model_box.specs.Row.{IsWithin, row_at, space_under}
use Rattle.model_box.specs.Rule.{Rule, rule_number}
use Rattle.cm_box_rows.specs.Rows.{RowsHold}
use Rattle.model_verdict.specs.Least.{Test}
use Rattle.model_verdict.specs.Rows.{AreLow}
use Rattle.model_verdict.specs.Sweep.{row_count}

-- Fewer than 2^31 spaces stand, and the rows are two of each.
pub record IsReady (setting : Setting) (bounds : List BoxRow) : Type 0 where
  pub rows : length bounds ≡ row_count setting.state.now.spaces
  pub few : length setting.state.now.spaces < 2 ^ 31

-- So they are, and the number is that of one of them.
pub record IsReadyAt (setting : Setting) (bounds : List BoxRow) (row : ℕ) : Type 0 where
  pub rows : length bounds ≡ row_count setting.state.now.spaces
  pub few : length setting.state.now.spaces < 2 ^ 31
  pub there : row < row_count setting.state.now.spaces

-- The new rows hold the old ones, and are within all closed bounds that hold the old ones.
pub record Widens (permitted : CallKind → Bool) (files : FileTable) (spaces : Spaces) (old new : List BoxRow) : Type 0
  where
    pub count : length new ≡ length old
    pub grown : IsWithin (RowsHold old) (RowsHold new)
    pub within : (other : Test) → Closed permitted files spaces (tested other) → IsWithin (RowsHold old) (tested other)
        → IsWithin (RowsHold new) (tested other)

-- So they do, only the row of that number may have changed, and the flag says whether it holds more now.
pub record Visits (permitted : CallKind → Bool) (files : FileTable) (spaces : Spaces) (y : ℕ)
    (old new : List BoxRow) (more : Bool) : Type 0 where
  pub widens : Widens permitted files spaces old new
  pub elsewhere : (z : ℕ) → z ≢ y → row_in new z ≡ row_in old z
  pub same : more ≡ false → new ≡ old
  pub larger : more ≡ true → IsWithin (RowsHold new) (RowsHold old) → ⊥

-- That of the rules of a setting.
abbrev pub VisitsIn : Setting → ℕ → List BoxRow → List BoxRow → Bool → Type 0
VisitsIn setting y old new more =
    Visits (permits setting.filter) setting.files.now setting.state.now.spaces y old new more

-- The row of that number rests: it holds what each rule adds to it.
abbrev pub Rests : (CallKind → Bool) → FileTable → Spaces → List BoxRow → ℕ → Type 0
Rests permitted files spaces rows y = (rule : Rule) → ClosedAt permitted files spaces (RowsHold rows) rule (row_at y)

-- It holds what each rule adds to it whose number is from the one on and below the other.
abbrev pub RestsUnder : (CallKind → Bool) → FileTable → Spaces → List BoxRow → ℕ → ℕ → ℕ → Type 0
RestsUnder permitted files spaces rows y from to =
    (rule : Rule) → from ≤ rule_number rule → rule_number rule < to
    → ClosedAt permitted files spaces (RowsHold rows) rule (row_at y)

-- That of the rules of a setting.
abbrev pub RestsIn : Setting → List BoxRow → ℕ → ℕ → ℕ → Type 0
RestsIn setting rows y from to =
    RestsUnder (permits setting.filter) setting.files.now setting.state.now.spaces rows y from to

-- whether the row of that number is on the list
abbrev pub is_listed : List Bool → ℕ → Bool
is_listed list y = slice_index_or list y false

-- Each row that isn't on the list rests.
abbrev pub OthersRest : (CallKind → Bool) → FileTable → Spaces → List Bool → List BoxRow → Type 0
OthersRest permitted files spaces list rows =
    (y : ℕ) → y < row_count spaces → is_listed list y ≡ false → Rests permitted files spaces rows y

-- The list has a place for each row, each that isn't on it rests, and each space is made after its parent.
pub record AreWaiting (setting : Setting) (waiting : List Bool) (bounds : List BoxRow) : Type 0 where
  pub list : length waiting ≡ row_count setting.state.now.spaces
  pub earlier : Earlier setting.state.now.spaces
  pub low : AreLow setting.state.now.spaces (RowsHold bounds)
  pub rest : OthersRest (permits setting.filter) setting.files.now setting.state.now.spaces waiting bounds

-- Rows were looked at: each that isn't on the new list rests, and the flag says whether they hold more.
pub record Passes (setting : Setting) (waiting after : List Bool) (old new : List BoxRow) (more : Bool) : Type 0
  where
    pub widens : Widens (permits setting.filter) setting.files.now setting.state.now.spaces old new
    pub list : length after ≡ length waiting
    pub rest : OthersRest (permits setting.filter) setting.files.now setting.state.now.spaces after new
    pub larger : more ≡ true → IsWithin (RowsHold new) (RowsHold old) → ⊥

-- The second row may read the first one, and isn't it.
abbrev pub MayRead : Spaces → ℕ → ℕ → Type 0
MayRead spaces y z = IsAbove spaces (space_under (row_at z)) (row_at y)

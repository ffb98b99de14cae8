-- Files in memory, by their names.
use Rattle.std.specs.Prelude.{◌≡◌, ◌-◌, ℕ, min, List, [], ◌∷◌, length, Bool, Vec, Option, Result, IfSome, IfOk}
use Rattle.std.specs.List.{list_any}
use Rattle.std.specs.Str.{bytes_eq}
use Rattle.std.specs.declared.alloc.Global.{Global}
use Rattle.cm_io.specs.Shelf.{Files, bytes_at}
use Rattle.cm_io.specs.Counts.{names_of}
use Rattle.cm_io.specs.declared.held.Held.{Held}
use Rattle.cm_io.specs.declared.outside.Outside.{Outside}

-- the files of these names and texts, in their order, as long as there are both
abbrev pub files_of : List (List ℕ) → List (Vec ℕ Global) → Files
files_of [] texts = []
files_of (name ∷ names) [] = []
files_of (name ∷ names) (text ∷ texts) = (name, text.items) ∷ files_of names texts

-- the files: the first of the names that have counts are theirs
abbrev pub held_files : Held → Files
held_files held = files_of (names_of held.counts) held.texts.items

-- whether a file has this name
abbrev pub is_held : Files → List ℕ → Bool
is_held files name = list_any (λ file. bytes_eq file.0 name) files

-- a read gives as much as there is from a place on, and fits
abbrev pub GivesAll : Option Files → List ℕ → ℕ → List ℕ → Result ℕ Outside → Type 0
GivesAll held name place buffer r =
    IfSome held (λ files. IfOk r (λ n. n ≡ min (length buffer) (length (bytes_at files name) - place)))

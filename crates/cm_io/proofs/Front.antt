-- A text that is read from the front of a file on.
use Rattle.std.proofs.Common.{◌≡◌, ◌+◌, ℕ, List, ◌++◌, take, Option, Some, None, IfSome}
use Rattle.std.proofs.Math.Seq.{take-add}
use Rattle.cm_io.specs.Shelf.{Files, bytes_at, ReadsText}

-- the text has the first n bytes under a name, where it is told what is held
abbrev pub IsFront : Option Files → List ℕ → ℕ → List ℕ → Type 0
IsFront held name n text = IfSome held (λ files. text ≡ take n (bytes_at files name))

-- a read more, from the text's end on
pub front_more : (held : Option Files) (name text more buffer : List ℕ) (k n m : ℕ) → IsFront held name k text
    → IfSome held (λ files. ReadsText (bytes_at files name) k buffer n) → more ≡ text ++ take n buffer → m ≡ k + n → IsFront held name m more
front_more None name text more buffer k n m front read made size = tt
front_more (Some files) name text more buffer k n m front read made size =
    let part = read.part in
    let sum = take-add k n (bytes_at files name) in
    cc

-- The names of paths.
use Rattle.std.proofs.Common.{◌≡◌, ℕ, ◌==◌, List, [], ◌∷◌, ◌++◌, None, refl, ap, sym, inl, inr}
use Rattle.std.proofs.Common.{append_assoc, length, ◌<◌, arith}
use Rattle.std.proofs.lemmas.Grind.{reverse_onto}
use Rattle.std.proofs.lemmas.List.{length-reverse}
use Rattle.std.proofs.lemmas.Bool.{cases_Bool}
use Rattle.std.specs.Prelude.{codes, reverse, bytes_eq, true, false, ◌&&◌}
use Rattle.std.specs.List.{onto_first}
use Rattle.model_strace.specs.Files.{path_names, file_of, last_file, proc_file}

-- a byte onto the first of some pieces leaves pieces
onto_some : (byte : ℕ) (pieces : List (List ℕ)) → (first : List ℕ) × (more : List (List ℕ)) × (onto_first byte pieces ≡ first ∷ more)
onto_some byte [] = (byte ∷ [], [], refl)
onto_some byte (piece ∷ pieces) = (byte ∷ piece, pieces, refl)

-- a path has a name, be it empty
pub some_name : (path : List ℕ) → (first : List ℕ) × (more : List (List ℕ)) × (path_names path ≡ first ∷ more)
some_name [] = ([], [], refl)
some_name (byte ∷ path) =
    elim (cases_Bool (byte == 47)) [
      | inl slash ↦ ([], path_names path, rw slash refl)
      | inr other ↦ let some = onto_some byte (path_names path) in (some.0, some.1, rw other some.2)
    ]

-- three names in a process's folder are none of its files
pub deep_is_none : (folder name path : List ℕ) → file_of (folder ∷ name ∷ path_names path) ≡ None
deep_is_none folder name path = let some = some_name path in rw some.2 refl

-- of names from the last on, only two count
two_count : (first : List ℕ) (names : List (List ℕ)) (folder other : List ℕ)
    → last_file (first ∷ names ++ folder ∷ other ∷ []) ≡ last_file (first ∷ names ++ folder ∷ [])
two_count first [] folder other = refl
two_count first (name ∷ names) folder other = refl

-- a list of some names has a first one
has_first : (names : List (List ℕ)) → 0 < length names → (first : List ℕ) × (more : List (List ℕ)) × (names ≡ first ∷ more)
has_first [] some = absurd (omega arith)
has_first (first ∷ more) some = (first, more, refl)

-- a path has a last name
last_name : (path : List ℕ) → (last : List ℕ) × (before : List (List ℕ)) × (reverse (path_names path) ≡ last ∷ before)
last_name path =
    let some = some_name path in
    let long : length (reverse (path_names path)) ≡ length (path_names path) = length-reverse (path_names path) in
    let longer : length (path_names path) ≡ length (some.0 ∷ some.1) = ap length some.2 in
    has_first (reverse (path_names path)) (omega (arith, long, longer))

-- where a name stands before more of them, its folder doesn't count
pub step_name : (rest name more folder : List ℕ) → path_names rest ≡ name ∷ path_names more
    → last_file (reverse (path_names more) ++ name ∷ []) ≡ last_file (reverse (path_names rest) ++ folder ∷ [])
step_name rest name more folder cut =
    let last = last_name more in
    rw (cut, reverse_onto (path_names more) name [], append_assoc (reverse (path_names more)) (name ∷ []) (folder ∷ []), last.2)
    (sym (two_count last.0 last.1 name folder))

-- an absolute path in /proc
pub in_proc : (own : ℕ) (root proc : List ℕ) (names : List (List ℕ)) → (bytes_eq root [] && bytes_eq proc (codes "proc")) ≡ true
    → proc_file own (root ∷ proc ∷ names) ≡ proc_file own ([] ∷ codes "proc" ∷ names)
in_proc own root proc [] is = refl
in_proc own root proc (folder ∷ names) is = rw is refl

-- another path
pub not_proc : (own : ℕ) (root proc : List ℕ) (names : List (List ℕ)) → (bytes_eq root [] && bytes_eq proc (codes "proc")) ≡ false
    → proc_file own (root ∷ proc ∷ names) ≡ None
not_proc own root proc [] is = refl
not_proc own root proc (folder ∷ names) is = rw is refl

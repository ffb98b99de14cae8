-- What writers do to a text, in the contracts of all crates that write.
use Rattle.std.specs.Prelude.{◌≡◌, ◌++◌, List}

-- The new list is the old one with the piece at its end.
abbrev pub Appends : {T : Type 0} → List T → List T → List T → Type 0
Appends old new piece = new ≡ old ++ piece

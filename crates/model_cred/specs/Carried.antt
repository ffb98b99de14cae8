-- What a call carries besides its kind, by the shape of its arguments.
use Rattle.std.specs.Prelude.{ℕ, Bool, List, [], ◌∷◌}
use Rattle.cm_base.specs.declared.res.FileRef.{FileRef}
use Rattle.cm_filter.specs.Filters.{Filter}
use Rattle.cm_filter.specs.Shapes.{Form, AWord, AFile, AKind, Pattern, Just, Ids, Triples, Kinds}
use Rattle.cm_filter.specs.declared.kind.CallKind.{CallKind}
use Rattle.model_cred.specs.IdMap.{Extent}

-- what an argument of the form is: a word, which is "deny" where it is true, else "allow"; a file; a kind; else a
-- number
abbrev pub Value : Form → Type 0
Value AWord = Bool
Value AFile = FileRef
Value AKind = CallKind
Value _ = ℕ

-- what arguments of these forms are, one after the other
abbrev pub Values : List Form → Type 0
Values [] = Unit {0}
Values (form ∷ forms) = Value form × Values forms

-- what a call with these arguments carries
abbrev pub Carries : Pattern → Type 0
Carries (Just forms) = Values forms
Carries Ids = List ℕ
Carries Triples = ℕ × List Extent
Carries Kinds = Filter

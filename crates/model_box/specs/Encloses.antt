-- Bounds that enclose a family: those on which an answer about later runs can rest.
use Rattle.std.specs.Prelude.{ℕ, Bool, List}
use Rattle.cm_filter.specs.declared.kind.CallKind.{CallKind}
use Rattle.model_cred.specs.Files.{FileTable}
use Rattle.model_cred.specs.Process.{State}
use Rattle.model_box.specs.Row.{Part, Row}
use Rattle.model_box.specs.Closed.{Closed}
use Rattle.model_box.specs.Covers.{Covers}

-- The bounds are closed, and cover the members at the query.
pub record Encloses (permitted : CallKind → Bool) (files : FileTable) (s : State) (members : List ℕ)
    (bounds : Row → Part → ℕ → Type 0) : Type 0 where
  pub closed : Closed permitted files s.spaces bounds
  pub covers : Covers s members s members bounds

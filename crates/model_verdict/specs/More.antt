-- A family with more members: what is said of fewer stays said.
use Rattle.std.specs.Prelude.{ℕ, Bool, IsTrue, List}
use Rattle.cm_filter.specs.declared.kind.CallKind.{CallKind}
use Rattle.model_cred.specs.Files.{FileTable}
use Rattle.model_cred.specs.Process.{State}
use Rattle.model_cred.specs.Right.{Right}
use Rattle.model_cred.specs.World.{World}
use Rattle.model_run.specs.Later.{is_member}
use Rattle.model_box.specs.Covers.{StateFits}
use Rattle.model_box.specs.Row.{IsWithin}
use Rattle.model_box.specs.Laws.{tested, PermitsWithin}
use Rattle.model_verdict.specs.Least.{Test, IsLeast}
use Rattle.model_verdict.specs.Decides.{FoundIn}

-- each of the one list is in the other
abbrev pub AreAmong : List ℕ → List ℕ → Type 0
AreAmong members more = (pid : ℕ) → IsTrue (is_member members pid) → IsTrue (is_member more pid)

-- What plans find is found with more members too: no `no` is lost.
unfoldable pub MoreFind : Type 0
MoreFind = (w : World) (s : State) (members more : List ℕ) (right : Right)
    → AreAmong members more → FoundIn w s members right → FoundIn w s more right

-- Bounds that enclose more members, which may call no less together, enclose these: so the least bounds of more members
-- are no smaller.
unfoldable pub MoreNeedMore : Type 0
MoreNeedMore =
    (permitted wider : CallKind → Bool) (files : FileTable) (s : State) (members more : List ℕ) (bounds larger : Test)
    → StateFits s → PermitsWithin permitted wider → AreAmong members more → IsLeast permitted files s members bounds
    → IsLeast wider files s more larger → IsWithin (tested bounds) (tested larger)

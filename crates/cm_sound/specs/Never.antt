-- What later runs start from, and what is never held after any of them.
use Rattle.model_box.specs.Covers.{CanStart}
use Rattle.model_box.specs.Files.{FilesFit}
use Rattle.model_cred.specs.Process.{State}
use Rattle.model_cred.specs.World.{World}
pub use Rattle.model_run.specs.Never.{MountsStand, NeverHeld}

-- What later runs start from: parents of spaces are earlier, each process is in a space that stands, and its sets are
-- within one another; the space of each mount stands, and no interpreter is itself a script.
pub record Fits (w : World) (s : State) : Type 0 where
  pub state : CanStart s
  pub files : FilesFit w.files s.spaces

-- What holds of each world that a text declares.
use Rattle.std.specs.Prelude.{◌≡◌, ℕ, List}
use Rattle.model_cred.specs.World.{World, KeepsWorld}
use Rattle.model_text.specs.WorldText.{Reads, world_text}

-- It keeps what a world keeps: what each credential keeps, the order of pids, the tree of spaces, what mounts and files keep.
unfoldable pub ReadWorldsKeep : Type 0
ReadWorldsKeep = (bytes : List ℕ) (w : World) → world_text bytes ≡ Reads w → KeepsWorld w

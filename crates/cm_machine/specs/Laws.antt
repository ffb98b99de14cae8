-- What holds of the state that the machine begins with, in each world that a text declares.
use Rattle.std.specs.Prelude.{◌≡◌, ℕ, List}
use Rattle.model_cred.specs.World.{World}
use Rattle.model_laws.specs.Families.{ChainsEnd}
use Rattle.model_text.specs.WorldText.{Reads, world_text}

-- Chains of forebears end: a parent is the process of an earlier row.
unfoldable pub ReadChainsEnd : Type 0
ReadChainsEnd = (bytes : List ℕ) (w : World) → world_text bytes ≡ Reads w → ChainsEnd w.start

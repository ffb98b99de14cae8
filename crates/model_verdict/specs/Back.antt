-- Maps that take their outside ids up and back again. Each list that is a map does, and runs keep it.
use Rattle.std.specs.Prelude.{ℕ, IsTrue, List, All}
use Rattle.model_cred.specs.Call.{Event}
use Rattle.model_cred.specs.IdMap.{Extent, extents_of, is_outside}
use Rattle.model_cred.specs.MapFault.{IsMap}
use Rattle.model_cred.specs.Process.{State, KeepsState}
use Rattle.model_cred.specs.Space.{Space}
use Rattle.model_cred.specs.World.{World}
use Rattle.model_run.specs.Step.{Run}
use Rattle.model_plans.specs.Effects.{StandsFor}

-- The map takes each of its outside ids up to an inside id, which it takes down to it again, and which isn't -1.
abbrev pub TakesBack : List Extent → Type 0
TakesBack map = (id : ℕ) → IsTrue (is_outside map id) → (inside : ℕ) × StandsFor map inside id

-- Both maps of the space do; a map that isn't written has no outside ids.
pub record TakeBack (space : Space) : Type 0 where
  pub uids : TakesBack (extents_of space.uids)
  pub gids : TakesBack (extents_of space.gids)

-- Each list that is a map does.
unfoldable pub MapsTakeBack : Type 0
MapsTakeBack = (map : List Extent) → IsMap map → TakesBack map

-- Where the maps of all spaces do, they do after each run.
unfoldable pub RunsKeepTakingBack : Type 0
RunsKeepTakingBack =
    (w : World) (s : State) (events : List Event) (later : State)
    → Run w s events later → All TakeBack s.spaces → All TakeBack later.spaces

-- In each state that keeps what a state keeps, the maps of all spaces do.
unfoldable pub KeptTakeBack : Type 0
KeptTakeBack = (s : State) → KeepsState s → All TakeBack s.spaces

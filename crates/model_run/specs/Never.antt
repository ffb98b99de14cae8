-- What is asked of mounts where later runs begin, and what is never held after any of them.
use Rattle.std.specs.Prelude.{◌≡◌, ◌<◌, ℕ, false, IsTrue, length, List, All}
use Rattle.model_cred.specs.Call.{Event}
use Rattle.model_cred.specs.Process.{State}
use Rattle.model_cred.specs.Right.{Right}
use Rattle.model_cred.specs.World.{World}
use Rattle.model_run.specs.Holds.{process_holds}
use Rattle.model_run.specs.Later.{LaterRun, is_member}

-- The space of each mount stands.
abbrev pub MountsStand : World → State → Type 0
MountsStand w s = All (λ m. m.space < length s.spaces) w.files.mounts

-- After no later run under the world's filter and each caller's own does a member hold the right. A run has any length,
-- births and exits among its events, and the members make their calls in any order. The empty run is the present moment.
abbrev pub NeverHeld : World → State → List ℕ → Right → Type 0
NeverHeld w s members right =
    (events : List Event) (later : State) (members_then : List ℕ) → LaterRun w s members events later members_then
    → (pid : ℕ) → IsTrue (is_member members_then pid) → process_holds later pid right ≡ false

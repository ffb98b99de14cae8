-- What is proved of rows that enclose a family, and of the states that logs lead to.
use Rattle.std.specs.Prelude.{◌≡◌, ℕ, ◌<◌, ◌^◌, List, length}
use Rattle.cm_box_rows.specs.Rows.{RowsHold}
use Rattle.cm_sound.specs.Judged.{EnclosesIn, Excludes}
use Rattle.cm_sound.specs.Never.{Fits, MountsStand, NeverHeld}
use Rattle.model_box.specs.Bounds.{BoxRow}
use Rattle.model_box.specs.Covers.{Covers}
use Rattle.model_box.specs.Meets.{IsOverStanding}
use Rattle.model_cred.specs.Call.{Event}
use Rattle.model_cred.specs.Process.{State}
use Rattle.model_cred.specs.Right.{Right}
use Rattle.model_cred.specs.World.{World}
use Rattle.model_run.specs.Later.{LaterRun}
use Rattle.model_run.specs.Step.{Run}
use Rattle.model_text.specs.WorldText.{Reads, world_text}

-- Rows that enclose a family, whoever made them, cover it after every later run.
unfoldable pub StayCovering : Type 0
StayCovering =
    (w : World) (s : State) (members : List ℕ) (rows : List BoxRow) → Fits w s → EnclosesIn w s members rows
    → (events : List Event) (later : State) (members_then : List ℕ) → LaterRun w s members events later members_then
    → Covers s members later members_then (RowsHold rows)

-- A world that a text declares, and the state that a log leads to in it, are such that later runs can start from there.
unfoldable pub FitAfterLog : Type 0
FitAfterLog =
    (text : List ℕ) (w : World) → world_text text ≡ Reads w → (log : List Event) (s : State) → Run w w.start log s
    → Fits w s

-- So the space of each mount stands there.
unfoldable pub MountsStandAfterLog : Type 0
MountsStandAfterLog =
    (text : List ℕ) (w : World) → world_text text ≡ Reads w → (log : List Event) (s : State) → Run w w.start log s
    → MountsStand w s

-- Few enough spaces stand at the log's beginning.
unfoldable pub FewAtStart : Type 0
FewAtStart = (text : List ℕ) (w : World) → world_text text ≡ Reads w → length w.start.spaces < 2 ^ 31

-- In the state after a log, in a world that a text declares, a right that is excluded is never held, with no premise
-- but that the space stands which it names.
unfoldable pub NeverHeldAfterLog : Type 0
NeverHeldAfterLog =
    (text : List ℕ) (w : World) → world_text text ≡ Reads w → (log : List Event) (s : State) → Run w w.start log s
    → (members : List ℕ) (right : Right) (rows : List BoxRow) → IsOverStanding s.spaces right
    → Excludes w s members rows right → NeverHeld w s members right

-- What rows that enclose a family exclude: the laws of bounds, over rows.
use Rattle.std.proofs.Common.{ℕ, List}
use Rattle.cm_box_rows.specs.Rows.{RowsHold}
use Rattle.cm_filter.specs.Filters.{permits}
use Rattle.cm_sound.specs.Judged.{Excludes}
use Rattle.cm_sound.specs.Laws.{StayCovering}
use Rattle.cm_sound.specs.Never.{Fits, MountsStand, NeverHeld}
use Rattle.model_box.proofs.Excludes.{exclusion, soundness}
use Rattle.model_box.proofs.Worlds.{files_fit}
use Rattle.model_box.specs.Bounds.{BoxRow}
use Rattle.model_box.specs.Covers.{CanStart}
use Rattle.model_box.specs.Meets.{IsOverStanding}
use Rattle.model_cred.specs.Files.{KeepsFiles}
use Rattle.model_cred.specs.Process.{State}
use Rattle.model_cred.specs.Right.{Right}
use Rattle.model_cred.specs.World.{World}
use Rattle.model_run.proofs.Filters.{own_is_common}
use Rattle.model_run.specs.Own.{common_filter}

-- Later runs start from a state that fits, beside files that keep what declared files keep, where the mounts' spaces
-- stand.
pub fits : (w : World) (s : State) → CanStart s → KeepsFiles w.files → MountsStand w s → Fits w s
fits w s state keeps mounts = record { state = state; files = files_fit w.files s.spaces keeps mounts }

pub stay_covering : StayCovering
unfolding StayCovering
stay_covering w s members rows fits encloses events later members_then run =
    soundness (permits (common_filter w s members)) (permits w.filter) w s members (RowsHold rows) fits.state fits.files
    encloses.covers encloses.closed (λ pid member kind may. own_is_common w s members pid kind member may) events later members_then run

-- A right that they exclude is never held.
pub never_held : (w : World) (s : State) (members : List ℕ) (rows : List BoxRow) (right : Right) → Fits w s
    → IsOverStanding s.spaces right → Excludes w s members rows right → NeverHeld w s members right
never_held w s members rows right fits named excludes events later members_then run pid member =
    exclusion (permits (common_filter w s members)) (permits w.filter) w s members (RowsHold rows) fits.state fits.files
    excludes.encloses.covers excludes.encloses.closed (λ pid member kind may. own_is_common w s members pid kind member may) right named excludes.apart
    events later members_then run pid member

-- The states that logs lead to, in worlds that texts declare.
use Rattle.std.proofs.Common.{◌≡◌, ℕ, List, arith}
use Rattle.cm_sound.proofs.Never.{never_held}
use Rattle.cm_sound.specs.Never.{MountsStand}
use Rattle.cm_sound.specs.Laws.{FitAfterLog, MountsStandAfterLog, FewAtStart, NeverHeldAfterLog}
use Rattle.model_box.proofs.Excludes.{fits_starts}
use Rattle.model_box.proofs.Grows.{run_grows}
use Rattle.model_box.proofs.Worlds.{run_fits, state_fits}
use Rattle.model_cred.specs.Process.{State, KeepsState}
use Rattle.model_cred.specs.World.{World, KeepsWorld}
use Rattle.model_laws.proofs.Keeping.{world_run_keeps}
use Rattle.model_laws.specs.Runs.{WorldRunKeeps}
use Rattle.model_text.proofs.Keeping.{start_keeps}
use Rattle.model_text.proofs.Starts.{start_spaces}
use Rattle.model_text.specs.WorldText.{Reads, world_text}

pub fit_after_log : FitAfterLog
unfolding FitAfterLog WorldRunKeeps
fit_after_log text w reads log s run =
    let keeps : KeepsWorld w = start_keeps text w reads in
    let state : KeepsState s = world_run_keeps w log s keeps run in
    record { state = fits_starts s (state_fits s state); files = run_fits w keeps log s run }

-- So it is at the log's beginning.
pub mounts_at_start : (text : List ℕ) (w : World) (s : State) → world_text text ≡ Reads w → s ≡ w.start → MountsStand w s
mounts_at_start text w s reads same = rw same (start_keeps text w reads).mounts

pub mounts_stand_after_log : MountsStandAfterLog
unfolding MountsStandAfterLog
mounts_stand_after_log text w reads log s run k d low =
    omega (arith, (start_keeps text w reads).mounts k d low, run_grows w w.start log s run)

pub few_at_start : FewAtStart
unfolding FewAtStart
few_at_start text w reads = omega (arith, start_spaces text w reads)

pub never_held_after_log : NeverHeldAfterLog
unfolding NeverHeldAfterLog FitAfterLog
never_held_after_log text w reads log s run members right rows named excludes =
    never_held w s members rows right (fit_after_log text w reads log s run) named excludes

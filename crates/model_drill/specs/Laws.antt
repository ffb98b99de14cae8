-- What holds of the drill.
use Rattle.std.specs.Prelude.{◌≡◌, ℕ, ◌≤◌, All, IsTrue, length}
use Rattle.cm_base.specs.Limited.{limit_number}
use Rattle.cm_base.specs.declared.limited.Limited.TheVariants as limit
use Rattle.cm_filter.specs.Filters.{no_filter}
use Rattle.model_cred.specs.Process.{State, KeepsState, is_alive, is_pid}
use Rattle.model_drill.specs.DrillWorld.{drill_world, drill_world_text}
use Rattle.model_drill.specs.Drill.{drill_events, drill_start, drill_state, drill_text, first_live, stand_after}
use Rattle.model_drill.specs.Rows.{most}
use Rattle.model_run.specs.Family.{family}
use Rattle.model_run.specs.Step.{Run}
use Rattle.model_text.specs.Reading.{AtEnd, script_reading}
use Rattle.model_text.specs.WorldText.{Reads, world_text}
use Rattle.model_text.specs.Written.{placed_from}

-- The text of the drill's world declares that world.
unfoldable pub DrillWorldReads : Type 0
DrillWorldReads = world_text drill_world_text ≡ Reads drill_world

-- The drill of n has n events.
unfoldable pub DrillCounts : Type 0
DrillCounts = (n : ℕ) → length (drill_events n) ≡ n

-- They are a run from the beginning of the drill's world to the state that is told.
unfoldable pub DrillIsRun : Type 0
DrillIsRun = (n : ℕ) → Run drill_world drill_world.start (drill_events n) (drill_state n)

-- What each state of the drill keeps, from the first to the last: what a state keeps; each pid is one, and no process
-- has installed a filter; some process lives, and the one that is asked about is the least of them; no more live, and
-- no more spaces stand, than the table allows, which is within the limits.
pub record IsDrillState (s : State) : Type 0 where
  pub keeps : KeepsState s
  pub pids : All (λ p. IsTrue (is_pid p.pid)) s.processes
  pub unfiltered : All (λ p. p.filter ≡ no_filter) s.processes
  pub some_live : 1 ≤ length s.processes
  pub few_live : length s.processes ≤ most
  pub few_spaces : length s.spaces ≤ most
  pub root_lives : IsTrue (is_alive s.processes (first_live s))
  pub root_is_least : (pid : ℕ) → IsTrue (is_alive s.processes pid) → first_live s ≤ pid
  pub family_fits : length (family s (first_live s)) ≤ limit_number limit.Family

unfoldable pub DrillStateKeeps : Type 0
DrillStateKeeps = (n count : ℕ) → IsDrillState (stand_after count (drill_start n)).state

-- The drill's text, read as a script log over its world, tells the events of the drill, in their order and on a line each,
-- and nothing else.
unfoldable pub DrillReadsBack : Type 0
DrillReadsBack = (n : ℕ) → script_reading drill_world (drill_text n) ≡ record { events = placed_from 1 (drill_events n); ending = AtEnd }

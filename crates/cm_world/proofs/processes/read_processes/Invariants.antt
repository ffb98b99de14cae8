use Rattle.std.proofs.Common.{◌≡◌, ◌+◌, ◌<◌, [], drop, length}
use Rattle.std.specs.Prelude.{All}
use Rattle.cm_base.specs.declared.faults.Table.TheVariants as table
use Rattle.model_cred.specs.Process.{Ascends}
use Rattle.model_text.specs.ProcessText.{process_row}
use Rattle.model_text.specs.Refusal.{rows_from}
use Rattle.toml.specs.View.{items_view}
use Rattle.cm_world.proofs.processes.read_processes.Given as goal

abbrev pub invariant-loop-i : goal.invariant-loop-i
invariant-loop-i l = record {
  ordered : Ascends l.procs;
  stands : All (λ p. p.space < length l.declared.spaces) l.procs;
  rest : rows_from table.Process (process_row l.declared.names) (l.i + 1) l.procs (items_view (drop l.i l.rows))
      ≡ rows_from table.Process (process_row l.declared.names) 1 [] (items_view l.rows);
}

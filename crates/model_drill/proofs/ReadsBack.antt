-- The drill's text is read again as its events.
use Rattle.std.proofs.Common.{◌≡◌, ◌≤◌, length, All, arith}
use Rattle.std.proofs.lemmas.List.Elements.{All-weaker}
use Rattle.cm_base.specs.Limited.{limit_number}
use Rattle.cm_base.specs.declared.limited.Limited.TheVariants as limit
use Rattle.model_drill.proofs.Cases.{drill_world_reads}
use Rattle.model_drill.proofs.Turns.{IsBrief, brief_from, start_ready}
use Rattle.model_drill.specs.DrillWorld.{drill_world, drill_world_text}
use Rattle.model_drill.specs.Drill.{drill_events, drill_start}
use Rattle.model_drill.specs.Laws.{DrillReadsBack, DrillWorldReads}
use Rattle.model_text.proofs.KeepsNames.{declared_names_keep}
use Rattle.model_text.proofs.WrittenLogs.{event_short, logs_read_back}
use Rattle.model_text.specs.Print.{event_text}
use Rattle.model_text.specs.WorldText.{Reads, world_text}
use Rattle.model_text.specs.Written.{DeclaredNamesKeep, IsWritable, KeepsNames, LogsReadBack}

pub drill_reads_back : DrillReadsBack
unfolding DrillReadsBack DrillWorldReads LogsReadBack DeclaredNamesKeep
drill_reads_back n =
    let reads : world_text drill_world_text ≡ Reads drill_world = drill_world_reads in
    let names : KeepsNames drill_world = declared_names_keep drill_world_text drill_world reads in
    let brief : All IsBrief (drill_events n) = brief_from n (drill_start n) start_ready in
    logs_read_back drill_world_text drill_world (drill_events n) reads
    (All-weaker IsBrief (IsWritable drill_world) (λ e is. is.can) (drill_events n) brief)
    (All-weaker IsBrief (λ e. length (event_text drill_world e) ≤ limit_number limit.Line)
    (λ e is. event_short drill_world e names is.can (let few = is.few in omega (arith, few))) (drill_events n) brief)

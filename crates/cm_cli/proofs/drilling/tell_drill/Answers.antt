use Rattle.std.proofs.Common.{refl}
use Rattle.cm_cli.proofs.drilling.tell_drill.Goals as goal
use Rattle.cm_cli.specs.Drilling.{drill_of}
use Rattle.cm_io.specs.declared.outside.Outside.TheVariants as outside
use Rattle.cm_report.proofs.Told.{stops, wants_memory}
use Rattle.cm_report.proofs.Waiting.{all_waits}

pub returns-in-Err-clause-report : goal.returns-in-Err-clause-report
returns-in-Err-clause-report g c = λ j gives. stops (drill_of c.args.n j) outside.NoMemory _ _ _ _ _ refl
    (_, all_waits _ _) (wants_memory refl)

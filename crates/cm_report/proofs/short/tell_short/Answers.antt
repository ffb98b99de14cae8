use Rattle.std.proofs.Common.{refl}
use Rattle.cm_report.proofs.Told.{stops, wants_memory}
use Rattle.cm_report.proofs.Waiting.{all_waits}
use Rattle.cm_report.proofs.short.tell_short.Goals as goal
use Rattle.cm_report.specs.Telling.{short_report}
use Rattle.cm_io.specs.declared.outside.Outside.TheVariants as outside

pub returns-in-Err : goal.returns-in-Err
returns-in-Err g c = stops (short_report c.args.short) outside.NoMemory _ _ _ _ _ refl (_, all_waits _ _) (wants_memory refl)

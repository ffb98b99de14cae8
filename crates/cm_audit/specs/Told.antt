-- The code's verdicts as plain values.
use Rattle.cm_audit.specs.declared.verdict.Verdict.{Verdict}
use Rattle.cm_audit.specs.declared.verdict.Verdict.TheVariants as code
use Rattle.cm_maker.specs.Sweeping.{blame_told}
pub use Rattle.model_report.specs.Told.{Told, TellsNo, TellsYes, TellsUndecided, verdict_in, RowsAreBounds, IsVerdictOn}

-- what the code's verdict tells
abbrev pub told : Verdict → Told
told (code.Yes bounds) = TellsYes bounds
told (code.No run holder) = TellsNo (record { run = run.items; holder = holder })
told (code.Undecided rule row below) = TellsUndecided (blame_told rule row) below

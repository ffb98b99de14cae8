-- What the bytes of a world come to, by how they were read.
use Rattle.std.proofs.Common.{◌≡◌, ◌≤◌, ℕ, List, length, ap, sym, ◌∙◌, cond, Bool, Ok, Err, inl, inr}
use Rattle.std.proofs.lemmas.Bool.{lt-ltb}
use Rattle.cm_base.specs.Limited.{limit_number}
use Rattle.cm_base.specs.declared.limited.Limited.TheVariants as limit
use Rattle.cm_cli.specs.LogReport.{WorldGives, log_report}
use Rattle.cm_cli.specs.Reading.{ReadsAs, IsWorldRead}
use Rattle.cm_cli.specs.declared.reading.Unready.TheVariants as unready
use Rattle.cm_declared.specs.World.{world_of}
use Rattle.cm_declared.specs.declared.world.World as code
use Rattle.cm_report.specs.Telling.{short_report}
use Rattle.cm_report.specs.declared.short.Short.{Short}
use Rattle.cm_report.specs.declared.short.Short.TheVariants as short
use Rattle.model_report.proofs.Replayed.{of_size}
use Rattle.model_report.specs.Given.{FilesGive}
use Rattle.model_report.specs.Judged.{Judged}
use Rattle.model_report.specs.Replay.{limit_hit}
use Rattle.model_report.specs.Report.{files_report, by_world}
use Rattle.model_report.specs.Task.{Task}
use Rattle.model_text.specs.WorldText.{WorldText, Reads, Bad, Exceeds, world_text}

module _ (task : Task) (j : Judged) (world log : List ℕ) where
  -- a world within its limit has the report by what its text comes to
  by_text : (text : WorldText) → ReadsAs world text → files_report task j world log ≡ by_world task j text log
  by_text text read = of_size task j world log read.size ∙ ap (λ (t : WorldText). by_world task j t log) read.text_is

  -- where a world was read, the report is that of the log in it
  pub world_report : (w : code.World) → IsWorldRead (Ok w) world
      → files_report task j world log ≡ log_report task j w log
  world_report w read = by_text (Reads (world_of w)) read

  -- and what the files give to be judged, the log gives in it
  pub world_gives : (w : code.World) → IsWorldRead (Ok w) world → FilesGive task world log j → WorldGives task w log j
  world_gives w read gives = gives (world_of w) read.size read.text_is

  -- where it was refused, the report tells why
  pub world_refused : (why : Short) → IsWorldRead (Err (unready.Refused why)) world
      → files_report task j world log ≡ short_report why
  world_refused (short.Limit l) (inl (is, over)) =
      ap (λ (b : Bool). cond b (limit_hit limit.World) (by_world task j (world_text world) log))
      (lt-ltb (limit_number limit.World) (length world) over)
      ∙ ap limit_hit (sym is)
  world_refused (short.Limit l) (inr read) = by_text (Exceeds l) read
  world_refused (short.BadWorld table row why) read = by_text (Bad table row why) read
  world_refused short.Usage never = absurd never

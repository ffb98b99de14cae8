-- What a drill answers.
use Rattle.std.proofs.Common.{◌≢◌, ℕ, List, Option, refl, arith}
use Rattle.cm_base.specs.declared.status.Status.{Status}
use Rattle.cm_base.specs.declared.status.Status.TheVariants as answers
use Rattle.cm_cli.specs.Answers.{AnswersReport, CountsReads}
use Rattle.cm_cli.specs.Drilling.{drill_of, GivesDrill}
use Rattle.cm_io.specs.Shelf.{Files}
use Rattle.cm_replay.proofs.Held.{always}
use Rattle.cm_report.specs.Telling.{TellsReport}
use Rattle.model_report.specs.Command.{Command, Drill}
use Rattle.model_report.specs.Judged.{Judged}

-- the report was told
pub drill_answers : (held : Option Files) (n : ℕ) (answer : Status) (w w' : Option (List ℕ)) (f f' : ℕ)
    → ((j : Judged) → GivesDrill n j → TellsReport (drill_of n j) answer w w' f f')
    → answer ≢ answers.Usage → AnswersReport held (Drill n) answer w w'
drill_answers held n answer w w' f f' told other = record {
  status = always held (λ files j gives is. (told j gives).status is);
  text = always held (λ files j gives. let here = told j gives in record { whole = here.text; front = here.front });
  usage = λ is. absurd (other is);
  no_form = λ is. cc;
}

-- no file was read
pub nothing_read : (held : Option Files) (command : Command) (answer : Status) (faults : List ℕ → ℕ)
    → answer ≢ answers.ReadFault
    → CountsReads held command answer faults faults
nothing_read held command answer faults fine = record {
  fault = λ is. absurd (fine is);
  order = always held (λ files is. absurd (fine is));
  later = λ n. omega arith;
  stay = λ _ n. refl;
}

-- What a report takes as a value, since no definition works it out: a verdict, and what rows are found to be. `Given` says
-- which of these the words and the files give.
use Rattle.model_report.specs.Checked.{Checked}
use Rattle.model_report.specs.Told.{Told}

-- What is judged: a verdict, and what the rows of a certificate are found to be.
pub record Judged : Type 0 where
  pub verdict : Told
  pub checked : Checked

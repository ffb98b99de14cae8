-- What carrying out a command comes to.
use Rattle.std.specs.Prelude.{◌≡◌, ℕ, List, Option}
use Rattle.cm_base.specs.declared.status.Status.{Status}
use Rattle.cm_cli.specs.Answers.{AnswersReport, CountsReads}
use Rattle.cm_cli.specs.BeforeFault.{WritesBeforeFault, WritesLines}
use Rattle.cm_cli.specs.Reading.{ReadsFor, ReadsInOrder, TakesFor}
use Rattle.cm_io.specs.Account.{Account}
use Rattle.cm_io.specs.Shelf.{AsksForPieces}
use Rattle.cm_report.specs.Telling.{CountsWrites}
use Rattle.model_report.specs.Command.{Command, files_of}

-- A command was carried out, over the accounts of a shelf before and after: what is answered and written, also before
-- a fault of reading; which faults are counted; and what is taken and read of its files, and in which order. What is
-- held stays.
pub record CarriesOut (command : Command) (answer : Status) (old new : Account) (written written' : Option (List ℕ))
    (writes writes' : ℕ) : Type 0 where
  pub report : AnswersReport old.held command answer written written'
  pub read_faults : CountsReads old.held command answer old.faults new.faults
  pub write_faults : CountsWrites answer writes writes'
  pub before_fault : WritesBeforeFault old.held old.counted command answer old.faults new.faults written written'
  pub lines_told : WritesLines old.held old.counted command answer old.faults new.faults old.taken new.taken
      written written'
  pub takes : TakesFor (files_of command) old.taken new.taken
  pub reads : ReadsFor (files_of command) old.reads new.reads old.taken new.taken
  pub waits : ReadsInOrder old.held old.counted command old.faults new.faults old.reads new.reads
  pub pieces : AsksForPieces old.widest new.widest
  pub held : new.held ≡ old.held

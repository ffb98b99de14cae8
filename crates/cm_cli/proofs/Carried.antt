-- A command that was carried out: what `run` says of the words that name it.
use Rattle.std.proofs.Common.{◌≡◌, ◌≢◌, ℕ, List, Option, IfSome, refl}
use Rattle.std.proofs.lemmas.Option.{IfSome_then}
use Rattle.cm_base.specs.declared.limited.Limited.TheVariants as limit
use Rattle.cm_base.specs.declared.status.Status.{Status}
use Rattle.cm_base.specs.declared.status.Status.TheVariants as answers
use Rattle.cm_cli.proofs.BeforeFault.{no_fault, no_lines}
use Rattle.cm_cli.proofs.Complete.{by_cause, completed, decided, meaning, says_no, says_undecided, says_yes}
use Rattle.cm_cli.proofs.Drills.{nothing_read}
use Rattle.cm_cli.proofs.FileReads.{reads_one, reads_still, takes_one, takes_still}
use Rattle.cm_cli.proofs.InOrder.{world_reads, world_taken, world_waits}
use Rattle.cm_cli.specs.Answers.{AnswersReport, AsksOfSettled, ComesByCause, CountsReads, IsCompleted, IsDecided}
use Rattle.cm_cli.specs.Answers.{IsValid, NoneRose}
use Rattle.cm_cli.specs.BeforeFault.{WritesBeforeFault, WritesLines}
use Rattle.cm_cli.specs.Carried.{CarriesOut}
use Rattle.cm_cli.specs.Files.{one_past}
use Rattle.cm_cli.specs.Headline.{Headline, SaysNo, SaysUndecided, SaysYes}
use Rattle.cm_cli.specs.Reading.{ReadsInOrder}
use Rattle.cm_cli.specs.Words.{asking}
use Rattle.cm_cli.specs.declared.query.Task.{Task}
use Rattle.cm_io.proofs.ReadCounts.{pieces_none}
use Rattle.cm_io.specs.Account.{Account, ReadsFile}
use Rattle.cm_io.specs.Shelf.{bytes_at}
use Rattle.cm_report.specs.Telling.{CountsWrites, IsOfReport}
use Rattle.model_report.specs.Command.{Command, command_of, files_of}

-- one that reads no file
pub none_carried : (command : Command) (answer : Status) (a : Account) (w w' : Option (List ℕ)) (f f' : ℕ)
    → AnswersReport a.held command answer w w' → answer ≢ answers.ReadFault → CountsWrites answer f f'
    → ReadsInOrder a.held a.counted command a.faults a.faults a.reads a.reads
    → CarriesOut command answer a a w w' f f'
none_carried command answer a w w' f f' report fine counts waits = record {
  report = report;
  read_faults = nothing_read a.held command answer a.faults fine;
  write_faults = counts;
  before_fault = no_fault a.held a.counted command answer a.faults a.faults w w' fine;
  lines_told = no_lines a.held a.counted command answer a.faults a.faults a.taken a.taken w w' fine;
  takes = takes_still (files_of command) a.taken;
  reads = reads_still (files_of command) a.reads a.taken;
  waits = waits;
  pieces = pieces_none a.widest;
  held = refl;
}

-- one of which the world alone was read
pub world_carried : {answer : Status} {a b : Account} {w w' : Option (List ℕ)} {f f' : ℕ} {failed : Type 0}
    (t : Task) (world log : List ℕ)
    → ReadsFile a b world (one_past limit.World) 1 failed → AnswersReport a.held (asking t world log) answer w w'
    → CountsReads a.held (asking t world log) answer a.faults b.faults → CountsWrites answer f f'
    → WritesBeforeFault a.held a.counted (asking t world log) answer a.faults b.faults w w'
    → WritesLines a.held a.counted (asking t world log) answer a.faults b.faults a.taken b.taken w w'
    → CarriesOut (asking t world log) answer a b w w' f f'
world_carried {a = a} {b = b} t world log file report faults counts before lines =
    let reads = reads_one a.reads b.reads a.taken b.taken world limit.World (one_past limit.World)
    file.reads file.takes in
    record {
      report = report;
      read_faults = faults;
      write_faults = counts;
      before_fault = before;
      lines_told = lines;
      takes = world_taken t world log a.taken b.taken (takes_one a.taken b.taken world limit.World file.takes);
      reads = world_reads t world log a.reads b.reads a.taken b.taken reads;
      waits = world_waits a.held a.counted world log a.faults b.faults a.reads b.reads a.taken b.taken reads t;
      pieces = file.pieces;
      held = file.held;
    }

-- What its answer says, of the words that name it.
pub record Says (words : List (List ℕ)) (answer : Status) (a b : Account) (w w' : Option (List ℕ)) (f f' : ℕ)
    : Type 0 where
  pub causes : IfSome a.held (λ files. IsOfReport answer → ComesByCause words files answer)
  pub yes : IfSome a.held (λ files. answer ≡ answers.Accepted → SaysYes words files)
  pub no : IfSome a.held (λ files. answer ≡ answers.No → SaysNo words files)
  pub undecided : IfSome a.held (λ files. answer ≡ answers.Undecided → SaysUndecided words files)
  pub headline : Headline a.held a.counted words answer w w' a.faults b.faults f f'
  pub complete : IfSome a.held (λ files. IsValid words (bytes_at files)
      → NoneRose (files_of (command_of words)) a.faults b.faults f f' → IsCompleted (command_of words) answer)
  pub settled : IfSome a.held (λ files. IsValid words (bytes_at files)
      → NoneRose (files_of (command_of words)) a.faults b.faults f f' → AsksOfSettled words files → IsDecided answer)

pub carried_says : (words : List (List ℕ)) (answer : Status) (a b : Account) (w w' : Option (List ℕ)) (f f' : ℕ)
    → CarriesOut (command_of words) answer a b w w' f f' → Says words answer a b w w' f f'
carried_says words answer a b w w' f f' done = record {
  causes = IfSome_then a.held done.report.status (λ files is told. by_cause words files answer is told);
  yes = IfSome_then a.held done.report.status (λ files is said. says_yes words files answer is said);
  no = IfSome_then a.held done.report.status (λ files is said. says_no words files answer is said);
  undecided = IfSome_then a.held done.report.status (λ files is said. says_undecided words files answer is said);
  headline = record {
    report = done.report;
    read_faults = done.read_faults;
    write_faults = done.write_faults;
    before_fault = done.before_fault;
    means = IfSome_then a.held done.report.status (λ files is. meaning words files answer is);
  };
  complete = IfSome_then a.held done.report.status (λ files is valid none.
      completed words files answer a.faults b.faults f f' is done.read_faults.fault done.write_faults.fault valid none);
  settled = IfSome_then a.held done.report.status (λ files is valid none asks.
      decided words files answer a.faults b.faults f f' is done.read_faults.fault done.write_faults.fault valid none
      asks);
}

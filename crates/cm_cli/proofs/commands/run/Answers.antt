use Rattle.std.proofs.Common.{◌∙◌, ap, subst}
use Rattle.cm_cli.proofs.Carried.{carried_says}
use Rattle.cm_cli.proofs.commands.run.Goals as goal
use Rattle.cm_cli.specs.Carried.{CarriesOut}
use Rattle.cm_cli.specs.Words.{bytes_of, command_in}
use Rattle.cm_io.specs.Account.{account}
use Rattle.model_report.specs.Command.{Command}

pub returns : goal.returns
returns g c =
    let a = account g.H.Shelf c.args.shelf.now in
    let b = account g.H.Shelf c.carry_out.new.shelf in
    let done = subst (λ (x : Command). CarriesOut x c.carry_out.result a b (g.K.Sink.written c.args.out.now)
    (g.K.Sink.written c.carry_out.new.out) (g.K.Sink.faults c.args.out.now) (g.K.Sink.faults c.carry_out.new.out))
    (c.read_words.ensures ∙ ap command_in c.deref.ensures.value) c.carry_out.ensures in
    let says = carried_says (bytes_of c.args.words.now.items) _ a b _ _ _ _ done in
    record {
      report = done.report;
      read_faults = done.read_faults;
      write_faults = done.write_faults;
      before_fault = done.before_fault;
      lines_told = done.lines_told;
      takes = done.takes;
      reads = done.reads;
      waits = done.waits;
      pieces = done.pieces;
      held = done.held;
      answers = says.causes;
      yes = says.yes;
      no = says.no;
      undecided = says.undecided;
      headline = says.headline;
      complete = says.complete;
      settled = says.settled;
    }

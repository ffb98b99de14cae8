use Rattle.std.proofs.Common.{◌∙◌, false, ap}
use Rattle.std.proofs.lemmas.List.{length-set}
use Rattle.cm_maker.proofs.Looks.{none_looked, more_looked}
use Rattle.cm_maker.proofs.passing.look.Goals as goal
use Rattle.cm_maker.proofs.passing.look.Goals.{then-more, else-more}
use Rattle.model_cred.specs.Process.{State}

pub returns-clause-passes : goal.returns-clause-passes
returns-clause-passes c =
    let visits = c.in_ok-more.ensures.visits in
    let rests = c.in_ok-more.ensures.rests in
    elim c.if-more.branch [
      | then-more w ↦ rw (c.take_off.ensures, w.waiting-is) (record {
        widens = visits.widens;
        list = length-set w.put_readers.new.self c.args.row false ∙ w.put_readers.ensures.count;
        rest = more_looked visits c.args.waiting.now w.put_readers.new.self c.requires.waits.earlier rests c.requires.waits.rest
            w.put_readers.ensures.kept (rw (ap (λ (state : State). state.spaces) c.st.view_is) at w.put_readers.ensures.put);
        larger = visits.larger;
      })
      | else-more w ↦ rw (c.take_off.ensures, w.waiting-is) (record {
        widens = visits.widens;
        list = length-set c.args.waiting.now c.args.row false;
        rest = none_looked visits c.args.waiting.now w.if-more.false rests c.requires.waits.rest;
        larger = visits.larger;
      })
    ]

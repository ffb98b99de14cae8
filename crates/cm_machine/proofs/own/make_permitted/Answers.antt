use Rattle.cm_machine.proofs.Asking.{nothing_before, on_err}
use Rattle.cm_machine.proofs.Changing.{some_at}
use Rattle.cm_machine.proofs.own.make_permitted.Goals as goal

pub returns-in_err-keep-clause-unchanged : goal.returns-in_err-keep-clause-unchanged
returns-in_err-keep-clause-unchanged c =
    let p = some_at c.args.state.now.processes c.args.at c.requires.here in
    on_err c.from_residual-in_err-keep.result
    (nothing_before _ _ c.args.at c.ask.new.state c.args.state.now c.keep.new.state _ (c.in_ok-res.ensures.asked p.0 p.1)
    c.in_err-keep.ensures.nothing c.in_err-keep.ensures.unchanged)

use Rattle.std.proofs.Common.{None}
use Rattle.cm_confirm.proofs.Endings.{line_comes}
use Rattle.cm_confirm.proofs.confirming.finish.Goals as goal
use Rattle.cm_confirm.specs.declared.confirming.Turn.TheVariants as turn
use Rattle.cm_declared.specs.World.{world_of}
use Rattle.cm_lines.specs.Cut.{ends_by}
use Rattle.cm_log.specs.Left.{left, told_of}
use Rattle.cm_state.specs.Right.{right_of}

pub returns : goal.returns
returns c =
    let w = world_of c.args.w.now in
    let later = left w c.end.new.self (ends_by None) in
    let ends = rw c.in-Ends.is at c.in_ok-confirmed.ensures.turn in
    line_comes w c.args.machine.now.state c.args.members.now (right_of c.args.right.now)
    (left w c.args.run.now (ends_by None)) later (told_of c.end.new.self) c.events-told.result.now c.in_ok-stage.stage
    (turn.Ends c.in-Ends.confirmed) c.take_told.new.machine.state c.take_told.new.members
    (c.in_ok-stage.ensures.told (ends_by None)) c.events-told.ensures (ends later)

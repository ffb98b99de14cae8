use Rattle.std.proofs.Common.{◌≡◌, ◌+◌, ◌∙◌, false, refl, sym, ap}
use Rattle.cm_declared.specs.World.{world_of}
use Rattle.cm_strace.proofs.Concluded.{awaited_by_no_line, awaited_by_none, concluded_alone, concluded_read}
use Rattle.cm_strace.proofs.Quiet.{quiet_read}
use Rattle.cm_strace.proofs.work.Work.read.Goals as goal
use Rattle.cm_strace.specs.Works.{awaits}
use Rattle.cm_strace.specs.declared.deed.Origin.{Origin}
use Rattle.model_strace.specs.Rest.{Work}

pub returns-in-Quiet-clause-read : goal.returns-in-Quiet-clause-read
returns-in-Quiet-clause-read c =
    let w = world_of c.args.w.now in
    let t : Work =
    record { parts = c.self.inside.parts.known; held = c.self.inside.held.items; count = c.self.inside.count } in
    rw (← c.self.view_is)
    (quiet_read w c.args.pid c.args.body.now c.read_deed.new.parts.known t c.args.events.now.items
    (sym c.in_ok-deed.ensures.turn ∙ rw (c.in-Quiet.is, c.if-not-resumed.true) refl))

pub returns-in_ok-stage-in_default-clause-read : goal.returns-in_ok-stage-in_default-clause-read
returns-in_ok-stage-in_default-clause-read c =
    let w = world_of c.args.w.now in
    let t : Work =
    record { parts = c.self.inside.parts.known; held = c.self.inside.held.items; count = c.self.inside.count } in
    let now : Work = record { parts = c.read_deed.new.parts.known; held = t.held; count = t.count + 1 } in
    let origin : Origin = record { line = t.count + 1; pid = c.args.pid; resumed = c.in_ok-deed.resumed } in
    let alone : awaits t.held c.in_ok-deed.deed ≡ false = elim c.in_default.branch [
      | goal.in_default-via-in-Quiet+else-not-resumed w ↦ ap (awaits t.held) w.in-Quiet.is
      | goal.in_default-via-in-Bears+else-has_line w ↦
          awaited_by_no_line t.held _ c.in_ok-deed.deed _ _ w.in-Bears.is w.has_line.ensures w.deref.ensures.value
          w.if-has_line.false
      | goal.in_default-via-in_default w ↦ awaited_by_none t.held c.in_ok-deed.deed w.in_default.not-Bears
    ] in
    rw (
      ← c.self.view_is,
      ← concluded_read w origin c.args.body.now c.in_ok-deed.deed c.read_deed.new.parts.known t
          c.in_ok-deed.ensures.turn refl,
    )
    (concluded_alone w c.in_ok-stage-in_default.stage c.args.events.now.items c.conclude.new.events.items origin
    c.in_ok-deed.deed now c.conclude.new.parts.known alone c.in_ok-stage-in_default.ensures.given)

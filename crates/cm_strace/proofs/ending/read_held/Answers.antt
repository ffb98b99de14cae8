use Rattle.std.proofs.Common.{◌∙◌, ◌+◌, arith, drop, sym}
use Rattle.cm_declared.specs.World.{world_of}
use Rattle.cm_strace.proofs.Ended.{from_line, none_told, silent_line, some_told, stopped_line, told_line}
use Rattle.cm_strace.proofs.ending.read_held.Goals as goal
use Rattle.cm_strace.specs.Given.{read_is}
use Rattle.model_strace.specs.Lines.{Line, at_end}
use Rattle.model_strace.specs.Turn.{turn}

-- a line stops the reading
pub returns-in_default-clause-read : goal.returns-in_default-clause-read
returns-in_default-clause-read c =
    let w = world_of c.args.w.now in
    let l : Line = c.l-item.result in
    let p = c.loop-l.parts.known in
    stopped_line c.read.new.events.items (read_is c.in_ok-stage.field-0-1 c.read.new.parts.known) l.number
    (λ q. at_end w (drop (c.loop-l.l-index + 1) c.args.held.now) q) c.in_ok-stage.stage (turn w l.pid l.body p)
    c.in_default.not-Going (rw c.loop-l.invariant.fresh at c.in_ok-stage.ensures.given)
    ∙ from_line w c.args.held.now c.loop-l.l-index l p c.loop-l-test.true c.l-item.is ∙ c.loop-l.invariant.rest

-- it tells an event
pub returns-then-not-is_empty-clause-read : goal.returns-then-not-is_empty-clause-read
returns-then-not-is_empty-clause-read c =
    let w = world_of c.args.w.now in
    let l : Line = c.l-item.result in
    let p = c.loop-l.parts.known in
    told_line c.read.new.events.items (read_is c.in_ok-stage.field-0-1 c.read.new.parts.known) l.number
    (λ q. at_end w (drop (c.loop-l.l-index + 1) c.args.held.now) q) (turn w l.pid l.body p)
    (some_told c.read.new.events.items _ c.read.new.events.ok.0 (sym c.is_empty.ensures ∙ c.if-not-is_empty.true))
    (rw (c.in-Going.is, c.loop-l.invariant.fresh) at c.in_ok-stage.ensures.given)
    ∙ from_line w c.args.held.now c.loop-l.l-index l p c.loop-l-test.true c.l-item.is ∙ c.loop-l.invariant.rest

-- it tells nothing
pub loop-l-preserved : goal.loop-l-preserved
loop-l-preserved c =
    let w = world_of c.args.w.now in
    let l : Line = c.l-item.result in
    let p = c.loop-l.parts.known in
    let none = none_told c.read.new.events.items _ c.read.new.events.ok.0
    (sym c.is_empty.ensures ∙ c.if-not-is_empty.false) in
    record {
      rest = silent_line c.read.new.events.items (read_is c.in_ok-stage.field-0-1 c.read.new.parts.known) l.number
          (λ q. at_end w (drop (c.loop-l.l-index + 1) c.args.held.now) q) (turn w l.pid l.body p) none
          (rw (c.in-Going.is, c.loop-l.invariant.fresh) at c.in_ok-stage.ensures.given)
          ∙ from_line w c.args.held.now c.loop-l.l-index l p c.loop-l-test.true c.l-item.is ∙ c.loop-l.invariant.rest;
      room = omega (arith, c.in_ok-stage.ensures.spaces);
      fresh = none;
    }

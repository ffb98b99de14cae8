use Rattle.std.proofs.Common.{◌∙◌, sym, arith}
use Rattle.cm_strace_text.proofs.Stops.{end_stands, none_left}
use Rattle.cm_strace_text.proofs.arguments.len_to.Goals as goal

pub returns-then-at-text-clause-len : goal.returns-then-at-text-clause-len
returns-then-at-text-clause-len c =
    let none = none_left c.args.end c.stops.depth c.args.text.now c.next_stop-at.result (omega arith) in
    omega (arith, none, c.next_stop-at.ensures.same c.args.end c.stops.depth, c.stops.invariant.len)

pub returns-then-ends_here-clause-len : goal.returns-then-ends_here-clause-len
returns-then-ends_here-clause-len c =
    let here = end_stands c.args.end c.stops.depth c.args.text.now c.next_stop-at.result (omega arith) (sym c.if-ends_here.ensures) in
    omega (arith, here, c.next_stop-at.ensures.same c.args.end c.stops.depth, c.stops.invariant.len)

pub stops-preserved : goal.stops-preserved
stops-preserved c = record {
  len = c.after_stop-inside.ensures.same c.args.end (sym c.if-ends_here.ensures)
      ∙ c.next_stop-at.ensures.same c.args.end c.stops.depth
      ∙ c.stops.invariant.len;
  near = omega arith;
  inside = c.after_stop-inside.ensures.within;
}

use Rattle.std.proofs.Common.{false, sym, ◌∙◌, arith, add-one}
use Rattle.cm_strace.specs.Taken.{untaken}
use Rattle.cm_strace.proofs.HeldLines.{any_none}
use Rattle.cm_strace.proofs.Taken.{none_left, past_other, past_taken, taken_first}
use Rattle.cm_strace.proofs.line.next_place.Goals as goal

pub returns-then-not-taken-at-clause-line : goal.returns-then-not-taken-at-clause-line
returns-then-not-taken-at-clause-line c =
    (taken_first c.args.pid c.args.lines.now c.args.taken.now c.loop-at.at c.index-lines-at.result false (omega arith)
    c.requires.flags c.if-not-taken-at.true c.index-lines-at.is (sym c.is_of.ensures ∙ c.if-is_of.true)
    c.loop-at.invariant).0

pub returns-then-not-taken-at-clause-rest : goal.returns-then-not-taken-at-clause-rest
returns-then-not-taken-at-clause-rest c =
    (taken_first c.args.pid c.args.lines.now c.args.taken.now c.loop-at.at c.index-lines-at.result false (omega arith)
    c.requires.flags c.if-not-taken-at.true c.index-lines-at.is (sym c.is_of.ensures ∙ c.if-is_of.true)
    c.loop-at.invariant).1

pub returns-then-not-taken-at-clause-past : goal.returns-then-not-taken-at-clause-past
returns-then-not-taken-at-clause-past c =
    rw add-one (taken_first c.args.pid c.args.lines.now c.args.taken.now c.loop-at.at c.index-lines-at.result false (omega arith)
    c.requires.flags c.if-not-taken-at.true c.index-lines-at.is (sym c.is_of.ensures ∙ c.if-is_of.true)
    c.loop-at.invariant).2

pub loop-at-preserved : goal.loop-at-preserved
loop-at-preserved c = elim c.else-is_of.branch [
  | goal.else-is_of-via-then-is_of+else-not-taken-at w ↦ rw add-one (past_taken c.args.pid c.args.lines.now
      c.args.taken.now c.loop-at.at false (omega arith) c.requires.flags c.loop-at.invariant w.if-not-taken-at.false)
  | goal.else-is_of-via-else-is_of w ↦ rw add-one (past_other c.args.pid c.args.lines.now c.args.taken.now
      c.loop-at.at c.index-lines-at.result false (omega arith) c.requires.flags c.loop-at.invariant
      c.index-lines-at.is (sym c.is_of.ensures ∙ w.if-is_of.false))
]

pub returns-clause-none : goal.returns-clause-none
returns-clause-none c =
    any_none c.args.pid (untaken c.args.lines.now c.args.taken.now)
    (none_left c.args.pid c.args.lines.now c.args.taken.now c.loop-at.at (omega arith) c.loop-at.invariant)

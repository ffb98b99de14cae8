use Rattle.std.proofs.Common.{arith, length}
use Rattle.cm_strace_text.proofs.Runs.{ended_at, none_of}
use Rattle.cm_strace_text.proofs.marks.next_of.Goals as goal

pub returns-in-Some-clause-before : goal.returns-in-Some-clause-before
returns-in-Some-clause-before c =
    none_of c.args.first c.args.second c.args.text.now c.split_at.result.1.now c.args.from c.in-Some.at c.split_at.ensures.back
    c.in-Some.ensures.0.before

pub returns-in-Some-clause-ended : goal.returns-in-Some-clause-ended
returns-in-Some-clause-ended c = λ inside other.
    ended_at c.args.first c.args.second c.args.text.now c.split_at.result.1.now c.args.from c.in-Some.at c.split_at.ensures.back
    c.in-Some.ensures.1 other

pub returns-in-None-clause-before : goal.returns-in-None-clause-before
returns-in-None-clause-before c = λ k low below.
    let rest = c.split_at.result.1.now in
    none_of c.args.first c.args.second c.args.text.now rest c.args.from (length rest) c.split_at.ensures.back c.in-None.ensures k
    low (omega arith)

use Rattle.std.proofs.Common.{◌∙◌, arith, sym}
use Rattle.cm_strace_text.proofs.QuoteEnds.{quote_left, quote_run, quote_stands}
use Rattle.cm_strace_text.proofs.marks.quote_end.Goals as goal

pub returns-then-at-text-clause-end : goal.returns-then-at-text-clause-end
returns-then-at-text-clause-end c =
    let at = c.next_of-at in
    sym (c.quoted.invariant.same
    ∙ quote_run c.args.text.now c.quoted.next at.result at.ensures.after at.ensures.within at.ensures.before
    ∙ quote_left c.args.text.now at.result (omega arith))

pub returns-then-text-at-eq34-clause-end : goal.returns-then-text-at-eq34-clause-end
returns-then-text-at-eq34-clause-end c =
    let at = c.next_of-at in
    sym (c.quoted.invariant.same
    ∙ quote_run c.args.text.now c.quoted.next at.result at.ensures.after at.ensures.within at.ensures.before
    ∙ quote_stands c.args.text.now at.result (omega arith) c.if-text-at-eq34.true)

pub quoted-preserved : goal.quoted-preserved
quoted-preserved c =
    let at = c.next_of-at in
    record {
      same = c.quoted.invariant.same
          ∙ quote_run c.args.text.now c.quoted.next at.result at.ensures.after at.ensures.within at.ensures.before
          ∙ c.escape_end-next.ensures.same;
      after = omega arith;
      inside = c.escape_end-next.ensures.within;
    }

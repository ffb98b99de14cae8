use Rattle.std.proofs.Common.{sym, ◌∙◌}
use Rattle.cm_script.proofs.OwnLines.{pieces_written, pieces_tell}
use Rattle.cm_script.proofs.own.read_own.Goals as goal

pub returns-in-Some-clause-tells : goal.returns-in-Some-clause-tells
returns-in-Some-clause-tells c =
    pieces_tell _ _ _ _ _ _ _ _
    (record {
      front = c.in_ok-number.ensures;
      pid = c.in-Some.ensures;
      call = c.in_ok-call.ensures;
      equals = c.in_ok-after_equals.ensures;
      result = c.in_ok-res.ensures.written;
    })
    c.in_ok-res.ensures.may (sym c.groups_within.ensures ∙ c.if-not-groups_within.false)

pub returns-in-Some-clause-own : goal.returns-in-Some-clause-own
returns-in-Some-clause-own c =
    pieces_written _ _ _ _ _ _ _ _
    (record {
      front = c.in_ok-number.ensures;
      pid = c.in-Some.ensures;
      call = c.in_ok-call.ensures;
      equals = c.in_ok-after_equals.ensures;
      result = c.in_ok-res.ensures.written;
    })

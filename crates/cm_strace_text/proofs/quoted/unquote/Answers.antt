use Rattle.std.proofs.Common.{◌∙◌}
use Rattle.cm_strace_text.proofs.QuoteSteps.{byte_more}
use Rattle.cm_strace_text.proofs.quoted.unquote.Goals as goal
use Rattle.cm_strace_text.specs.Quotes.{reach_is}

pub loop-rest-preserved : goal.loop-rest-preserved
loop-rest-preserved c =
    let before = c.loop-rest in
    let taken = rw c.in-Goes.is at c.in_ok-take_byte.ensures in
    record {
      read =
          c.in_ok-rest-in-Goes.ensures.same
          ∙ byte_more before.bytes.items c.take_byte.new.bytes.items (reach_is before.reach) (reach_is c.in-Goes.next)
          before.rest.now c.in-len1-up.len_at_least taken.step
          ∙ before.invariant.read;
      short = taken.short;
    }

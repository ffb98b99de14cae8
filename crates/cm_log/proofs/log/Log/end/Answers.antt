use Rattle.std.proofs.Common.{List, ap, arith, length, subst, sym}
use Rattle.cm_log.proofs.Counted.{counted_script}
use Rattle.cm_log.proofs.log.Log.end.Goals as goal
use Rattle.cm_log.specs.Counts.{Counts}
use Rattle.cm_log.specs.declared.log.Log.{Log}
use Rattle.cm_log.specs.declared.log.Log.TheVariants.{Script}
use Rattle.model_text.specs.Reading.{Placed}

pub returns-in-Script-clause-counts : goal.returns-in-Script-clause-counts
returns-in-Script-clause-counts c =
    subst (λ (log : Log). Counts 0 c.end.new.self.events.items log (Script c.end.new.self)) (sym c.in-Script.is)
    (counted_script 0 c.end.new.self.events.items c.in-Script.log c.end.new.self (omega (arith, c.end.ensures.lines))
    (omega (arith, ap (λ (es : List Placed). length es) c.end.ensures.none)))

use Rattle.cm_strace_text.proofs.SignSteps.{quote_passes}
use Rattle.cm_strace_text.proofs.written.sign_at.Goals as goal

pub returns-then-text-at-eq34-clause-same : goal.returns-then-text-at-eq34-clause-same
returns-then-text-at-eq34-clause-same c =
    quote_passes c.args.text.now c.args.at c.quote_end.result c.requires.within c.if-text-at-eq34.true c.quote_end.ensures.end

use Rattle.std.proofs.Common.{rules, ap, ◌∙◌}
use Rattle.cm_strace_calls.proofs.prctl.read_change.Goals as goal
use Rattle.cm_strace_values.specs.Outcomes.{outcome_is}
use Rattle.model_cred.specs.Call.{AmbLower}
use Rattle.model_strace.specs.Calls.{plain_call}

pub returns-then-eq-2 : goal.returns-then-eq-2
returns-then-eq-2 c = λ option.
    c.with_number-then-eq-2.ensures
    ∙ ap (λ read. plain_call (outcome_is c.args.outcome) read AmbLower) c.capability-then-eq-2.ensures
    ∙ search rules

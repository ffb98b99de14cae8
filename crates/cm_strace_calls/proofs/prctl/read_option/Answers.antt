use Rattle.std.proofs.Common.{rules, ap, ◌∙◌}
use Rattle.cm_strace_calls.proofs.prctl.read_option.Goals as goal
use Rattle.cm_strace_values.specs.Outcomes.{outcome_is}
use Rattle.model_cred.specs.Call.{NoNewPrivs, SecureBits, BsetDrop}
use Rattle.model_strace.specs.Calls.{plain_call}

pub returns-then-eq-2 : goal.returns-then-eq-2
returns-then-eq-2 c =
    c.with_number-then-eq-2.ensures
    ∙ ap (λ read. plain_call (outcome_is c.args.outcome) read NoNewPrivs) c.number-then-eq-2.ensures
    ∙ search rules

pub returns-then-eq-3 : goal.returns-then-eq-3
returns-then-eq-3 c =
    c.with_number-then-eq-3.ensures
    ∙ ap (λ read. plain_call (outcome_is c.args.outcome) read SecureBits) c.bits.ensures
    ∙ search rules

pub returns-then-eq-4 : goal.returns-then-eq-4
returns-then-eq-4 c =
    c.with_number-then-eq-4.ensures
    ∙ ap (λ read. plain_call (outcome_is c.args.outcome) read BsetDrop) c.capability.ensures
    ∙ search rules

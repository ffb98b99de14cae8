use Rattle.std.proofs.Common.{ℕ, List, ◌∷◌, ap, sym, ◌∙◌}
use Rattle.cm_strace_calls.proofs.prctl.read_ambient.Goals as goal
use Rattle.cm_strace_values.specs.Outcomes.{outcome_is}
use Rattle.model_strace.specs.Calls.{ambient_told, deciding, then_tells}

pub returns-in-Ok : goal.returns-in-Ok
returns-in-Ok c = λ option.
    let outcome = outcome_is c.args.outcome in
    c.read_change.ensures option
    ∙ sym (ap (λ (texts : List (List ℕ)).
    then_tells (deciding 2 (option ∷ texts) outcome) (λ what. ambient_told what (option ∷ texts) outcome))
    c.in-Ok.ensures.next)

-- The code's results as those of the definitions.
use Rattle.cm_strace_values.specs.declared.outcome.Outcome.{Outcome}
use Rattle.cm_strace_values.specs.declared.outcome.Outcome.TheVariants as code
use Rattle.model_strace.specs.Outcome as model

-- the result of the definitions
abbrev pub outcome_is : Outcome → model.Outcome
outcome_is code.NoReturn = model.NoReturn
outcome_is (code.Number n) = model.Number n
outcome_is code.TooLarge = model.Number model.past_greatest
outcome_is (code.Error e) = model.Error e
outcome_is code.Other = model.Other

use Rattle.std.proofs.Common.{ℕ, Option, ap, ◌∙◌}
use Rattle.std.specs.Option.{option_or}
use Rattle.cm_strace_values.proofs.caps.bare_capability.Goals as goal
use Rattle.model_text.specs.Token.{cap_token}

pub returns : goal.returns
returns c =
    c.or.ensures ∙ ap (λ (cap : Option ℕ). option_or cap c.hex_number.result) c.read_cap.ensures
    ∙ ap (λ (number : Option ℕ). option_or (cap_token c.args.text.now) number) c.hex_number.ensures

use Rattle.std.proofs.Common.{Bool, None, ap, cond, sym, ◌∙◌}
use Rattle.cm_strace_values.proofs.caps.before_comment.Goals as goal
use Rattle.model_strace.specs.Marks.{trimmed}
use Rattle.model_strace.specs.Numbers.{bare_capability}

pub returns-then-comment_ends : goal.returns-then-comment_ends
returns-then-comment_ends c =
    c.bare_capability.ensures ∙ ap bare_capability c.trimmed.ensures
    ∙ sym (ap (λ (ends : Bool). cond ends (bare_capability (trimmed c.args.name.now)) None) (sym c.comment_ends.ensures ∙ c.if-comment_ends.true))

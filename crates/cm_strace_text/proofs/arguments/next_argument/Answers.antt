use Rattle.std.proofs.Common.{List, ℕ, ◌∷◌, ◌∙◌, ap, map, arith}
use Rattle.cm_strace_text.proofs.Cuts.{argument_cut, no_parts, parts_follow}
use Rattle.cm_strace_text.proofs.arguments.next_argument.Goals as goal
use Rattle.cm_strace_text.specs.Depths.{arguments_in}
use Rattle.model_strace.specs.Marks.{trimmed}

pub returns-in-len1-up : goal.returns-in-len1-up
returns-in-len1-up c =
    let part = c.trimmed-part.result.now in
    let rest = c.split_at.result.1.now in
    record {
      parts = ap arguments_in c.in_ok-text.was
          ∙ argument_cut c.in_ok-text.text.now part rest c.len_to.result c.len_to.ensures.len
          (c.trimmed-part.ensures ∙ ap trimmed c.split_at.ensures.front) c.split_at.ensures.back
          ∙ ap (λ (later : List (List ℕ)). part ∷ map trimmed later) (parts_follow rest c.in-len1-up.len_at_least);
    }

pub returns-in-empty : goal.returns-in-empty
returns-in-empty c =
    let part = c.trimmed-part.result.now in
    let rest = c.split_at.result.1.now in
    record {
      parts = ap arguments_in c.in_ok-text.was
          ∙ argument_cut c.in_ok-text.text.now part rest c.len_to.result c.len_to.ensures.len
          (c.trimmed-part.ensures ∙ ap trimmed c.split_at.ensures.front) c.split_at.ensures.back
          ∙ ap (λ (later : List (List ℕ)). part ∷ map trimmed later) (no_parts rest (omega arith));
    }

use Rattle.std.proofs.Common.{List, ℕ, Option, Some, ap, ◌∙◌, ◌≡◌, ◌∷◌, []}
use Rattle.std.specs.Prelude.{option_and_then}
use Rattle.cm_base.specs.Names.{cap_of}
use Rattle.cm_strace_values.proofs.sets.shifted_cap.Goals as goal
use Rattle.model_strace.specs.Marks.{after_mark}

pub returns : goal.returns
returns c =
    let name : Some c.in_ok-name.name.now ≡ after_mark (49 ∷ 60 ∷ 60 ∷ []) c.args.text.now = cc c.in_ok-name.ensures in
    c.from_name.ensures ∙ ap (λ (name : Option (List ℕ)). option_and_then cap_of name) name

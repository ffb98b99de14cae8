use Rattle.std.proofs.Common.{List, ap, ◌∙◌}
use Rattle.std.specs.Prelude.{find}
use Rattle.cm_base.proofs.Lengths.{find_of_length}
use Rattle.cm_filter.specs.Kinds.{call_kinds, call_name, has_name}
use Rattle.cm_filter.specs.declared.kind.CallKind.{CallKind}
use Rattle.cm_filter.proofs.kind.CallKind.from_name.Goals as goal

pub returns : goal.returns
returns c =
    c.named.ensures
    ∙ ap (λ (kinds : List CallKind). find (has_name c.args.name.now) kinds) c.of_length.ensures
    ∙ find_of_length call_name c.args.name.now call_kinds

use Rattle.std.proofs.Common.{ℕ, List, ap, sym, ◌∙◌}
use Rattle.std.specs.Prelude.{bytes_eq, find}
use Rattle.std.specs.List.{range_with_len}
use Rattle.cm_base.proofs.Lengths.{cap_found, find_of_length}
use Rattle.cm_base.specs.CapSet.{cap_count}
use Rattle.cm_base.specs.Names.{cap_name_or}
use Rattle.cm_base.proofs.cap.Cap.from_name.Goals as goal

pub returns : goal.returns
returns c =
    c.named.ensures
    ∙ ap (λ (caps : List ℕ). find (λ cap. bytes_eq (cap_name_or cap) c.args.name.now) caps) c.of_length.ensures.numbers
    ∙ find_of_length cap_name_or c.args.name.now (range_with_len 0 cap_count)
    ∙ sym (cap_found c.args.name.now)

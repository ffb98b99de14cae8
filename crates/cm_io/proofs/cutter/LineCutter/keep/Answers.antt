use Rattle.std.proofs.Common.{◌≤◌, ◌∙◌, ◌-◌, ap, arith, length, rules}
use Rattle.cm_io.specs.Cutter.{Cutting}
use Rattle.cm_io.proofs.Kept.{len_kept, part_len}
use Rattle.cm_io.proofs.cutter.LineCutter.keep.Goals as goal

pub invariant_of-self : goal.invariant_of-self
invariant_of-self c =
    let len = ap (λ (v : Cutting). length v.kept) c.self.view_is in
    let size = part_len c.self.inside.buffer.items c.self.inside.start c.self.inside.end (search rules) in
    let within : c.args.kept ≤ c.self.inside.end - c.self.inside.start = omega (arith, c.requires, len, size) in
    record {
      ordered = search rules;
      within = omega (arith, within, c.self.invariant.ordered, c.self.invariant.within);
      measured = search rules ∙ len_kept c.self.inside.buffer.items _ _ _ _ c.self.invariant.measured within;
      few = omega (arith, within, c.self.invariant.ordered, c.self.invariant.few);
      reached = c.self.invariant.reached;
      small = c.self.invariant.small;
      short = c.self.invariant.short;
    }

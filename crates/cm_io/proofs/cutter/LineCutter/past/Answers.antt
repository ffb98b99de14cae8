use Rattle.std.proofs.Common.{arith, rules}
use Rattle.cm_io.proofs.Kept.{len_part}
use Rattle.cm_io.proofs.cutter.LineCutter.past.Goals as goal

pub overflow_add-self-inside : goal.overflow_add-self-inside
overflow_add-self-inside c =
    let most = len_part c.self.inside.buffer.items c.self.inside.start c.self.inside.end c.self.inside.len (search rules) c.self.invariant.measured in
    omega (arith, most)

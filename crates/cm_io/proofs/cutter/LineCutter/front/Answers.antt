use Rattle.std.proofs.Common.{arith, rules}
use Rattle.cm_io.proofs.Kept.{len_part}
use Rattle.cm_io.proofs.cutter.LineCutter.front.Goals as goal

pub overflow_add-len : goal.overflow_add-len
overflow_add-len c =
    let most = len_part c.self.inside.buffer.items c.self.inside.start c.self.inside.end c.self.inside.len (search rules) c.self.invariant.measured in
    omega (arith, most)

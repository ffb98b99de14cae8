use Rattle.std.proofs.Common.{◌∙◌, arith}
use Rattle.cm_credentials.proofs.Texts.{put_and_cut}
use Rattle.cm_credentials.proofs.shown_parts.ShownTailShown.put.Goals as goal

pub returns-clause-same : goal.returns-clause-same
returns-clause-same c = λ _.
    let shown = rw c.in-Some.is at c.self.invariant in
    put_and_cut _ _ _ _ _ _ 119 c.in_ok-put.ensures c.truncate.ensures.items (omega (arith, c.len-end.ensures))
    (shown ∙ c.is_of.ensures c.if-not-is_of.false)

use Rattle.std.proofs.Common.{arith, le_refl}
use Rattle.cm_lines.proofs.Lengths.{len_at}
use Rattle.cm_lines.proofs.lines.line_len.Goals as goal

pub returns-in-Some-clause-len : goal.returns-in-Some-clause-len
returns-in-Some-clause-len c =
    len_at c.args.text.now c.in-Some.at (grind (arith, c.in-Some.ensures)) (λ k below. grind (arith, c.in-Some.ensures.0.before k (omega arith) below))
    (λ within. grind (arith, c.in-Some.ensures))

pub returns-in-None-clause-len : goal.returns-in-None-clause-len
returns-in-None-clause-len c =
    len_at c.args.text.now _ (le_refl _) (λ k below. grind (arith, c.in-None.ensures k (omega arith) below)) (λ within. absurd (omega arith))

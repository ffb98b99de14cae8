use Rattle.std.proofs.Common.{arith, length-append}
use Rattle.std.proofs.lemmas.List.Elements.{All-push}
use Rattle.cm_credentials.specs.Kept.{KeepsLine}
use Rattle.cm_credentials.proofs.kept.KeptLines.new.Goals as goal

pub loop-preserved : goal.loop-preserved
loop-preserved c =
    rw c.in_ok-push.ensures.items (
      simp length-append (omega arith),
      λ names. All-push (KeepsLine names) _ _ (c.loop.invariant.1 names) (c.none.ensures names),
    )

pub returns : goal.returns
returns c = λ names. record {
  sixteen = omega (arith, c.loop.invariant.0);
  lines = c.loop.invariant.1 names;
  number = c.none-2.ensures;
}

use Rattle.std.proofs.Common.{refl}
use Rattle.std.proofs.lemmas.Result.{IfOk-weaker}
use Rattle.cm_credentials.specs.Kept.{KeepsLine}
use Rattle.cm_credentials.proofs.Slots.{Keeps-set}
use Rattle.cm_credentials.proofs.kept.KeptLines.put.Goals as goal

pub returns-clause-keeps : goal.returns-clause-keeps
returns-clause-keeps c =
    IfOk-weaker c.put.result (λ _. KeepsLine c.args.w.now.names c.put.new.self) _
    (λ _ here. Keeps-set c.args.w.now.names c.args.self.now _ _ c.put.new.self c.requires.keeps refl refl here)
    c.put.ensures.keeps

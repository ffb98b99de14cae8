-- How many rows an answer has.
use Rattle.std.proofs.Common.{◌≡◌, ℕ, List, length, Result, Ok, Err}
use Rattle.std.specs.Prelude.{IfOk}
use Rattle.cm_cert.specs.Answers.{Gives}
use Rattle.cm_cert.specs.declared.fault.BadCert.{BadCert}
use Rattle.model_box.specs.Bounds.{BoxRow}
use Rattle.model_cert.specs.Fault.{CertFault}

pub counted : (answer : Result (List BoxRow) BadCert) (told : Result (List BoxRow) CertFault) (n : ℕ)
    → Gives answer told → ((rows : List BoxRow) → told ≡ Ok rows → length rows ≡ n) → IfOk answer (λ b. length b ≡ n)
counted (Ok rows) told n gives count = count rows gives
counted (Err e) told n gives count = tt

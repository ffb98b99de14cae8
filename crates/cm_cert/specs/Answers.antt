-- What the readers of certificates, and of their parts, answer.
use Rattle.std.specs.Prelude.{◌≡◌, Option, Some, None, IfSome, Result, Ok, Err}
use Rattle.cm_cert.specs.declared.fault.BadCert.{BadCert}
use Rattle.cm_cert.specs.declared.fault.BadCert.TheVariants as errors
use Rattle.model_cert.specs.Fault.{CertFault, Json, Shape, Order}

-- the fault that an error tells, none where memory ran out
abbrev pub fault_of : BadCert → Option CertFault
fault_of errors.Json = Some Json
fault_of (errors.Shape row) = Some (Shape row)
fault_of (errors.Order row) = Some (Order row)
fault_of errors.NoMemory = None

-- The answer, seen by a view, is what the definition gives; or there was no memory, at which nothing is said.
abbrev pub GivesSeen : {X Y : Type 0} → (X → Y) → Result X BadCert → Result Y CertFault → Type 0
GivesSeen view (Ok x) told = told ≡ Ok (view x)
GivesSeen view (Err e) told = IfSome (fault_of e) (λ fault. told ≡ Err fault)

-- The answer is what the definition gives; or there was no memory, at which nothing is said.
abbrev pub Gives : {X : Type 0} → Result X BadCert → Result X CertFault → Type 0
Gives (Ok x) told = told ≡ Ok x
Gives (Err e) told = IfSome (fault_of e) (λ fault. told ≡ Err fault)

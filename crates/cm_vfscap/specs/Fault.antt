-- The answers of the code as the faults of the definitions.
use Rattle.cm_vfscap.specs.declared.fault.BadCap.{BadCap}
use Rattle.cm_vfscap.specs.declared.fault.BadCap.TheVariants as answer
use Rattle.model_cred.specs.Attribute.{AttributeFault, Size, Version}

-- the fault that an answer tells
abbrev pub fault_of : BadCap → AttributeFault
fault_of (answer.Size n) = Size n
fault_of (answer.Version word) = Version word

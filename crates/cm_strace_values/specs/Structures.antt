-- The code's structures as those of the definitions.
use Rattle.cm_strace_values.specs.declared.caps.Sets.{Sets}
use Rattle.model_strace.specs.Numbers as model

-- the three sets of the definitions
abbrev pub sets_is : Sets → model.Sets
sets_is sets = record { effective = sets.effective; permitted = sets.permitted; inheritable = sets.inheritable }

-- The code's files as those of the definitions.
use Rattle.cm_strace_values.specs.declared.paths.Followed.{Followed}
use Rattle.cm_strace_values.specs.declared.paths.Followed.TheVariants as code
use Rattle.cm_strace_values.specs.declared.paths.Named.{Named}
use Rattle.model_strace.specs.Files as model

-- the file of the definitions
abbrev pub followed_is : Followed → model.Followed
followed_is code.UidMap = model.UidMap
followed_is code.GidMap = model.GidMap
followed_is code.SetgroupsWord = model.SetgroupsWord
followed_is code.UserSpace = model.UserSpace

-- the named file of the definitions
abbrev pub named_is : Named → model.Named
named_is name = record { process = name.process; file = followed_is name.file }

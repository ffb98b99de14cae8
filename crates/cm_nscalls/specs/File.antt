-- The code's files as those of the definitions.
use Rattle.cm_nscalls.specs.declared.file.MapFile.{MapFile}
use Rattle.cm_nscalls.specs.declared.file.MapFile.TheVariants as code
use Rattle.model_rules.specs.Maps as model

-- the file of the definitions
abbrev pub file_of : MapFile → model.MapFile
file_of code.UidMap = model.UidMap
file_of code.GidMap = model.GidMap

-- The words of the faults of worlds and lines, and the names of the tables of a world's text (choice).
use Rattle.std.specs.Prelude.{ℕ, codes, List}
use Rattle.cm_base.specs.declared.faults.Table.{Table}
use Rattle.cm_base.specs.declared.faults.Table.TheVariants as table
use Rattle.cm_base.specs.declared.faults.WorldFault.{WorldFault}
use Rattle.cm_base.specs.declared.faults.WorldFault.TheVariants as world
use Rattle.cm_base.specs.declared.faults.LineFault.{LineFault}
use Rattle.cm_base.specs.declared.faults.LineFault.TheVariants as line

-- the name of a table
abbrev pub table_name : Table → List ℕ
table_name table.Whole = codes "whole"
table_name table.Space = codes "space"
table_name table.Mount = codes "mount"
table_name table.File = codes "file"
table_name table.Process = codes "process"
table_name table.Filter = codes "filter"

-- the word of a fault of a world
abbrev pub world_fault_word : WorldFault → List ℕ
world_fault_word world.Toml = codes "Toml"
world_fault_word world.UnknownKey = codes "UnknownKey"
world_fault_word world.MissingKey = codes "MissingKey"
world_fault_word world.WrongType = codes "WrongType"
world_fault_word world.BadNumber = codes "BadNumber"
world_fault_word world.BadName = codes "BadName"
world_fault_word world.TwiceNamed = codes "TwiceNamed"
world_fault_word world.NoSuchParent = codes "NoSuchParent"
world_fault_word world.NoSuchSpace = codes "NoSuchSpace"
world_fault_word world.NoSuchMount = codes "NoSuchMount"
world_fault_word world.NoInterpreter = codes "NoInterpreter"
world_fault_word world.BadMap = codes "BadMap"
world_fault_word world.NotMapped = codes "NotMapped"
world_fault_word world.BadMode = codes "BadMode"
world_fault_word world.BadCaps = codes "BadCaps"
world_fault_word world.NotIncluded = codes "NotIncluded"
world_fault_word world.NoSuchCall = codes "NoSuchCall"
world_fault_word world.TooDeep = codes "TooDeep"

-- the word of a fault of a line, that of an argument without its number
abbrev pub line_fault_word : LineFault → List ℕ
line_fault_word line.Pid = codes "pid"
line_fault_word line.Call = codes "call"
line_fault_word line.Shape = codes "shape"
line_fault_word line.Count = codes "count"
line_fault_word (line.Argument n) = codes "argument"
line_fault_word line.Outcome = codes "result"
line_fault_word line.Superseded = codes "superseded"
line_fault_word line.Unfinished = codes "unfinished"
line_fault_word line.Descriptor = codes "descriptor"

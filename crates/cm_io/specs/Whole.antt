-- Why a file could not be read whole.
use Rattle.cm_io.specs.declared.outside.Outside.{Outside}
use Rattle.cm_io.specs.declared.outside.Outside.TheVariants as outside
use Rattle.cm_io.specs.declared.whole.WholeError.{WholeError}
use Rattle.cm_io.specs.declared.whole.WholeError.TheVariants.{Read, NoMemory}

-- why it wasn't, by why a read gave nothing
abbrev pub whole_error : Outside → WholeError
whole_error outside.Failed = Read
whole_error outside.NoMemory = NoMemory

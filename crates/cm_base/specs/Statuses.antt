-- The numbers of the program's answers (choice).
use Rattle.std.specs.Prelude.{ℕ}
use Rattle.cm_base.specs.declared.status.Status.{Status}
use Rattle.cm_base.specs.declared.status.Status.TheVariants.{Accepted, No, Undecided, Impossible, BadWorld, BadLog}
use Rattle.cm_base.specs.declared.status.Status.TheVariants.{Usage, ReadFault, WriteFault, Limit, NoMemory, Refused}
use Rattle.cm_base.specs.declared.status.Status.TheVariants.{BadQuery}

-- the exit status of the program
abbrev pub status_number : Status → ℕ
status_number Accepted = 0
status_number No = 1
status_number Undecided = 2
status_number Impossible = 3
status_number BadWorld = 4
status_number BadLog = 5
status_number Usage = 6
status_number ReadFault = 7
status_number WriteFault = 8
status_number Limit = 9
status_number NoMemory = 10
status_number Refused = 11
status_number BadQuery = 12

use Rattle.std.proofs.Common.{subst}
use Rattle.cm_files.specs.Fault.{Diagnoses}
use Rattle.cm_world.proofs.FilesMore.{tells_memory}
use Rattle.cm_world.proofs.files.table_of.Goals as goal

pub no_fault-requires : goal.no_fault-requires
no_fault-requires c = tells_memory c.in-Err.e (subst (Diagnoses c.in-Err.e) c.requires.fine c.in-Err.ensures.refused)

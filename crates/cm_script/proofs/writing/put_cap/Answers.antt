use Rattle.cm_script.proofs.CapNumbers.{unnamed}
use Rattle.cm_script.proofs.writing.put_cap.Goals as goal

pub returns-in-None : goal.returns-in-None
returns-in-None c = rw (unnamed c.args.cap c.in-None.ensures) c.put_number.ensures

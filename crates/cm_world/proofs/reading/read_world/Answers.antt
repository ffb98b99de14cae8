use Rattle.cm_world.proofs.Telling.{bad_told, limit_told, names_told}
use Rattle.cm_world.proofs.reading.read_world.Goals as goal

pub returns-clause-names : goal.returns-clause-names
returns-clause-names c = names_told c.read_bytes.result c.args.text.now c.read_bytes.ensures

pub returns-clause-bad : goal.returns-clause-bad
returns-clause-bad c = bad_told c.read_bytes.result c.args.text.now c.read_bytes.ensures

pub returns-clause-limit : goal.returns-clause-limit
returns-clause-limit c = limit_told c.read_bytes.result c.args.text.now c.read_bytes.ensures

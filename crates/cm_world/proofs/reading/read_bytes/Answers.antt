use Rattle.std.proofs.lemmas.Str.{is_utf8-from_IsUtf8}
use Rattle.cm_world.proofs.Telling.{not_utf8}
use Rattle.cm_world.proofs.reading.read_bytes.Goals as goal

pub returns-in-Ok : goal.returns-in-Ok
returns-in-Ok c = rw (is_utf8-from_IsUtf8 c.args.text.now c.in-Ok.ensures.cases.1, ← c.in-Ok.ensures.cases.0) c.read_document.ensures

pub returns-in-Err : goal.returns-in-Err
returns-in-Err c = rw c.no_toml.ensures (not_utf8 c.args.text.now c.in-Err.ensures.cases.0)

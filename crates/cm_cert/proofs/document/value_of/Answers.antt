use Rattle.std.proofs.Common.{ap}
use Rattle.cm_cert.proofs.Texts.{json_read, no_json}
use Rattle.cm_cert.proofs.document.value_of.Goals as goal
use Rattle.model_cert.specs.Document.{value_in}
use Rattle.serde_json.specs.Errors.{IsMemory}
use Rattle.serde_json.specs.View.{view}

pub returns-in-Ok : goal.returns-in-Ok
returns-in-Ok c =
    let ok = c.in-Ok.ensures.ok in
    ap value_in (json_read c.args.text.now (view c.in-Ok.value) ok.0 ok.1)

pub returns-in_default : goal.returns-in_default
returns-in_default c =
    let no_memory = λ (memory : IsMemory c.in-Err.e). c.in_default.not-Memory (c.classify.ensures.memory.1 memory) in
    ap value_in (no_json c.args.text.now (c.in-Err.ensures.err no_memory))

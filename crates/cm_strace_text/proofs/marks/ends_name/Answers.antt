use Rattle.std.proofs.Common.{◌∙◌, sym}
use Rattle.std.proofs.lemmas.Bool.{not-true}
use Rattle.cm_strace_text.proofs.NameEnds.{name_stays}
use Rattle.cm_strace_text.proofs.marks.ends_name.Goals as goal

pub returns : goal.returns
returns c told more =
    name_stays c.args.text.now c.cut_name.result.1.now more c.cut_name.ensures.rest
    (sym c.is_empty.ensures ∙ not-true c.is_empty.result told)

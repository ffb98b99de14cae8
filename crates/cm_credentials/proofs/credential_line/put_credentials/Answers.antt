use Rattle.std.proofs.Common.{rules, append_assoc, append-nil}
use Rattle.std.proofs.lemmas.Result.{IfOk-equal}
use Rattle.model_text.specs.Print.{credential_line, place_text}
use Rattle.cm_credentials.proofs.credential_line.put_credentials.Goals as goal

pub returns : goal.returns
unfolding credential_line place_text
returns c = search (rules, IfOk-equal, append_assoc, append-nil)

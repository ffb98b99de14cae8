use Rattle.std.proofs.Common.{not, rules}
use Rattle.std.proofs.lemmas.Fn.{filter_same}
use Rattle.cm_strace_parts.specs.Lists.{Fd}
use Rattle.cm_strace_parts.proofs.fd.close_at_exec.Goals as goal

pub returns : goal.returns
returns c = filter_same _ (λ (fd : Fd). not fd.until_exec) _ (λ x b q r.
    (search rules, search rules)) _ _ c.retain.ensures.filtered

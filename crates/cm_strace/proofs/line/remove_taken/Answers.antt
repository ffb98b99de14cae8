use Rattle.std.proofs.Common.{◌∙◌, ap, length, rules}
use Rattle.cm_strace.proofs.Retained.{left_in_turn}
use Rattle.cm_strace.specs.Taken.{untaken}
use Rattle.cm_strace.proofs.line.remove_taken.Goals as goal

pub returns : goal.returns
returns c =
    let h = c.retain.ensures.filtered in
    h.4 ∙ left_in_turn _ (λ p. p.0.now.rest.now) (λ p l stays q r. search rules) h.0 c.args.lines.now.items _ h.1 h.2
    (ap length c.iter-flags.ensures.rest ∙ c.requires.flags) h.3 ∙ ap (untaken c.args.lines.now.items) c.iter-flags.ensures.rest

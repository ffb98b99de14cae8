use Rattle.std.proofs.Common.{◌≡◌, List, ℕ, Err, take, ◌∙◌, ap, rules}
use Rattle.cm_report.proofs.Waiting.{taken}
use Rattle.cm_report.proofs.sending.send.Goals as goal
use Rattle.cm_io.specs.Sink.{then_written}

pub returns-in_err-write_all-clause-front : goal.returns-in_err-write_all-clause-front
returns-in_err-write_all-clause-front g c =
    let same : c.from_residual.result ≡ Err c.in_err-write_all.field-0.0 = search rules in
    rw same (
    taken (g.K.Sink.written c.args.out.now) (g.K.Sink.written c.write_all.new.out) c.in_err-write_all.ensures.prefix.0 c.args.text.now.items
    (c.in_err-write_all.ensures.prefix.1 ∙ ap (λ (t : List ℕ). then_written (g.K.Sink.written c.args.out.now) (take c.in_err-write_all.ensures.prefix.0 t)) c.deref.ensures.value))

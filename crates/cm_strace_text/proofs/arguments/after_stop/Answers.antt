use Rattle.std.proofs.Common.{ℕ, ◌+◌, get_or, sym}
use Rattle.std.proofs.lemmas.Bool.{ne_eqb}
use Rattle.cm_strace_text.proofs.Stops.{bracket_closes, bracket_opens, byte_keeps, byte_passes, quote_passes}
use Rattle.cm_strace_text.proofs.arguments.after_stop.Goals as goal

pub returns-then-byte-eq34-clause-same : goal.returns-then-byte-eq34-clause-same
returns-then-byte-eq34-clause-same c = λ end none.
    quote_passes end c.args.depth c.args.text.now c.args.at c.quote_end.result c.requires.within c.if-byte-eq34.true
    c.quote_end.ensures.end

pub returns-then-opens-clause-same : goal.returns-then-opens-clause-same
returns-then-opens-clause-same c = λ end none.
    byte_passes end c.args.depth (c.args.depth + 1) c.args.text.now c.args.at c.requires.within none
    (bracket_opens c.args.depth (get_or c.args.text.now c.args.at 0) (sym c.if-opens.ensures))

pub returns-then-closes-clause-same : goal.returns-then-closes-clause-same
returns-then-closes-clause-same c = λ end none.
    byte_passes end c.args.depth c.saturating_sub.result c.args.text.now c.args.at c.requires.within none
    (bracket_closes c.args.depth c.saturating_sub.result (get_or c.args.text.now c.args.at 0) (sym c.if-opens.ensures)
    (sym c.if-closes.ensures) c.saturating_sub.ensures)

pub returns-else-closes-clause-same : goal.returns-else-closes-clause-same
returns-else-closes-clause-same c = λ end none.
    let byte : ℕ = get_or c.args.text.now c.args.at 0 in
    byte_passes end c.args.depth c.args.depth c.args.text.now c.args.at c.requires.within none
    (byte_keeps c.args.depth byte (sym c.if-opens.ensures) (sym c.if-closes.ensures) (ne_eqb byte 34 c.if-byte-eq34.false))

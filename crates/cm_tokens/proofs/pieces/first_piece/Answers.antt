use Rattle.std.proofs.Common.{sym, ◌∙◌}
use Rattle.cm_tokens.proofs.Cuts.{cut_at_mark, cut_nowhere}
use Rattle.cm_tokens.proofs.pieces.first_piece.Goals as goal

pub returns-clause-cut : goal.returns-clause-cut
returns-clause-cut c =
    cut_at_mark c.args.mark c.args.text.now c.in_ok-place.place (sym c.place_of.ensures.first ∙ c.in_ok-place.was)

pub returns-in_err-place-clause-whole : goal.returns-in_err-place-clause-whole
returns-in_err-place-clause-whole c =
    rw c.from_residual.ensures (cut_nowhere c.args.mark c.args.text.now (sym c.place_of.ensures.first ∙ c.in_err-place.was))

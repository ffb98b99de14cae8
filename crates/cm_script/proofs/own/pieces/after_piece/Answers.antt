use Rattle.cm_script.proofs.OwnWords.{prefix_read}
use Rattle.cm_script.proofs.own.pieces.after_piece.Goals as goal

pub returns : goal.returns
returns c = prefix_read c.args.text.now c.args.piece.now c.strip_prefix.result c.strip_prefix.ensures.cases

use Rattle.std.proofs.Common.{◌∙◌}
use Rattle.std.proofs.lemmas.Bool.{false≢true}
use Rattle.cm_box_rows.proofs.ByFiles.{id_bit_set}
use Rattle.cm_box_rows.proofs.given.id_by_bit.Goals as goal

pub returns-then-not-has_id_bit-clause-id : goal.returns-then-not-has_id_bit-clause-id
returns-then-not-has_id_bit-clause-id c = λ x. (
  λ wrong. absurd (cc),
  λ stands. absurd (false≢true (c.if-not-has_id_bit.ensures ∙ id_bit_set c.args.kind c.args.file.now x stands)),
)

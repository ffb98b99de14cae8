use Rattle.std.proofs.Common.{refl, sym, ◌∙◌, arith}
use Rattle.cm_box_rows.proofs.OtherIds.{other_found, other_missed}
use Rattle.cm_box_rows.proofs.programs.has_other_than.Goals as goal

pub returns-then-not-is_just : goal.returns-then-not-is_just
returns-then-not-is_just c = (
  λ _.
      let other = sym c.is_just.ensures ∙ c.if-not-is_just.true in
      other_found c.args.list.now c.loop-ids.ids-index c.ids-item.result c.args.id c.requires c.loop-ids-test.true
      c.ids-item.is c.loop-ids.invariant other,
  λ _. refl,
)

pub returns : goal.returns
returns c = (
  λ wrong. absurd (cc),
  λ other.
      absurd (other_missed c.args.list.now c.loop-ids.ids-index c.args.id (omega arith) c.loop-ids.invariant other),
)

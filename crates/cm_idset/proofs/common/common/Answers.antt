use Rattle.std.proofs.Common.{arith, rules, sym}
use Rattle.std.proofs.lemmas.Bool.{leb-true, leb-false}
use Rattle.cm_idset.proofs.Rests.{first_and_rest}
use Rattle.cm_idset.proofs.Walks.{met_one, met_other}
use Rattle.cm_idset.proofs.common.common.Goals as goal

pub loop-a-preserved-then-ends_first : goal.loop-a-preserved-then-ends_first
loop-a-preserved-then-ends_first c =
    let a_is = first_and_rest c.loop-a.a.now c.x-item.result (search rules) c.x-item.is in
    let b_is = first_and_rest c.loop-a.b.now c.y-item.result (search rules) c.y-item.is in
    met_one c.args.one.now c.args.other.now c.loop-a.out.items _ _ _ _ _ _ _ a_is b_is
    c.in_ok-put_common.ensures (leb-true _ _ (sym c.if-ends_first.ensures)) c.loop-a.invariant

pub loop-a-preserved : goal.loop-a-preserved
loop-a-preserved c =
    let a_is = first_and_rest c.loop-a.a.now c.x-item.result (search rules) c.x-item.is in
    let b_is = first_and_rest c.loop-a.b.now c.y-item.result (search rules) c.y-item.is in
    let less = leb-false _ _ (sym c.if-ends_first.ensures) in
    met_other c.args.one.now c.args.other.now c.loop-a.out.items _ _ _ _ _ _ _ a_is b_is
    c.in_ok-put_common.ensures (omega (arith, less)) c.loop-a.invariant

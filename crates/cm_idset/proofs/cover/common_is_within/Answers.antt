use Rattle.std.proofs.Common.{arith, rules, sym}
use Rattle.std.proofs.lemmas.Bool.{leb-true, leb-false}
use Rattle.cm_idset.proofs.Covering.{common_one, common_other}
use Rattle.cm_idset.proofs.Rests.{first_and_rest}
use Rattle.cm_idset.proofs.cover.common_is_within.Goals as goal

pub loop-a-preserved-then-ends_first : goal.loop-a-preserved-then-ends_first
loop-a-preserved-then-ends_first c =
    let a_is = first_and_rest c.loop-a.a.now c.x-item.result (search rules) c.x-item.is in
    let b_is = first_and_rest c.loop-a.b.now c.y-item.result (search rules) c.y-item.is in
    common_one c.args.one.now c.args.other.now c.args.bound.now _ _ _ _ c.loop-a.rest.now _ _ _ a_is b_is
    (leb-true _ _ (sym c.if-ends_first.ensures)) c.in-Some.ensures c.loop-a.invariant

pub loop-a-preserved : goal.loop-a-preserved
loop-a-preserved c =
    let a_is = first_and_rest c.loop-a.a.now c.x-item.result (search rules) c.x-item.is in
    let b_is = first_and_rest c.loop-a.b.now c.y-item.result (search rules) c.y-item.is in
    let less = leb-false _ _ (sym c.if-ends_first.ensures) in
    common_other c.args.one.now c.args.other.now c.args.bound.now _ _ _ _ c.loop-a.rest.now _ _ _ a_is b_is
    (omega (arith, less)) c.in-Some.ensures c.loop-a.invariant

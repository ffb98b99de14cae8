use Rattle.std.proofs.Common.{arith, rules, sym}
use Rattle.std.proofs.lemmas.Bool.{leb-true, leb-false}
use Rattle.cm_idset.proofs.Merging.{joining_start, join_one, join_other}
use Rattle.cm_idset.proofs.Rests.{first_and_rest}
use Rattle.cm_idset.proofs.merge.merged.Goals as goal

pub loop-a-init : goal.loop-a-init
loop-a-init c = joining_start c.args.one.now c.args.other.now _ c.new-out.ensures.items c.requires.one c.requires.other

pub loop-a-preserved-in_ok-put : goal.loop-a-preserved-in_ok-put
loop-a-preserved-in_ok-put c =
    let a_is = first_and_rest c.loop-a.a.now c.x-item.result (search rules) c.x-item.is in
    let b_is = first_and_rest c.loop-a.b.now c.y-item.result (search rules) c.y-item.is in
    join_one c.args.one.now c.args.other.now c.loop-a.out.items _ _ _ _ _ _ _ a_is b_is
    (leb-true _ _ (sym c.if-begins_first.ensures)) c.in_ok-put.ensures c.loop-a.invariant

pub loop-a-preserved : goal.loop-a-preserved
loop-a-preserved c =
    let a_is = first_and_rest c.loop-a.a.now c.x-item.result (search rules) c.x-item.is in
    let b_is = first_and_rest c.loop-a.b.now c.y-item.result (search rules) c.y-item.is in
    let less = leb-false _ _ (sym c.if-begins_first.ensures) in
    join_other c.args.one.now c.args.other.now c.loop-a.out.items _ _ _ _ _ _ _ a_is b_is
    (omega (arith, less)) c.in_ok-put-2.ensures c.loop-a.invariant

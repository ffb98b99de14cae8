use Rattle.std.proofs.Common.{rules}
use Rattle.cm_idset.proofs.Rests.{first_and_rest}
use Rattle.cm_idset.proofs.Walks.{left_before, left_after, both_hold}
use Rattle.cm_idset.proofs.common.apart.Goals as goal

pub loop-a-preserved-then-is_before : goal.loop-a-preserved-then-is_before
loop-a-preserved-then-is_before c =
    let a_is = first_and_rest c.loop-a.a.now c.x-item.result (search rules) c.x-item.is in
    let b_is = first_and_rest c.loop-a.b.now c.y-item.result (search rules) c.y-item.is in
    left_before c.args.one.now c.args.other.now _ _ _ _ _ _ a_is b_is c.if-is_before.ensures c.loop-a.invariant

pub loop-a-preserved : goal.loop-a-preserved
loop-a-preserved c =
    let a_is = first_and_rest c.loop-a.a.now c.x-item.result (search rules) c.x-item.is in
    let b_is = first_and_rest c.loop-a.b.now c.y-item.result (search rules) c.y-item.is in
    left_after c.args.one.now c.args.other.now _ _ _ _ _ _ a_is b_is c.if-is_before-2.ensures c.loop-a.invariant

pub returns-else-is_before-2-clause-no : goal.returns-else-is_before-2-clause-no
returns-else-is_before-2-clause-no c = λ _.
    let a_is = first_and_rest c.loop-a.a.now c.x-item.result (search rules) c.x-item.is in
    let b_is = first_and_rest c.loop-a.b.now c.y-item.result (search rules) c.y-item.is in
    both_hold c.args.one.now c.args.other.now _ _ _ _ _ _ a_is b_is c.if-is_before.ensures c.if-is_before-2.ensures c.loop-a.invariant

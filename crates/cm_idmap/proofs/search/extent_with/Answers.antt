use Rattle.std.proofs.Common.{arith, ap, sym}
use Rattle.model_cred.specs.IdMap.{Extent}
use Rattle.cm_idmap.proofs.Halves.{halved_below, halved_above, halved_in, halved_cost, halved_all}
use Rattle.cm_idmap.proofs.search.extent_with.Goals as goal

pub loop-low-preserved-then-id-first : goal.loop-low-preserved-then-id-first
loop-low-preserved-then-id-first g c =
    halved_below c.args.side _ c.args.id _ _ _ _ _ _ c.look-e.result c.requires c.loop-low.invariant c.look-e.ensures.extent
    (omega (arith, c.if-id-first.true, c.first_of-first.ensures)) (omega arith) (omega arith) (omega arith) c.look-e.ensures.step

pub returns-then-id-first-2-clause-found : goal.returns-then-id-first-2-clause-found
returns-then-id-first-2-clause-found g c =
    let long = ap (λ (e : Extent). e.length) c.e.view_is in
    sym (halved_in c.args.side _ c.args.id _ c.look-e.result c.requires c.look-e.ensures.extent (omega (arith, c.first_of-first.ensures))
    (omega (arith, c.first_of-first.ensures, long)))

pub returns-then-id-first-2-clause-steps : goal.returns-then-id-first-2-clause-steps
returns-then-id-first-2-clause-steps g c =
    halved_cost c.args.side _ c.args.id _ _ _ _ _ c.loop-low.invariant c.loop-low-test.true c.look-e.ensures.step

pub loop-low-preserved : goal.loop-low-preserved
loop-low-preserved g c =
    let long = ap (λ (e : Extent). e.length) c.e.view_is in
    halved_above c.args.side _ c.args.id _ _ _ _ _ _ _ c.look-e.result c.requires c.loop-low.invariant c.look-e.ensures.extent
    (omega (arith, c.first_of-first.ensures, long)) (omega arith) (omega arith) (omega arith) (omega arith) c.look-e.ensures.step

pub returns-clause-found : goal.returns-clause-found
returns-clause-found g c = sym (halved_all c.args.side _ c.args.id _ _ _ _ c.loop-low.invariant c.loop-low-test.false)

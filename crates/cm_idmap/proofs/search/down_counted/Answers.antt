use Rattle.std.proofs.Common.{◌+◌, ◌-◌, Some, None, arith, ap, ◌∙◌}
use Rattle.model_cred.specs.IdMap.{Extent}
use Rattle.cm_idmap.specs.declared.side.Side.TheVariants.{Inside}
use Rattle.cm_idmap.proofs.Orders.{order_of_table}
use Rattle.cm_idmap.proofs.Permuted.{seat_of, down_by}
use Rattle.cm_idmap.proofs.search.down_counted.Goals as goal

pub extent_with-requires : goal.extent_with-requires
extent_with-requires g c = order_of_table Inside _ c.requires.map c.requires.order

pub overflow_sub-result : goal.overflow_sub-result
overflow_sub-result g c =
    let seat = seat_of Inside _ c.args.inside c.in-Some.e c.requires.map c.in-Some.ensures.found in
    omega (arith, seat.low, ap (λ (e : Extent). e.inside) c.e.view_is)

pub overflow_add-result : goal.overflow_add-result
overflow_add-result g c =
    let seat = seat_of Inside _ c.args.inside c.in-Some.e c.requires.map c.in-Some.ensures.found in
    omega (arith, seat.low, seat.high, seat.fits.outside, ap (λ (e : Extent). e.inside) c.e.view_is, ap (λ (e : Extent). e.outside) c.e.view_is)

pub returns-in-Some-clause-image : goal.returns-in-Some-clause-image
returns-in-Some-clause-image g c =
    ap (λ (e : Extent). Some (e.outside + (c.args.inside - e.inside))) c.e.view_is
    ∙ down_by _ c.args.inside (Some c.in-Some.e) c.in-Some.ensures.found

pub returns-in-None-clause-image : goal.returns-in-None-clause-image
returns-in-None-clause-image g c = down_by _ c.args.inside None c.in-None.ensures.found

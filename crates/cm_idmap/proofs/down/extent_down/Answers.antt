use Rattle.std.proofs.Common.{◌≡◌, Some, None, sym, ap, ◌∙◌, arith}
use Rattle.std.specs.Prelude.{find}
use Rattle.model_cred.specs.IdMap.{Extent}
use Rattle.model_rules.specs.Maps.{extent_down}
use Rattle.cm_idmap.specs.declared.side.Side.TheVariants.{Inside}
use Rattle.cm_idmap.specs.Sides.{holds}
use Rattle.cm_idmap.proofs.Orders.{order_of_map}
use Rattle.cm_idmap.proofs.Permuted.{seat_of_map, taken_by, extent_taken, extent_past, extent_nowhere}
use Rattle.cm_idmap.proofs.down.extent_down.Goals as goal

pub extent_in-requires-clause-order : goal.extent_in-requires-clause-order
extent_in-requires-clause-order c = order_of_map Inside c.args.map.now c.requires.map c.requires.order

pub returns-in_default : goal.returns-in_default
returns-in_default c =
    let e : Extent = record { inside = c.e.inside.inside; outside = c.e.inside.outside; length = c.e.inside.length } in
    let none : None ≡ find (holds Inside e.outside) c.args.map.now = sym c.in_default.is ∙ c.extent_in.ensures in
    extent_nowhere c.args.map.now e (omega (arith, c.requires.some, ap (λ (f : Extent). f.length) c.e.view_is)) c.requires.map none
    ∙ ap (extent_down c.args.map.now) c.e.view_is

pub returns-then-end : goal.returns-then-end
returns-then-end c =
    let e : Extent = record { inside = c.e.inside.inside; outside = c.e.inside.outside; length = c.e.inside.length } in
    extent_past c.args.map.now e c.in-Some.p (omega (arith, c.requires.some, ap (λ (f : Extent). f.length) c.e.view_is)) c.requires.map c.in-Some.ensures
    (omega (arith, c.if-end.true, ap (λ (f : Extent). f.inside) c.p.view_is, ap (λ (f : Extent). f.length) c.p.view_is))
    ∙ ap (extent_down c.args.map.now) c.e.view_is

pub overflow_sub-result : goal.overflow_sub-result
overflow_sub-result c =
    let seat = seat_of_map Inside c.args.map.now c.e.inside.outside c.in-Some.p c.requires.map c.in-Some.ensures in
    omega (arith, seat.low, ap (λ (f : Extent). f.inside) c.p.view_is)

pub overflow_add-result : goal.overflow_add-result
overflow_add-result c =
    let seat = seat_of_map Inside c.args.map.now c.e.inside.outside c.in-Some.p c.requires.map c.in-Some.ensures in
    omega (arith, seat.low, seat.high, seat.fits.outside, ap (λ (f : Extent). f.inside) c.p.view_is, ap (λ (f : Extent). f.outside) c.p.view_is)

pub returns : goal.returns
returns c =
    let e : Extent = record { inside = c.e.inside.inside; outside = c.e.inside.outside; length = c.e.inside.length } in
    ap (λ (p : Extent). Some (taken_by e p)) c.p.view_is
    ∙ (extent_taken c.args.map.now e c.in-Some.p (omega (arith, c.requires.some, ap (λ (f : Extent). f.length) c.e.view_is)) c.requires.map c.in-Some.ensures
    (omega (arith, c.if-end.false, ap (λ (f : Extent). f.inside) c.p.view_is, ap (λ (f : Extent). f.length) c.p.view_is))
    ∙ ap (extent_down c.args.map.now) c.e.view_is)

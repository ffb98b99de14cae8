use Rattle.cm_idset.proofs.Images.{inside_fits, outside_fits, all_found, found_of_ids, put_are_image}
use Rattle.cm_idset.proofs.image.image.Goals as goal

pub put_images-requires-clause-inside : goal.put_images-requires-clause-inside
put_images-requires-clause-inside c = inside_fits c.args.map.now c.loop-e.e-index c.e-item.result c.requires.map c.loop-e-test.true c.e-item.is

pub put_images-requires-clause-outside : goal.put_images-requires-clause-outside
put_images-requires-clause-outside c = outside_fits c.args.map.now c.loop-e.e-index c.e-item.result c.requires.map c.loop-e-test.true c.e-item.is

pub put_in_order-requires : goal.put_in_order-requires
put_in_order-requires c =
    let found_is = all_found c.args.map.now c.args.list.now c.loop-e.found.items c.loop-e.e-index c.loop-e-test.false c.loop-e.invariant in
    found_of_ids c.args.map.now c.args.list.now _ c.requires.map found_is

pub returns-clause-image : goal.returns-clause-image
returns-clause-image c =
    let found_is = all_found c.args.map.now c.args.list.now c.loop-e.found.items c.loop-e.e-index c.loop-e-test.false c.loop-e.invariant in
    put_are_image c.args.map.now c.args.list.now _ _ _ _ _ c.requires.map found_is c.put_in_order.ensures.holds
    c.deref.ensures.value c.new-ids.ensures.items c.in_ok-put_all.ensures.holds

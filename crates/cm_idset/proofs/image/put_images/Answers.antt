use Rattle.cm_idset.proofs.Elements.{of_ids_at}
use Rattle.cm_idset.proofs.image.put_images.Goals as goal

pub put_image-requires-clause-ids : goal.put_image-requires-clause-ids
put_image-requires-clause-ids c = (of_ids_at c.args.list.now c.loop-ids.ids-index c.ids-item.result c.requires.canonical c.loop-ids-test.true c.ids-item.is).ids

use Rattle.std.proofs.Common.{◌+◌, sym, ◌∙◌, ap, arith}
use Rattle.cm_script.proofs.Items.{after_items, after_push, extents_step}
use Rattle.cm_script.proofs.lists.read_extents.Goals as goal
use Rattle.cm_script.specs.Steps.{arguments_in, extents_told}

pub triples-preserved : goal.triples-preserved
triples-preserved c =
    let read = rw c.in-Ok-Some.field-0-is at c.in-Ok-Some.ensures in
    let step = extents_step c.triples.place (arguments_in c.triples.rest.now) (arguments_in c.in-Ok-Some.after.now) c.in-Ok-Some.extent (sym read.told) in
    let more = c.in_ok-push-in-Ok-Some.ensures.items in
    record {
      told =
          rw more
          (after_push c.triples.list.items c.in-Ok-Some.extent (extents_told (c.triples.place + 3) (arguments_in c.in-Ok-Some.after.now))
          ∙ ap (after_items c.triples.list.items) (sym step) ∙ c.triples.invariant.told);
      within = omega (arith, read.shorter, c.triples.invariant.within);
    }

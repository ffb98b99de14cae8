use Rattle.std.proofs.Common.{◌<◌, length, rules}
use Rattle.std.proofs.lemmas.List.{length-map}
use Rattle.cm_io.specs.Names.{place_of}
use Rattle.cm_io.specs.Counts.{names_of}
use Rattle.cm_io.proofs.Files.{held_below, held_past, text_at, text_past}
use Rattle.cm_io.proofs.held.Held.text.Goals as goal

pub returns-then-place-len-clause-held : goal.returns-then-place-len-clause-held
returns-then-place-len-clause-held c =
    held_below (names_of c.args.self.now.counts) c.args.self.now.texts.items c.args.name.now (search (rules, length-map)) (search rules)

pub returns-then-place-len-clause-text : goal.returns-then-place-len-clause-text
returns-then-place-len-clause-text c =
    let below : place_of (names_of c.args.self.now.counts) c.args.name.now < length c.args.self.now.texts.items = search rules in
    let text = text_at (names_of c.args.self.now.counts) c.args.self.now.texts.items c.args.name.now c.index.result.now (search (rules, length-map)) below in
    let place = c.place_of-place.ensures.place in
    let at = c.index.ensures in
    let read = c.as_slice.ensures.value in
    cc

pub returns-else-place-len-clause-held : goal.returns-else-place-len-clause-held
returns-else-place-len-clause-held c = held_past (names_of c.args.self.now.counts) c.args.self.now.texts.items c.args.name.now (search rules)

pub returns-else-place-len-clause-none : goal.returns-else-place-len-clause-none
returns-else-place-len-clause-none c = text_past (names_of c.args.self.now.counts) c.args.self.now.texts.items c.args.name.now (search rules)

use Rattle.std.proofs.Common.{ap, sym, ◌∙◌, take}
use Rattle.cm_files.specs.Fault.{has_path}
use Rattle.cm_files.proofs.Indexes.{found_path, absent_path, index_more, path_read}
use Rattle.cm_files.proofs.index.free_place.Goals as goal
use Rattle.model_cred.specs.Files.{FileRow}

pub returns-then-stands_at-clause-twice : goal.returns-then-stands_at-clause-twice
returns-then-stands_at-clause-twice c =
    let there = c.stands_at.ensures.there c.if-stands_at.true in
    let is =
    path_read c.args.rows.now c.args.n c.items-path.result.now c.index-rows-n.result c.requires.within
    (c.items-path.ensures ∙ ap (λ (r : FileRow). r.path) c.row.view_is) c.index-rows-n.is in
    found_path c.args.rows.now c.args.n c.args.index.now.order.items c.items-path.result.now _ c.requires.index there.0 there.1
    ∙ ap (λ p. has_path p (take c.args.n c.args.rows.now)) is

pub returns-else-stands_at-clause-twice : goal.returns-else-stands_at-clause-twice
returns-else-stands_at-clause-twice c =
    let is =
    path_read c.args.rows.now c.args.n c.items-path.result.now c.index-rows-n.result c.requires.within
    (c.items-path.ensures ∙ ap (λ (r : FileRow). r.path) c.row.view_is) c.index-rows-n.is in
    absent_path c.args.rows.now c.args.n c.args.index.now.order.items c.items-path.result.now _ c.requires.index c.place_of-place.ensures
    (c.stands_at.ensures.absent c.if-stands_at.false)
    ∙ ap (λ p. has_path p (take c.args.n c.args.rows.now)) is

pub returns-else-stands_at-clause-index : goal.returns-else-stands_at-clause-index
returns-else-stands_at-clause-index c =
    let is =
    path_read c.args.rows.now c.args.n c.items-path.result.now c.index-rows-n.result c.requires.within
    (c.items-path.ensures ∙ ap (λ (r : FileRow). r.path) c.row.view_is) c.index-rows-n.is in
    index_more c.args.rows.now c.args.n c.args.index.now.order.items c.items-path.result.now c.place_of-place.result c.requires.index c.place_of-place.ensures
    (c.stands_at.ensures.absent c.if-stands_at.false) c.requires.within (sym is)

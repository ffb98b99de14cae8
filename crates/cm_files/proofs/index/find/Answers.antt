use Rattle.std.proofs.Common.{◌≡◌, length, Some, ap, ◌∙◌}
use Rattle.std.proofs.lemmas.Grind.{get_or_default_zero}
use Rattle.std.specs.Prelude.{slice_index}
use Rattle.std.proofs.Math.Seq.{take-length}
use Rattle.cm_files.proofs.Indexes.{found, found_row, absent}
use Rattle.cm_files.proofs.index.find.Goals as goal
use Rattle.model_cred.specs.Files.{row_named}

pub returns-in-Some-clause-named : goal.returns-in-Some-clause-named
returns-in-Some-clause-named c =
    found_row c.args.rows.now (length c.args.rows.now) c.args.index.now.order.items c.args.path.now c.in-Some.n c.requires.index
    c.in-Some.ensures.within c.in-Some.ensures.path
    ∙ ap (λ l. row_named l c.args.path.now) (take-length c.args.rows.now)

pub returns-then-stands_at-clause-named : goal.returns-then-stands_at-clause-named
returns-then-stands_at-clause-named c =
    let there = c.stands_at.ensures.there c.if-stands_at.true in
    let read : c.index.result.now ≡ slice_index c.args.index.now.order.items c.place_of-place.result =
    c.index.ensures ∙ get_or_default_zero c.args.index.now.order.items c.place_of-place.result _ there.0 in
    ap Some read
    ∙ found c.args.rows.now (length c.args.rows.now) c.args.index.now.order.items c.args.path.now _ c.requires.index c.place_of-place.ensures there.0 there.1
    ∙ ap (λ l. row_named l c.args.path.now) (take-length c.args.rows.now)

pub returns-else-stands_at-clause-named : goal.returns-else-stands_at-clause-named
returns-else-stands_at-clause-named c =
    absent c.args.rows.now (length c.args.rows.now) c.args.index.now.order.items c.args.path.now _ c.requires.index c.place_of-place.ensures
    (c.stands_at.ensures.absent c.if-stands_at.false)
    ∙ ap (λ l. row_named l c.args.path.now) (take-length c.args.rows.now)

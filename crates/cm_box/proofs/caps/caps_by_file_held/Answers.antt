use Rattle.cm_box_rows.proofs.ByFiles.{caps_here}
use Rattle.cm_box.proofs.caps.caps_by_file_held.Goals as goal
use Rattle.cm_box.specs.Places.{row_of}

pub returns : goal.returns
returns c =
    let can = c.attribute_can.ensures.0 c.if-not-attribute_can.false in
    let here = caps_here c.args.bounds.now (row_of c.args.at) c.row.result.now c.row.ensures c.args.files.now c.args.k
    c.view_at-file.result.now c.view_at-file.ensures c.args.spaces.now can in
    (λ within. here.0 (c.gives_within.ensures.0 within), λ held. c.gives_within.ensures.1 (here.1 held))

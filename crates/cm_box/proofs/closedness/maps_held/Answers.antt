use Rattle.cm_filter.specs.Filters.{permits}
use Rattle.model_box.specs.Row.{MappedUids, MappedGids}
use Rattle.cm_box.specs.Places.{row_of}
use Rattle.cm_box.proofs.MapRule.{both_maps}
use Rattle.cm_box_rows.proofs.Spreading.{refused, granted}
use Rattle.cm_box_rows.proofs.Tests.{no}
use Rattle.cm_box_rows.specs.Rows.{RowsHold}
use Rattle.cm_box.proofs.closedness.maps_held.Goals as goal

pub returns-then-not-ids_mapped_held : goal.returns-then-not-ids_mapped_held
returns-then-not-ids_mapped_held c = no _ (λ all. refused _ c.if-not-ids_mapped_held.ensures (all MappedUids))

pub returns : goal.returns
returns c =
    let uids = granted _ c.if-not-ids_mapped_held.ensures in (
      λ is. both_maps (permits c.args.filter) c.args.spaces.now (RowsHold c.args.bounds.now) (row_of c.args.at) uids
          (c.ids_mapped_held-2.ensures.0 is),
      λ all. c.ids_mapped_held-2.ensures.1 (all MappedGids),
    )

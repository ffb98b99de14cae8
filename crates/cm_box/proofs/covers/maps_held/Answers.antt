use Rattle.cm_state.specs.contracts.space.Space as space
use Rattle.std.proofs.lemmas.Bool.{iff_false}
use Rattle.cm_box.proofs.CoverParts.{maps_not, maps_rest}
use Rattle.cm_box.proofs.covers.maps_held.Goals as goal

pub returns-then-not-map_held : goal.returns-then-not-map_held
returns-then-not-map_held c = rw (← c.row.view_is, ← c.space.view_is) (maps_not (space.the_view c.space.inside) _
    (iff_false c.map_held.ensures c.if-not-map_held.true))

pub returns : goal.returns
returns c = rw (← c.row.view_is, ← c.space.view_is) (maps_rest (space.the_view c.space.inside) _ c.map_held-2.result
    (c.map_held.ensures.0 c.if-not-map_held.false) c.map_held-2.ensures)

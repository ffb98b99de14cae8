-- The places of rows in the words of the definitions.
use Rattle.cm_box.specs.declared.place.Place.{Place}
use Rattle.cm_box.specs.declared.place.Place.TheVariants as code
use Rattle.model_box.specs.Row.{Row, Standing, Fresh}

-- the row of the definitions
abbrev pub row_of : Place → Row
row_of (code.Standing n) = Standing n.0
row_of (code.Fresh n) = Fresh n.0

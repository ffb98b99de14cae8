use Rattle.model_box.proofs.Stated.{closed_for_fewer}
use Rattle.model_box.proofs.laws.closed_bounds_stay_closed_under_stricter_filters.Goals as goal

pub returns : goal.returns
returns c = closed_for_fewer

use Rattle.model_box.proofs.Stated.{soundness}
use Rattle.model_box.proofs.laws.closed_covering_bounds_stay_covering.Goals as goal

pub returns : goal.returns
returns c = soundness

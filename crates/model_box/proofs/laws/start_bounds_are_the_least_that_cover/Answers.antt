use Rattle.model_box.proofs.Stated.{covers_at_start}
use Rattle.model_box.proofs.laws.start_bounds_are_the_least_that_cover.Goals as goal

pub returns : goal.returns
returns c = covers_at_start

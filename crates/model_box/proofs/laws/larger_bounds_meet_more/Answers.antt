use Rattle.model_box.proofs.Stated.{meets_more}
use Rattle.model_box.proofs.laws.larger_bounds_meet_more.Goals as goal

pub returns : goal.returns
returns c = meets_more

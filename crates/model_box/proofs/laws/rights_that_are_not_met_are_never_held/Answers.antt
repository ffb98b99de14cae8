use Rattle.model_box.proofs.Stated.{exclusion}
use Rattle.model_box.proofs.laws.rights_that_are_not_met_are_never_held.Goals as goal

pub returns : goal.returns
returns c = exclusion

-- The code's rights as those of the definitions.
use Rattle.cm_state.specs.declared.right.Right.{Right}
use Rattle.cm_state.specs.declared.right.Right.TheVariants as code
use Rattle.model_cred.specs.Right as model

abbrev pub right_of : Right → model.Right
right_of (code.Cap cap n) = model.Cap cap n.0
right_of (code.Uid id) = model.Uid id
right_of (code.Gid id) = model.Gid id

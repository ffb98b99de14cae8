-- The code's worlds as those of the definitions.
use Rattle.cm_declared.specs.declared.world.LogForm.{LogForm}
use Rattle.cm_declared.specs.declared.world.LogForm.TheVariants as code
use Rattle.cm_declared.specs.declared.world.World.{World}
use Rattle.model_cred.specs.World as model

-- the form of the definitions
abbrev pub form_of : LogForm → model.LogForm
form_of code.Script = model.Script
form_of code.Strace = model.Strace

-- the world of the definitions
abbrev pub world_of : World → model.World
world_of w = record { start = w.start; names = w.names; files = w.files; filter = w.filter; form = form_of w.form }

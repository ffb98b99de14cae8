-- What holds of one step.
use Rattle.std.specs.Prelude.{◌≡◌, ◌+◌, length, [], ◌∷◌}
use Rattle.cm_base.specs.declared.errno.Errno.{Errno}
use Rattle.cm_base.specs.declared.res.Res.TheVariants.{Err}
use Rattle.model_cred.specs.Call.{Event}
use Rattle.model_cred.specs.Made.{spaces_made}
use Rattle.model_cred.specs.Process.{State}
use Rattle.model_cred.specs.World.{World}
use Rattle.model_run.specs.Step.{Step}

-- An event leads to at most one next state.
unfoldable pub OneNextState : Type 0
OneNextState = (w : World) (s : State) (e : Event) (a b : State) → Step w s e a → Step w s e b → a ≡ b

-- A step whose result is an error, of the rules or from outside, changes nothing.
unfoldable pub ErrorChangesNothing : Type 0
ErrorChangesNothing = (w : World) (s : State) (e : Event) (error : Errno) (s' : State)
    → Step w s e s' → e.res ≡ Err error → s' ≡ s

-- A step makes the user namespace that its event tells of as made, and no other; and none goes.
unfoldable pub StepsMakeSpaces : Type 0
StepsMakeSpaces = (w : World) (s : State) (e : Event) (s' : State) → Step w s e s'
    → length s'.spaces ≡ length s.spaces + spaces_made (e ∷ [])

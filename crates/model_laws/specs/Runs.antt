-- What every step and every run keeps.
use Rattle.std.specs.Prelude.{Bool, List, ℕ}
use Rattle.model_cred.specs.Call.{Event}
use Rattle.cm_filter.specs.declared.kind.CallKind.{CallKind}
use Rattle.model_cred.specs.Files.{KeepsFiles}
use Rattle.model_cred.specs.Process.{State, KeepsState}
use Rattle.model_cred.specs.World.{World, KeepsWorld}
use Rattle.model_run.specs.Later.{Later}
use Rattle.model_run.specs.Step.{Step, Run}

-- Each step keeps what a state keeps: what each credential keeps, the order of pids, the tree of spaces with each parent
-- older, and what each space keeps (capabilities(7), "Thread capability sets"; credentials(7); user_namespaces(7)).
unfoldable pub StepKeeps : Type 0
StepKeeps = (w : World) (s : State) (e : Event) (s' : State) → KeepsFiles w.files → KeepsState s → Step w s e s' → KeepsState s'

-- So does each run.
unfoldable pub RunKeeps : Type 0
RunKeeps = (w : World) (s : State) (es : List Event) (s' : State) → KeepsFiles w.files → KeepsState s → Run w s es s' → KeepsState s'

-- So does each later run.
unfoldable pub LaterKeeps : Type 0
LaterKeeps = (permitted : CallKind → Bool) (w : World) (s : State) (members : List ℕ) (es : List Event) (s' : State) (members' : List ℕ)
    → KeepsFiles w.files → KeepsState s → Later permitted w s members es s' members' → KeepsState s'

-- Each state that a run reaches from the beginning of a world keeps what a state keeps.
unfoldable pub WorldRunKeeps : Type 0
WorldRunKeeps = (w : World) (es : List Event) (s' : State) → KeepsWorld w → Run w w.start es s' → KeepsState s'

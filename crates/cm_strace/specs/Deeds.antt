-- What is left to be done of a line, in the words of the definitions.
use Rattle.std.specs.Prelude.{◌≡◌, ℕ, Bool, List, ◌++◌, bytes_eq, Option, Some, None, if◌then◌else◌}
use Rattle.cm_base.specs.declared.res.Res.TheVariants as res
use Rattle.cm_state.specs.Call.{call_of}
use Rattle.cm_strace.specs.declared.deed.Deed.{Deed}
use Rattle.cm_strace.specs.declared.deed.Deed.TheVariants as deed
use Rattle.cm_strace.specs.declared.deed.Origin.{Origin}
use Rattle.model_cred.specs.Call as model
use Rattle.model_strace.specs.Parts.{Parts, without_kept, after_end}
use Rattle.model_strace.specs.Written.{call_name, without_32}
use Rattle.model_strace.specs.Turn.{Turn, Quiet, Refused, Exceeds, gives, done, gives_birth, with_child}

-- what a deed of a process does, where it has changed the parts quietly
abbrev pub deed_is : ℕ → Deed → Parts → Turn
deed_is pid deed.Quiet p = Quiet p
deed_is pid (deed.Refused why) p = Refused why
deed_is pid (deed.Exceeds limit) p = Exceeds limit
deed_is pid (deed.Does call answer) p = done pid (call_of call) answer p
deed_is pid (deed.Bears birth) p = gives_birth pid birth.child birth.user
    (with_child pid birth.child birth.user birth.shares p)
deed_is pid deed.Ends p = gives (after_end pid p) pid model.Exit res.Done

-- the parts, without the text that is kept of a process whose call was resumed
abbrev pub left_of : Bool → ℕ → Parts → Parts
left_of resumed pid p = if resumed then without_kept pid p else p

-- what the deed of a line does
abbrev pub line_turn : Origin → Deed → Parts → Turn
line_turn origin d p = deed_is origin.pid d (left_of origin.resumed origin.pid p)

-- the child of a birth
abbrev pub child_of : Deed → Option ℕ
child_of (deed.Bears birth) = Some birth.child
child_of _ = None

-- what gives an event hasn't changed anything yet
abbrev pub Waits : {T : Type 0} → Deed → T → T → Type 0
Waits deed.Quiet new old = Unit {0}
Waits (deed.Refused why) new old = Unit {0}
Waits (deed.Exceeds limit) new old = Unit {0}
Waits _ new old = new ≡ old

-- it gives an event
abbrev pub GivesEvent : Deed → Type 0
GivesEvent deed.Quiet = ⊥
GivesEvent (deed.Refused why) = ⊥
GivesEvent (deed.Exceeds limit) = ⊥
GivesEvent _ = Unit {0}

-- the text of a call of that name whose beginning is kept, with its rest
abbrev pub begun_text : List ℕ → List ℕ → Option (List ℕ) → Option (List ℕ)
begun_text name rest None = None
begun_text name rest (Some kept) = if bytes_eq (call_name kept) (without_32 name) then Some (kept ++ rest) else None

-- What is asked of the rules for a call of a process, and what becomes of what the call has changed.
use Rattle.std.specs.Prelude.{◌≡◌, ℕ, ◌<◌, Bool, true, false, if◌then◌else◌, length, List, ◌∷◌, [], Option, Some, slice_get, unwrap_or}
use Rattle.cm_base.specs.Limits.{greatest_number}
use Rattle.cm_base.specs.declared.res.Res.{Res}
use Rattle.cm_base.specs.declared.res.Res.TheVariants.{Done, Child}
use Rattle.cm_machine.specs.declared.change.Change.{Change}
use Rattle.cm_machine.specs.declared.change.Change.TheVariants as change
use Rattle.cm_machine.specs.declared.ruling.Asked.{Asked}
use Rattle.cm_nscalls.specs.Answers.{stored_list}
use Rattle.cm_nscalls.specs.File.{file_of}
use Rattle.cm_nscalls.specs.declared.file.MapFile.TheVariants as file
use Rattle.cm_filter.specs.Filters.{Filter, excludes}
use Rattle.model_cred.specs.Call.{Call, SetGroups, Fork, CloneUser, Unshare, SetNs, WriteUidMap, WriteGidMap, WriteSetgroups, Exit, Install, kind_of}
use Rattle.model_cred.specs.Credential.{Credential}
use Rattle.model_cred.specs.Process.{Process, State, is_alive, insert_process, put_process}
use Rattle.model_cred.specs.Space.{Spaces, put_space, space_of}
use Rattle.model_cred.specs.World.{World}
use Rattle.model_rules.specs.Install.{with_installed}
use Rattle.model_rules.specs.Maps.{UidMap, GidMap, with_map}
use Rattle.model_rules.specs.Namespaces.{as_newcomer, created_by}
use Rattle.model_rules.specs.Reply.{reply}
use Rattle.model_run.specs.Ruling.{Ruling, permitted_ruling, excluded_ruling, free_pid, with_cred, fork_child, clone_child, state_without}
use Rattle.model_run.specs.Outside.{comes_from_outside}
use Rattle.model_run.specs.Step.{Outcome, Goes, told_child, told_rules}

-- the number of a child's pid, 0 (which is no pid) where there is none
abbrev pub pid_number : Option ℕ → ℕ
pid_number child = unwrap_or child 0

-- the state of these processes and spaces
abbrev pub state_of : List Process → Spaces → State
state_of processes spaces = record { processes = processes; spaces = spaces }

-- this holds of the process at that place
abbrev pub OfCaller : State → ℕ → (Process → Type 0) → Type 0
OfCaller s at P = (p : Process) → slice_get s.processes at ≡ Some p → P p

-- The own filter of the process excludes the call.
abbrev pub is_excluded : Process → Call → Bool
is_excluded p call = excludes p.filter (kind_of call)

-- the own step of a process with a call that its filter permits
abbrev pub own_permitted : World → State → Process → Call → Ruling
own_permitted w s p call = permitted_ruling w s p call (free_pid s)

-- With that number for a child's pid the rules give what the process gives of its own.
abbrev pub GivesOwn : List Process → Call → ℕ → Type 0
GivesOwn processes call n =
    (w : World) (spaces : Spaces) (p : Process)
    → permitted_ruling w (state_of processes spaces) p call n ≡ own_permitted w (state_of processes spaces) p call

-- With that number for a child's pid the rules give what the told result is held against, and the process's own answer
-- where it is another.
abbrev pub GivesTold : List Process → Call → Res → ℕ → Type 0
GivesTold processes call told n =
    (w : World) (spaces : Spaces) (p : Process)
    → told_rules told (permitted_ruling w (state_of processes spaces) p call (told_child told)) (own_permitted w (state_of processes spaces) p call)
    ≡ told_rules told (permitted_ruling w (state_of processes spaces) p call n) (permitted_ruling w (state_of processes spaces) p call n)

-- What becomes of a call that the process's filter permits, with the result that is told.
abbrev pub told_permitted : World → State → Process → Call → Res → Outcome
told_permitted w s p call told =
    if comes_from_outside call told then Goes s else told_rules told (permitted_ruling w s p call (told_child told)) (own_permitted w s p call)

-- what becomes of one that it excludes
abbrev pub told_excluded : State → Res → Outcome
told_excluded s told = told_rules told (excluded_ruling s) (excluded_ruling s)

-- what setgroups with that answer changes, where these were the groups
abbrev pub groups_change : Res → List ℕ → Change
groups_change Done groups = change.Groups groups
groups_change res groups = change.Nothing

-- what a birth with that answer still has to make
abbrev pub birth_change : Res → Change
birth_change (Child pid) = change.Birth pid
birth_change res = change.Nothing

-- what a birth into a new space with that answer still has to make
abbrev pub inner_birth_change : Res → Change
inner_birth_change (Child pid) = change.InnerBirth pid
inner_birth_change res = change.Nothing

-- the change where the call is done, else none
abbrev pub where_done : Res → Change → Change
where_done Done to_make = to_make
where_done res to_make = change.Nothing

-- what a call with that answer changes of its caller, who had that credential, and what is still to be made of it
abbrev pub change_by : Spaces → Call → Res → Credential → Change
change_by spaces (SetGroups ids) res c = groups_change res c.groups
change_by spaces Fork res c = birth_change res
change_by spaces CloneUser res c = inner_birth_change res
change_by spaces Unshare res c = where_done res change.Space
change_by spaces (SetNs n) res c = where_done res (change.Join (record { 0 = n }))
change_by spaces (WriteUidMap n given) res c = where_done res (change.Map file.UidMap (record { 0 = n }) (stored_list UidMap spaces n given))
change_by spaces (WriteGidMap n given) res c = where_done res (change.Map file.GidMap (record { 0 = n }) (stored_list GidMap spaces n given))
change_by spaces (WriteSetgroups n deny) res c = where_done res (change.Word (record { 0 = n }) deny)
change_by spaces Exit res c = change.Exit
change_by spaces (Install more) res c = where_done res (change.Install more)
change_by spaces call res c = change.Fields

-- the credential in which a call leaves its caller before its change is kept: a birth, an exit, the calls of spaces and
-- an install leave the one that it has
abbrev pub cred_after : World → Spaces → Process → Call → Credential
cred_after w spaces p Fork = p.cred
cred_after w spaces p CloneUser = p.cred
cred_after w spaces p Unshare = p.cred
cred_after w spaces p (SetNs n) = p.cred
cred_after w spaces p (WriteUidMap n given) = p.cred
cred_after w spaces p (WriteGidMap n given) = p.cred
cred_after w spaces p (WriteSetgroups n deny) = p.cred
cred_after w spaces p Exit = p.cred
cred_after w spaces p (Install more) = p.cred
cred_after w spaces p call = (reply w.files spaces p.space p.cred call).cred

-- the credential with no supplementary group
abbrev pub without_groups : Credential → Credential
without_groups c = record c { groups = [] }

-- the credential where the change is undone; the fields but the groups come back from the old one
abbrev pub undone_cred : Change → Credential → Credential → Credential
undone_cred change.Fields old c = record old { groups = c.groups }
undone_cred (change.Groups groups) old c = record c { groups = groups }
undone_cred _ old c = c

-- the state where the change of the process, which had the old credential, is undone
abbrev pub undone : Change → Credential → Process → State → State
undone change.Fields old p s = with_cred s p (undone_cred change.Fields old p.cred)
undone (change.Groups groups) old p s = with_cred s p (undone_cred (change.Groups groups) old p.cred)
undone _ old p s = s

-- the state where the process has a child of that pid
abbrev pub born : State → Process → ℕ → State
born s p pid = record s { processes = insert_process (fork_child p pid) s.processes }

-- the state where the process has a child of that pid in a new space
abbrev pub born_inside : State → Process → ℕ → State
born_inside s p pid = record {
  processes = insert_process (clone_child s.spaces p pid) s.processes;
  spaces = created_by s.spaces p.space p.cred ∷ s.spaces;
}

-- the process after it has come into that space
abbrev pub inside : Process → ℕ → Process
inside p n = record p { space = n; cred = as_newcomer p.cred }

-- the state where the process has come into that space
abbrev pub joined : State → Process → ℕ → State
joined s p n = record s { processes = put_process (inside p n) s.processes }

-- the state where the process has made a space and come into it
abbrev pub entered : State → Process → State
entered s p = record {
  processes = put_process (inside p (length s.spaces)) s.processes;
  spaces = created_by s.spaces p.space p.cred ∷ s.spaces;
}

-- the state where the process has installed that filter
abbrev pub filtered : State → Process → Filter → State
filtered s p more = record s { processes = put_process (record p { filter = with_installed p.filter more }) s.processes }

-- the state where the change of the process is kept: what is still to be made of it is made
abbrev pub kept : Change → Process → State → State
kept (change.Birth pid) p s = born s p pid
kept (change.InnerBirth pid) p s = born_inside s p pid
kept change.Space p s = entered s p
kept (change.Join n) p s = joined s p n.0
kept (change.Map which n map) p s = record s { spaces = put_space n.0 (with_map (file_of which) (space_of s.spaces n.0) map) s.spaces }
kept (change.Word n deny) p s = record s { spaces = put_space n.0 (record (space_of s.spaces n.0) { deny = deny }) s.spaces }
kept change.Exit p s = state_without s p
kept (change.Install more) p s = filtered s p more
kept _ p s = s

-- what is still to be made of the change is a process or a space
abbrev pub makes_new : Change → Bool
makes_new (change.Birth pid) = true
makes_new (change.InnerBirth pid) = true
makes_new change.Space = true
makes_new _ = false

-- What is still to be made of the change can be made: a child that is to be born has a pid that isn't alive, a space that is
-- to be joined or written stands, and there is room for one that is to be made.
abbrev pub CanKeep : Change → State → Type 0
CanKeep (change.Birth pid) s = is_alive s.processes pid ≡ false
CanKeep (change.InnerBirth pid) s = (is_alive s.processes pid ≡ false) × (length s.spaces < greatest_number)
CanKeep change.Space s = length s.spaces < greatest_number
CanKeep (change.Join n) s = n.0 < length s.spaces
CanKeep (change.Map which n map) s = n.0 < length s.spaces
CanKeep (change.Word n deny) s = n.0 < length s.spaces
CanKeep _ s = Unit {0}

-- What was asked for the process at that place, which had the old credential, is answered by the rules: kept, the change
-- leads to the state that they give, and undone, to the state before.
pub record IsAsked (asked : Asked) (old : Credential) (at : ℕ) (after before : State) (given : Ruling) : Type 0 where
  pub caller : Process
  pub there : slice_get after.processes at ≡ Some caller
  pub answers : asked.res ≡ given.res
  pub keeps : kept asked.change caller after ≡ given.state
  pub undoes : undone asked.change old caller after ≡ before

-- Whichever process stands at that place, what was asked for it is answered by the rules.
abbrev pub AsksRules : Asked → ℕ → State → State → (Process → Ruling) → Type 0
AsksRules asked at after before rules = OfCaller before at (λ p. IsAsked asked (without_groups p.cred) at after before (rules p))

-- What holds of families, and of members in later runs.
use Rattle.std.specs.Prelude.{◌≡◌, ◌≢◌, ◌↔◌, ℕ, Bool, false, IsTrue, List, [], ◌∷◌, ◌++◌, Some, None}
use Rattle.cm_base.specs.declared.res.Res.TheVariants.{Child}
use Rattle.model_cred.specs.Call.{Event, Exit}
use Rattle.cm_filter.specs.declared.kind.CallKind.{CallKind}
use Rattle.model_cred.specs.Process.{Process, State, process_at, is_alive}
use Rattle.model_cred.specs.World.{World}
use Rattle.model_run.specs.Family.{Family, family}
use Rattle.model_run.specs.Later.{Later, is_member, members_after}
use Rattle.model_run.specs.Step.{Step}

-- The chain of forebears of a process ends: it has none, or a live one whose chain ends.
pub data ChainEnds (s : State) : ℕ → Type 0 where
  first : (pid : ℕ) (p : Process) → process_at s.processes pid ≡ Some p → p.forebear ≡ None → ChainEnds s pid
  next : (pid forebear : ℕ) (p : Process) → process_at s.processes pid ≡ Some p → p.forebear ≡ Some forebear → ChainEnds s forebear
      → ChainEnds s pid

-- The chain of forebears of each live process ends: forebears are alive, and following them one comes to a process that has
-- none.
abbrev pub ChainsEnd : State → Type 0
ChainsEnd s = (pid : ℕ) → IsTrue (is_alive s.processes pid) → ChainEnds s pid

-- Each step keeps that chains of forebears end.
unfoldable pub StepKeepsChains : Type 0
StepKeepsChains = (w : World) (s : State) (e : Event) (s' : State) → ChainsEnd s → Step w s e s' → ChainsEnd s'

-- no event is the exit of that process
abbrev pub NeverExits : ℕ → List Event → Type 0
NeverExits pid [] = Unit {0}
NeverExits pid (e ∷ es) = (e.pid ≡ pid → e.call ≢ Exit) × NeverExits pid es

-- the members are the family of the root
abbrev pub AreFamily : State → ℕ → List ℕ → Type 0
AreFamily s root members = (pid : ℕ) → IsTrue (is_member members pid) ↔ Family s root pid

-- The family of a root as it is computed is its family as the relation has it.
unfoldable pub FamilyIsComputed : Type 0
FamilyIsComputed = (s : State) (root : ℕ) → AreFamily s root (family s root)

-- In a later run that starts with the family of a root as its members, they are its family as long as the root lives.
unfoldable pub MembersAreFamily : Type 0
MembersAreFamily = (permitted : CallKind → Bool) (w : World) (s : State) (members : List ℕ) (es : List Event) (s' : State) (members' : List ℕ) (root : ℕ)
    → ChainsEnd s → AreFamily s root members → NeverExits root es → Later permitted w s members es s' members' → AreFamily s' root members'

-- a later run up to an event, and from it on
pub record MemberAt (permitted : CallKind → Bool) (w : World) (s : State) (members : List ℕ) (before : List Event) (e : Event)
    (after : List Event) (s' : State) (members' : List ℕ) : Type 0 where
  pub state : State
  pub members_then : List ℕ
  pub earlier : Later permitted w s members before state members_then
  pub member : IsTrue (is_member members_then e.pid)
  pub later : Later permitted w state members_then (e ∷ after) s' members'

-- In a later run every caller is a member when it calls.
unfoldable pub CallersAreMembers : Type 0
CallersAreMembers = (permitted : CallKind → Bool) (w : World) (s : State) (members : List ℕ) (before : List Event) (e : Event) (after : List Event)
    (s' : State) (members' : List ℕ)
    → Later permitted w s members (before ++ e ∷ after) s' members' → MemberAt permitted w s members before e after s' members'

-- The child of a birth is a member from then on, and lives.
unfoldable pub ChildrenAreMembers : Type 0
ChildrenAreMembers = (w : World) (s : State) (e : Event) (s' : State) (members : List ℕ) (child : ℕ) → Step w s e s' → e.res ≡ Child child
    → IsTrue (is_member (members_after members e.pid e.call e.res) child) × IsTrue (is_alive s'.processes child)

-- What stays of a process that isn't a member: it lives, with its space, its credential and its filter, and is no
-- member.
pub record StaysOutside (pid : ℕ) (p : Process) (s' : State) (members' : List ℕ) : Type 0 where
  pub process : Process
  pub lives : process_at s'.processes pid ≡ Some process
  pub space : process.space ≡ p.space
  pub cred : process.cred ≡ p.cred
  pub filter : process.filter ≡ p.filter
  pub outside : is_member members' pid ≡ false

-- In a later run whoever isn't a member keeps its space, its credential and its filter, and doesn't become one. Its
-- forebear may change, by the exit of a member.
unfoldable pub OthersStay : Type 0
OthersStay = (permitted : CallKind → Bool) (w : World) (s : State) (members : List ℕ) (es : List Event) (s' : State) (members' : List ℕ) (pid : ℕ) (p : Process)
    → Later permitted w s members es s' members' → process_at s.processes pid ≡ Some p → is_member members pid ≡ false
    → StaysOutside pid p s' members'

-- a forebear, if there is one, is alive and no member
abbrev pub IsForebearOutside : State → List ℕ → Process → Type 0
IsForebearOutside s members p =
    (forebear : ℕ) → p.forebear ≡ Some forebear → IsTrue (is_alive s.processes forebear) × (is_member members forebear ≡ false)

-- Whoever isn't a member, and has no member as its forebear, stays as it is.
unfoldable pub OthersStayWhole : Type 0
OthersStayWhole = (permitted : CallKind → Bool) (w : World) (s : State) (members : List ℕ) (es : List Event) (s' : State) (members' : List ℕ) (pid : ℕ)
    (p : Process)
    → Later permitted w s members es s' members' → process_at s.processes pid ≡ Some p → is_member members pid ≡ false
    → IsForebearOutside s members p → process_at s'.processes pid ≡ Some p

-- In a later run of the family of a root, whoever isn't of the family stays as it is, forebear and all.
unfoldable pub StrangersStay : Type 0
StrangersStay = (permitted : CallKind → Bool) (w : World) (s : State) (es : List Event) (s' : State) (members' : List ℕ) (root pid : ℕ) (p : Process)
    → ChainsEnd s → Later permitted w s (family s root) es s' members' → process_at s.processes pid ≡ Some p → is_member (family s root) pid ≡ false
    → process_at s'.processes pid ≡ Some p

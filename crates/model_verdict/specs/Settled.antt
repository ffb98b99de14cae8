-- Settled families: those for which the list of plans reaches all that the least bounds allow.
use Rattle.std.specs.Prelude.{◌≡◌, ◌⊎◌, ℕ, ◌&&◌, ◌||◌, Bool, true, false, IsTrue, is_some, List, Some}
use Rattle.cm_base.specs.CapSet.{none}
use Rattle.cm_filter.specs.Filters.{permits}
use Rattle.cm_filter.specs.declared.kind.CallKind.{CallKind}
use Rattle.cm_filter.specs.declared.kind.CallKind.TheVariants as kind
use Rattle.model_cred.specs.Credential.{Credential}
use Rattle.model_cred.specs.Files.{FileTable}
use Rattle.model_cred.specs.Process.{Process, State, process_at}
use Rattle.model_cred.specs.Space.{Space, Spaces, is_at_or_above, space_of}
use Rattle.model_rules.specs.FileView.{view, has_bit, allows_set_id, takes_attribute}
use Rattle.model_rules.specs.Securebits.{has_flag, noroot}
use Rattle.model_rules.specs.Zero.{has_zero}
use Rattle.model_cred.specs.World.{World}
use Rattle.model_run.specs.Later.{is_member}
use Rattle.model_run.specs.Own.{common_filter}
use Rattle.model_box.specs.Files.{is_program}

-- so it is of each member that lives
abbrev pub EachMember : State → List ℕ → (Process → Type 0) → Type 0
EachMember s members P =
    (pid : ℕ) (p : Process) → IsTrue (is_member members pid) → process_at s.processes pid ≡ Some p → P p

-- The credential has no capability: four of its sets are empty. (The bounding set may be any.)
pub record HasNone (c : Credential) : Type 0 where
  pub permitted : c.permitted ≡ none
  pub effective : c.effective ≡ none
  pub inheritable : c.inheritable ≡ none
  pub ambient : c.ambient ≡ none

-- Both maps of the space are written.
pub record AreWritten (space : Space) : Type 0 where
  pub uids : IsTrue (is_some space.uids)
  pub gids : IsTrue (is_some space.gids)

-- A process without capabilities, in a space whose maps are written, as are those of the spaces above it.
pub record IsPlain (spaces : Spaces) (p : Process) : Type 0 where
  pub has_none : HasNone p.cred
  pub written : (n : ℕ) → IsTrue (is_at_or_above spaces n p.space) → AreWritten (space_of spaces n)

-- The filter excludes the calls that make a space or join one.
pub record ExcludesSpaces (permitted : CallKind → Bool) : Type 0 where
  pub unshare : permitted kind.Unshare ≡ false
  pub clone_user : permitted kind.CloneUser ≡ false
  pub join : permitted kind.SetNs ≡ false

-- The row serves whoever stands in the space: its attribute takes effect there, or its set-user-ID bit, or its
-- set-group-ID bit with the group execute bit.
abbrev pub serves : FileTable → Spaces → ℕ → ℕ → Bool
serves files spaces n row =
    takes_attribute spaces n (view files row)
    || (allows_set_id spaces n (view files row) && has_bit (view files row) 0o4000)
    || (allows_set_id spaces n (view files row) && has_bit (view files row) 0o2000 && has_bit (view files row) 0o010)

-- no row that is a program serves a member
abbrev pub NoneServes : FileTable → State → List ℕ → Type 0
NoneServes files s members =
    EachMember s members (λ p. (row : ℕ) → IsTrue (is_program files row) → serves files s.spaces p.space row ≡ false)

-- Root as root gains nothing by a program: no member has a real, effective or saved user id that is inside 0 of its
-- space; or all have SECBIT_NOROOT; or all have an empty bounding set.
abbrev pub RootGainsNone : State → List ℕ → Type 0
RootGainsNone s members =
    EachMember s members (λ p. has_zero (space_of s.spaces p.space) p.cred.uid ≡ false)
    ⊎ EachMember s members (λ p. has_flag p.cred noroot ≡ true)
    ⊎ EachMember s members (λ p. p.cred.bounding ≡ none)

-- Programs give nothing: every member has no_new_privs; or no program serves a member, and root gains nothing.
abbrev pub ProgramsGiveNone : FileTable → State → List ℕ → Type 0
ProgramsGiveNone files s members =
    EachMember s members (λ p. p.cred.no_new_privs ≡ true) ⊎ (NoneServes files s members × RootGainsNone s members)

-- All members have equal filters, as numbers; those below 2^27, all that texts and calls can make, are then equal sets.
abbrev pub EqualFilters : State → List ℕ → Type 0
EqualFilters s members = EachMember s members (λ p. EachMember s members (λ q. p.filter ≡ q.filter))

-- A settled family, of those calls that are permitted: its members are plain; it makes and joins no space; programs
-- give it nothing; and all members have equal filters.
pub record Settled (permitted : CallKind → Bool) (files : FileTable) (s : State) (members : List ℕ) : Type 0 where
  pub plain : EachMember s members (IsPlain s.spaces)
  pub excluded : ExcludesSpaces permitted
  pub programs : ProgramsGiveNone files s members
  pub same : EqualFilters s members

-- The family is settled in a world: of the calls that its common filter permits.
abbrev pub SettledIn : World → State → List ℕ → Type 0
SettledIn w s members = Settled (permits (common_filter w s members)) w.files s members

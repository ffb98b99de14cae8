-- Sentences of the manual pages that are easy to get wrong, each said a second time and apart from the function that the
-- rules have for it, and that the two agree.
use Rattle.std.specs.Prelude.{◌≡◌, ◌≢◌, ◌⊎◌, ◌↔◌, ℕ, IsTrue, false, Some, if◌then◌else◌}
use Rattle.cm_base.specs.CapSet.{full, none, union, meet}
use Rattle.cm_base.specs.declared.res.Res.TheVariants.{Done}
use Rattle.cm_base.specs.declared.res.FileRef.{FileRef}
use Rattle.model_cred.specs.Credential.{Credential, FourIds, Keeps}
use Rattle.model_cred.specs.Files.{FileCaps, FileTable}
use Rattle.model_cred.specs.Space.{Space, Spaces, space_of}
use Rattle.model_rules.specs.Exec.{FileSets, execve, uids_after, own_sets, sets_for, attribute_counts, run_file}
use Rattle.model_rules.specs.FileView.{FileView}
use Rattle.model_rules.specs.Securebits.{has_flag, noroot}
use Rattle.model_rules.specs.SetId.{minus_one, setreuid, setregid}
use Rattle.model_rules.specs.Zero.{zero_of}

-- The real id is set, or the effective one is set to another than the real one was (setreuid(2), "DESCRIPTION").
abbrev pub SetsSaved : FourIds → FourIds → ℕ → ℕ → Type 0
SetsSaved old new r e = (r ≢ minus_one) ⊎ ((e ≢ minus_one) × (new.effective ≢ old.real))

-- Then the saved id becomes the new effective one, and else it stays.
pub record SavedId (old new : FourIds) (r e : ℕ) : Type 0 where
  pub becomes : SetsSaved old new r e → new.saved ≡ new.effective
  pub stays : ¬ (SetsSaved old new r e) → new.saved ≡ old.saved

-- So it is of user ids after setreuid(2), where that isn't refused.
unfoldable pub SavedAfterSetReUid : Type 0
SavedAfterSetReUid = (s : Space) (c : Credential) (r e : ℕ) → (setreuid s c r e).res ≡ Done
    → SavedId c.uid (setreuid s c r e).cred.uid r e

-- So it is of group ids after setregid(2).
unfoldable pub SavedAfterSetReGid : Type 0
SavedAfterSetReGid = (s : Space) (c : Credential) (r e : ℕ) → (setregid s c r e).res ≡ Done
    → SavedId c.gid (setregid s c r e).cred.gid r e

-- the user id is root's in the space: the space's map takes its 0 to it
abbrev pub IsRoot : Spaces → ℕ → ℕ → Type 0
IsRoot spaces at id = zero_of (space_of spaces at) ≡ Some id

-- The file has capabilities attached that count, the real user id after the change of ids isn't root's, and the effective
-- one is (capabilities(7), "Set-user-ID-root programs that have file capabilities").
abbrev pub IsExcepted : Spaces → ℕ → Credential → FileView → Type 0
IsExcepted spaces at c f =
    IsTrue (attribute_counts spaces at c f) × ¬ (IsRoot spaces at (uids_after spaces at c f).real) × IsRoot spaces at (uids_after spaces at c f).effective

-- The sets of a file that count at execve (capabilities(7), "Capabilities and execution of programs by root", and the
-- exception after it). Without SECBIT_NOROOT and that exception: where the real or the effective user id is root's, the
-- file's permitted and inheritable sets are all capabilities; the effective bit is set where the effective user id is
-- root's or the file's own bit is; where neither id is root's the file's own sets count. By the exception, and under
-- SECBIT_NOROOT, the file's own sets count.
pub record RootRule (spaces : Spaces) (at : ℕ) (c : Credential) (f : FileView) (sets : FileSets) : Type 0 where
  pub all_permitted : has_flag c noroot ≡ false → ¬ (IsExcepted spaces at c f)
      → IsRoot spaces at (uids_after spaces at c f).real ⊎ IsRoot spaces at (uids_after spaces at c f).effective → sets.permitted ≡ full
  pub all_inheritable : has_flag c noroot ≡ false → ¬ (IsExcepted spaces at c f)
      → IsRoot spaces at (uids_after spaces at c f).real ⊎ IsRoot spaces at (uids_after spaces at c f).effective → sets.inheritable ≡ full
  pub effective_bit : has_flag c noroot ≡ false → ¬ (IsExcepted spaces at c f)
      → IsTrue sets.effective ↔ (IsRoot spaces at (uids_after spaces at c f).effective ⊎ IsTrue (own_sets spaces at c f).effective)
  pub others : ¬ (IsRoot spaces at (uids_after spaces at c f).real) → ¬ (IsRoot spaces at (uids_after spaces at c f).effective)
      → sets ≡ own_sets spaces at c f
  pub excepted : IsExcepted spaces at c f → sets ≡ own_sets spaces at c f
  pub under_noroot : IsTrue (has_flag c noroot) → sets ≡ own_sets spaces at c f

-- The sets that the rules take are those.
unfoldable pub RootSets : Type 0
RootSets = (spaces : Spaces) (at : ℕ) (c : Credential) (f : FileView) → RootRule spaces at c f (sets_for spaces at c f)

-- A program that root runs, or a set-user-ID-root program without capabilities attached, has then the old inheritable and
-- bounding sets as its permitted set, and all of that is effective (capabilities(7), "Capabilities and execution of
-- programs by root": the simplified formulas; without no_new_privs).
unfoldable pub RootGainsAll : Type 0
RootGainsAll = (files : FileTable) (spaces : Spaces) (at : ℕ) (c : Credential) (file : FileRef) → Keeps c
    → (execve files spaces at c file).res ≡ Done
    → c.no_new_privs ≡ false → has_flag c noroot ≡ false
    → IsRoot spaces at (execve files spaces at c file).cred.uid.effective
    → IsRoot spaces at (execve files spaces at c file).cred.uid.real ⊎ (attribute_counts spaces at c (run_file files file) ≡ false)
    → ((execve files spaces at c file).cred.permitted ≡ union c.inheritable c.bounding)
    × ((execve files spaces at c file).cred.effective ≡ (execve files spaces at c file).cred.permitted)

-- A set-user-ID-root program that has capabilities attached, run by another than root, gets what these give alone
-- (capabilities(7), "Set-user-ID-root programs that have file capabilities"; without no_new_privs).
unfoldable pub ExceptionGainsOwn : Type 0
ExceptionGainsOwn = (files : FileTable) (spaces : Spaces) (at : ℕ) (c : Credential) (file : FileRef) (a : FileCaps)
    → (execve files spaces at c file).res ≡ Done
    → c.no_new_privs ≡ false
    → IsExcepted spaces at c (run_file files file) → (run_file files file).caps ≡ Some a
    → ((execve files spaces at c file).cred.permitted ≡ union (meet c.inheritable a.inheritable) (meet a.permitted c.bounding))
    × ((execve files spaces at c file).cred.effective ≡ (if a.effective then (execve files spaces at c file).cred.permitted else none))

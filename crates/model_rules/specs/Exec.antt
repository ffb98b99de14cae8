-- Running a program (execve(2), capabilities(7)).
use Rattle.std.specs.Prelude.{ℕ, ◌&&◌, ◌||◌, Bool, true, false, not, Option, None, Some, option_and_then, slice_get, unwrap_or, if◌then◌else◌}
use Rattle.std.specs.List.{list_any}
use Rattle.cm_base.specs.CapSet.{holds, is_within, union, meet, full, none}
use Rattle.cm_base.specs.declared.errno.Errno.TheVariants.{EPERM, EACCES}
use Rattle.cm_base.specs.declared.res.FileRef.{FileRef}
use Rattle.cm_base.specs.declared.res.FileRef.TheVariants.{Row, Plain}
use Rattle.model_cred.specs.Credential.{Credential, FourIds}
use Rattle.model_cred.specs.Files.{FileCaps, FileTable}
use Rattle.model_cred.specs.IdMap.{is_the}
use Rattle.model_cred.specs.Space.{Space, Spaces, space_of}
use Rattle.model_rules.specs.Answer.{Answer, done, refused}
use Rattle.model_rules.specs.CapCalls.{without_keep_caps}
use Rattle.model_rules.specs.Caps.{cap_dac_override}
use Rattle.model_rules.specs.FileView.{FileView, plain_view, view, has_bit, is_mapped_file, allows_set_id, takes_attribute}
use Rattle.model_rules.specs.Securebits.{has_flag, noroot}
use Rattle.model_rules.specs.Zero.{is_zero}

-- the optional group is the fs group id or a supplementary group
abbrev pub is_in_group : Credential → Option ℕ → Bool
is_in_group c group = is_the group c.gid.fs || list_any (is_the group) c.groups

-- The bit of the mode that counts for the caller: the owner's where its fs user id is the owner, else the group's where
-- it is in the group, else that of the others (path_resolution(7), "Permissions").
abbrev pub execute_bit : Credential → FileView → ℕ
execute_bit c file = if is_the file.owner c.uid.fs then 0o100 else if is_in_group c file.group then 0o010 else 0o001

-- CAP_DAC_OVERRIDE allows to run a file that has some execute bit, where owner and group are both mapped in the caller's
-- space (capabilities(7); user_namespaces(7), "Operation of file-related capabilities").
abbrev pub may_override : Space → Credential → FileView → Bool
may_override s c file = holds c.effective cap_dac_override && has_bit file 0o111 && is_mapped_file s file

-- the caller may run the file: its mount isn't noexec, and the mode or CAP_DAC_OVERRIDE allows it
abbrev pub may_run : Space → Credential → FileView → Bool
may_run s c file = not file.noexec && (has_bit file (execute_bit c file) || may_override s c file)

-- the row of a script's interpreter
abbrev pub interpreter_of : FileTable → ℕ → Option ℕ
interpreter_of files row = option_and_then (λ declared. declared.interpreter) (slice_get files.rows row)

-- The file that runs: for a script its interpreter, whose own set-id bits and attribute count (execve(2), "Interpreter
-- scripts"); for a file that isn't declared the plain one.
abbrev pub run_file : FileTable → FileRef → FileView
run_file files (Row row) = view files (unwrap_or (interpreter_of files row) row)
run_file files Plain = plain_view

-- the file that is named
abbrev pub named_file : FileTable → FileRef → FileView
named_file files (Row row) = view files row
named_file files Plain = plain_view

-- the caller may run what it names: the file, and for a script its interpreter too
abbrev pub may_exec : Space → Credential → FileTable → FileRef → Bool
may_exec s c files name = may_run s c (named_file files name) && may_run s c (run_file files name)

-- The set-user-ID bit counts, for a caller without no_new_privs in the space `at`.
abbrev pub setuid_counts : Spaces → ℕ → Credential → FileView → Bool
setuid_counts spaces at c file = not c.no_new_privs && allows_set_id spaces at file && has_bit file 0o4000

-- The set-group-ID bit counts alike, with the group execute bit alone (choice).
abbrev pub setgid_counts : Spaces → ℕ → Credential → FileView → Bool
setgid_counts spaces at c file = not c.no_new_privs && allows_set_id spaces at file && has_bit file 0o2000 && has_bit file 0o010

-- the attribute takes effect, for a caller without no_new_privs in the space `at`
abbrev pub attribute_counts : Spaces → ℕ → Credential → FileView → Bool
attribute_counts spaces at c file = not c.no_new_privs && takes_attribute spaces at file

-- The file is privileged: its attribute takes effect, or a set-id bit counts (capabilities(7), "Transformation of
-- capabilities during execve()"; that bits which don't count don't matter is a choice).
abbrev pub is_privileged : Spaces → ℕ → Credential → FileView → Bool
is_privileged spaces at c file = attribute_counts spaces at c file || setuid_counts spaces at c file || setgid_counts spaces at c file

-- four ids after execve: the real one stays, and the effective one is also the saved and the fs one
abbrev pub with_effective : FourIds → ℕ → FourIds
with_effective old id = record { real = old.real; effective = id; saved = id; fs = id }

-- The user ids after execve: the effective one becomes the file's owner where the set-user-ID bit counts.
abbrev pub uids_after : Spaces → ℕ → Credential → FileView → FourIds
uids_after spaces at c file =
    with_effective c.uid (if setuid_counts spaces at c file then unwrap_or file.owner c.uid.effective else c.uid.effective)

-- The group ids after execve: the effective one becomes the file's group where the set-group-ID bit counts.
abbrev pub gids_after : Spaces → ℕ → Credential → FileView → FourIds
gids_after spaces at c file =
    with_effective c.gid (if setgid_counts spaces at c file then unwrap_or file.group c.gid.effective else c.gid.effective)

-- The file's sets, and its effective bit (capabilities(7), "File capabilities").
pub record FileSets : Type 0 where
  pub permitted : ℕ
  pub inheritable : ℕ
  pub effective : Bool

-- no sets
abbrev pub no_sets : FileSets
no_sets = record { permitted = none; inheritable = none; effective = false }

-- those of an optional attribute
abbrev pub attribute_sets : Option FileCaps → FileSets
attribute_sets None = no_sets
attribute_sets (Some a) = record { permitted = a.permitted; inheritable = a.inheritable; effective = a.effective }

-- the file's own sets: those of its attribute where that takes effect, else none
abbrev pub own_sets : Spaces → ℕ → Credential → FileView → FileSets
own_sets spaces at c file = if attribute_counts spaces at c file then attribute_sets file.caps else no_sets

-- The program would lack what its file permits: its effective bit is set, and its permitted set isn't within what the
-- caller gets of it (capabilities(7), "Safety checking for capability-dumb binaries"; that it is taken on the file's
-- own sets for every caller is a choice).
abbrev pub would_lack : Credential → FileSets → Bool
would_lack c sets = sets.effective && not (is_within sets.permitted (union (meet sets.permitted c.bounding) (meet sets.inheritable c.inheritable)))

-- The sets of a file that root runs, by the user ids after their change: all where the real or the effective one is
-- inside 0, the effective bit where the effective one is (capabilities(7), "Capabilities and execution of programs by
-- root").
abbrev pub raised_sets : Space → FourIds → FileSets → FileSets
raised_sets s ids sets =
    if is_zero s ids.effective then record { permitted = full; inheritable = full; effective = true }
    else if is_zero s ids.real then record sets { permitted = full; inheritable = full }
    else sets

-- The file's own sets count also for root: its attribute takes effect, the real user id isn't inside 0, and the
-- effective one is (capabilities(7), "Set-user-ID-root programs that have file capabilities").
abbrev pub is_excepted : Space → FourIds → Bool → Bool
is_excepted s ids attribute = attribute && not (is_zero s ids.real) && is_zero s ids.effective

-- the file's sets that count: its own under SECBIT_NOROOT or by that exception, else those that root gets
abbrev pub sets_for : Spaces → ℕ → Credential → FileView → FileSets
sets_for spaces at c file =
    if has_flag c noroot || is_excepted (space_of spaces at) (uids_after spaces at c file) (attribute_counts spaces at c file)
    then own_sets spaces at c file
    else raised_sets (space_of spaces at) (uids_after spaces at c file) (own_sets spaces at c file)

-- the ambient set after execve: none for a privileged file
abbrev pub ambient_after : Credential → Bool → ℕ
ambient_after c privileged = if privileged then none else c.ambient

-- The permitted set after execve; under no_new_privs no more than before (choice, after the promise of prctl(2)).
abbrev pub permitted_after : Credential → FileSets → ℕ → ℕ
permitted_after c sets ambient =
    let gained = union (union (meet c.inheritable sets.inheritable) (meet sets.permitted c.bounding)) ambient in
    if c.no_new_privs then meet gained c.permitted else gained

-- The three sets after execve (capabilities(7), "Transformation of capabilities during execve()"); the inheritable and
-- the bounding one stay.
abbrev pub with_sets : Credential → FileSets → ℕ → Credential
with_sets c sets ambient = record c {
  permitted = permitted_after c sets ambient;
  effective = if sets.effective then permitted_after c sets ambient else ambient;
  ambient = ambient;
}

-- The credential after execve: the sets, the ids, and SECBIT_KEEP_CAPS cleared. The groups, the other securebits and
-- no_new_privs stay.
abbrev pub cred_after : Spaces → ℕ → Credential → FileView → Credential
cred_after spaces at c file =
    record (without_keep_caps (with_sets c (sets_for spaces at c file) (ambient_after c (is_privileged spaces at c file)))) {
      uid = uids_after spaces at c file;
      gid = gids_after spaces at c file;
    }

-- execve(2): EACCES where the caller may not run the file, then EPERM where the program would lack capabilities
abbrev pub execve : FileTable → Spaces → ℕ → Credential → FileRef → Answer
execve files spaces at c name =
    if not (may_exec (space_of spaces at) c files name) then refused EACCES c
    else if would_lack c (own_sets spaces at c (run_file files name)) then refused EPERM c
    else done (cred_after spaces at c (run_file files name))

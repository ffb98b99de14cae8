-- Installing a filter (seccomp(2), SECCOMP_SET_MODE_FILTER).
use Rattle.std.specs.Prelude.{◌||◌, Bool, if◌then◌else◌}
use Rattle.cm_base.specs.CapSet.{holds}
use Rattle.cm_base.specs.declared.errno.Errno.TheVariants.{EACCES}
use Rattle.cm_base.specs.declared.res.Res.{Res}
use Rattle.cm_base.specs.declared.res.Res.TheVariants.{Done}
use Rattle.cm_filter.specs.Filters.{Filter, either, permitting}
use Rattle.cm_filter.specs.declared.kind.CallKind.TheVariants.{Exit}
use Rattle.model_cred.specs.Credential.{Credential}
use Rattle.model_rules.specs.Answer.{Answer, done, refused}
use Rattle.model_rules.specs.Caps.{cap_sys_admin}

-- the caller may install a filter: no_new_privs is set, or it has CAP_SYS_ADMIN
abbrev pub may_install : Credential → Bool
may_install c = c.no_new_privs || holds c.effective cap_sys_admin

-- EACCES where it may not; its credential stays
abbrev pub install : Credential → Answer
install c = if may_install c then done c else refused EACCES c

-- A filter with one that is installed: it excludes also what that one excludes, but exit (choice). No filter is ever
-- taken off.
abbrev pub with_installed : Filter → Filter → Filter
with_installed filter more = either filter (permitting more Exit)

-- the filter after an install with that result
abbrev pub installed : Res → Filter → Filter → Filter
installed Done filter more = with_installed filter more
installed _ filter more = filter

-- Errors that a call may answer for causes outside the machine (memory, signals, bad addresses, the disk), with
-- nothing changed (choice; the ERRORS sections of the calls' manual pages).
use Rattle.std.specs.Prelude.{Bool, true, false}
use Rattle.cm_base.specs.declared.errno.Errno.{Errno}
use Rattle.cm_base.specs.declared.errno.Errno.TheVariants.{EINVAL, ENOMEM, EAGAIN, EINTR, EFAULT, EIO, ENOENT, EACCES}
use Rattle.cm_base.specs.declared.errno.Errno.TheVariants.{ENOTDIR, ELOOP, ENAMETOOLONG, E2BIG, ENOEXEC, ETXTBSY}
use Rattle.cm_base.specs.declared.errno.Errno.TheVariants.{ELIBBAD}
use Rattle.cm_base.specs.declared.res.Res.{Res}
use Rattle.cm_base.specs.declared.res.Res.TheVariants.{Err}
use Rattle.cm_filter.specs.Shapes.{OutsideForm, NoErrors, Common, OfSpaces, OfExecve, outside_form}
use Rattle.model_cred.specs.Call.{Call, kind_of}

-- those of most calls
abbrev pub is_common : Errno → Bool
is_common ENOMEM = true
is_common EAGAIN = true
is_common EINTR = true
is_common EFAULT = true
is_common EIO = true
is_common _ = false

-- those of the calls that make or join a space too
abbrev pub is_of_spaces : Errno → Bool
is_of_spaces EINVAL = true
is_of_spaces e = is_common e

-- those of execve too
abbrev pub is_of_execve : Errno → Bool
is_of_execve ENOENT = true
is_of_execve EACCES = true
is_of_execve ENOTDIR = true
is_of_execve ELOOP = true
is_of_execve ENAMETOOLONG = true
is_of_execve E2BIG = true
is_of_execve ENOEXEC = true
is_of_execve ETXTBSY = true
is_of_execve ELIBBAD = true
is_of_execve e = is_common e

-- the errors of the form
abbrev pub is_of_form : OutsideForm → Errno → Bool
is_of_form NoErrors e = false
is_of_form Common e = is_common e
is_of_form OfSpaces e = is_of_spaces e
is_of_form OfExecve e = is_of_execve e

-- the call may answer this error from outside
abbrev pub is_outside_error : Call → Errno → Bool
is_outside_error call e = is_of_form (outside_form (kind_of call)) e

-- the result is an error from outside that the call may answer
abbrev pub comes_from_outside : Call → Res → Bool
comes_from_outside call (Err e) = is_outside_error call e
comes_from_outside call _ = false

-- The names of errors (errno(3)) and of capabilities (capabilities(7)), each one table.
use Rattle.std.specs.Prelude.{ℕ, codes, List, [], ◌∷◌, Option, bytes_eq, find, position, slice_get, unwrap_or}
use Rattle.cm_base.specs.declared.errno.Errno.{Errno}
use Rattle.cm_base.specs.declared.errno.Errno.TheVariants.{EPERM, EINVAL, ENOSPC, ENOMEM, EAGAIN, EINTR, EFAULT, EIO}
use Rattle.cm_base.specs.declared.errno.Errno.TheVariants.{ENOENT, EACCES, ENOTDIR, ELOOP, ENAMETOOLONG, E2BIG, ENOEXEC}
use Rattle.cm_base.specs.declared.errno.Errno.TheVariants.{ETXTBSY, ELIBBAD}

-- the name of an error
abbrev pub errno_name : Errno → List ℕ
errno_name EPERM = codes "EPERM"
errno_name EINVAL = codes "EINVAL"
errno_name ENOSPC = codes "ENOSPC"
errno_name ENOMEM = codes "ENOMEM"
errno_name EAGAIN = codes "EAGAIN"
errno_name EINTR = codes "EINTR"
errno_name EFAULT = codes "EFAULT"
errno_name EIO = codes "EIO"
errno_name ENOENT = codes "ENOENT"
errno_name EACCES = codes "EACCES"
errno_name ENOTDIR = codes "ENOTDIR"
errno_name ELOOP = codes "ELOOP"
errno_name ENAMETOOLONG = codes "ENAMETOOLONG"
errno_name E2BIG = codes "E2BIG"
errno_name ENOEXEC = codes "ENOEXEC"
errno_name ETXTBSY = codes "ETXTBSY"
errno_name ELIBBAD = codes "ELIBBAD"

-- the errors that a log may tell
abbrev pub errnos : List Errno
errnos =
    EPERM ∷ EINVAL ∷ ENOSPC ∷ ENOMEM ∷ EAGAIN ∷ EINTR ∷ EFAULT ∷ EIO ∷ ENOENT ∷ EACCES ∷ ENOTDIR ∷ ELOOP ∷ ENAMETOOLONG
    ∷ E2BIG ∷ ENOEXEC ∷ ETXTBSY ∷ ELIBBAD ∷ []

-- the error of that name
abbrev pub errno_of : List ℕ → Option Errno
errno_of name = find (λ e. bytes_eq (errno_name e) name) errnos

-- the names of the capabilities, in the order of their numbers
abbrev pub cap_names : List (List ℕ)
cap_names =
    codes "CAP_CHOWN" ∷ codes "CAP_DAC_OVERRIDE" ∷ codes "CAP_DAC_READ_SEARCH" ∷ codes "CAP_FOWNER"
    ∷ codes "CAP_FSETID" ∷ codes "CAP_KILL" ∷ codes "CAP_SETGID" ∷ codes "CAP_SETUID"
    ∷ codes "CAP_SETPCAP" ∷ codes "CAP_LINUX_IMMUTABLE" ∷ codes "CAP_NET_BIND_SERVICE" ∷ codes "CAP_NET_BROADCAST"
    ∷ codes "CAP_NET_ADMIN" ∷ codes "CAP_NET_RAW" ∷ codes "CAP_IPC_LOCK" ∷ codes "CAP_IPC_OWNER"
    ∷ codes "CAP_SYS_MODULE" ∷ codes "CAP_SYS_RAWIO" ∷ codes "CAP_SYS_CHROOT" ∷ codes "CAP_SYS_PTRACE"
    ∷ codes "CAP_SYS_PACCT" ∷ codes "CAP_SYS_ADMIN" ∷ codes "CAP_SYS_BOOT" ∷ codes "CAP_SYS_NICE"
    ∷ codes "CAP_SYS_RESOURCE" ∷ codes "CAP_SYS_TIME" ∷ codes "CAP_SYS_TTY_CONFIG" ∷ codes "CAP_MKNOD"
    ∷ codes "CAP_LEASE" ∷ codes "CAP_AUDIT_WRITE" ∷ codes "CAP_AUDIT_CONTROL" ∷ codes "CAP_SETFCAP"
    ∷ codes "CAP_MAC_OVERRIDE" ∷ codes "CAP_MAC_ADMIN" ∷ codes "CAP_SYSLOG" ∷ codes "CAP_WAKE_ALARM"
    ∷ codes "CAP_BLOCK_SUSPEND" ∷ codes "CAP_AUDIT_READ" ∷ codes "CAP_PERFMON" ∷ codes "CAP_BPF"
    ∷ codes "CAP_CHECKPOINT_RESTORE" ∷ []

-- the name of a capability
abbrev pub cap_name : ℕ → Option (List ℕ)
cap_name cap = slice_get cap_names cap

-- the name of a number, empty where it is no capability's
abbrev pub cap_name_or : ℕ → List ℕ
cap_name_or cap = unwrap_or (cap_name cap) []

-- the capability of that name
abbrev pub cap_of : List ℕ → Option ℕ
cap_of name = position (λ n. bytes_eq n name) cap_names

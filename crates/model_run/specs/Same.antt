-- Tests of equality that compute.
use Rattle.std.specs.Prelude.{ℕ, ◌==◌, Bool, true, false}
use Rattle.cm_base.specs.declared.errno.Errno.{Errno}
use Rattle.cm_base.specs.declared.errno.Errno.TheVariants.{EPERM, EINVAL, ENOSPC, ENOMEM, EAGAIN, EINTR, EFAULT, EIO}
use Rattle.cm_base.specs.declared.errno.Errno.TheVariants.{ENOENT, EACCES, ENOTDIR, ELOOP, ENAMETOOLONG, E2BIG, ENOEXEC}
use Rattle.cm_base.specs.declared.errno.Errno.TheVariants.{ETXTBSY, ELIBBAD}
use Rattle.cm_base.specs.declared.res.Res.{Res}
use Rattle.cm_base.specs.declared.res.Res.TheVariants.{Done, Id, Child, Err}

-- a number for each error, in the order of their names
abbrev pub errno_number : Errno → ℕ
errno_number EPERM = 0
errno_number EINVAL = 1
errno_number ENOSPC = 2
errno_number ENOMEM = 3
errno_number EAGAIN = 4
errno_number EINTR = 5
errno_number EFAULT = 6
errno_number EIO = 7
errno_number ENOENT = 8
errno_number EACCES = 9
errno_number ENOTDIR = 10
errno_number ELOOP = 11
errno_number ENAMETOOLONG = 12
errno_number E2BIG = 13
errno_number ENOEXEC = 14
errno_number ETXTBSY = 15
errno_number ELIBBAD = 16

-- the two errors are one
abbrev pub same_errno : Errno → Errno → Bool
same_errno a b = errno_number a == errno_number b

-- the two results are one
abbrev pub same_res : Res → Res → Bool
same_res Done Done = true
same_res (Id a) (Id b) = a == b
same_res (Child p) (Child q) = p == q
same_res (Err a) (Err b) = same_errno a b
same_res Done (Id b) = false
same_res Done (Child q) = false
same_res Done (Err b) = false
same_res (Id a) Done = false
same_res (Id a) (Child q) = false
same_res (Id a) (Err b) = false
same_res (Child p) Done = false
same_res (Child p) (Id b) = false
same_res (Child p) (Err b) = false
same_res (Err a) Done = false
same_res (Err a) (Id b) = false
same_res (Err a) (Child q) = false

-- The kinds of calls: their names in script lines (choice; the names are those of the manual pages where there are any),
-- and their order.
use Rattle.std.specs.Prelude.{ℕ, codes, bytes_eq, find, length, position, unwrap_or, Bool, List, [], ◌∷◌, Option}
use Rattle.cm_filter.specs.declared.kind.CallKind.{CallKind}
use Rattle.cm_filter.specs.declared.kind.CallKind.TheVariants as kind

-- the name of a call of the kind
abbrev pub call_name : CallKind → List ℕ
call_name kind.SetUid = codes "setuid"
call_name kind.SetReUid = codes "setreuid"
call_name kind.SetResUid = codes "setresuid"
call_name kind.SetFsUid = codes "setfsuid"
call_name kind.SetGid = codes "setgid"
call_name kind.SetReGid = codes "setregid"
call_name kind.SetResGid = codes "setresgid"
call_name kind.SetFsGid = codes "setfsgid"
call_name kind.SetGroups = codes "setgroups"
call_name kind.CapSet = codes "capset"
call_name kind.BsetDrop = codes "bset_drop"
call_name kind.AmbRaise = codes "amb_raise"
call_name kind.AmbLower = codes "amb_lower"
call_name kind.AmbClear = codes "amb_clear"
call_name kind.SecureBits = codes "securebits"
call_name kind.KeepCaps = codes "keepcaps"
call_name kind.NoNewPrivs = codes "no_new_privs"
call_name kind.Fork = codes "fork"
call_name kind.CloneUser = codes "clone_user"
call_name kind.Unshare = codes "unshare"
call_name kind.SetNs = codes "setns"
call_name kind.WriteUidMap = codes "write_uid_map"
call_name kind.WriteGidMap = codes "write_gid_map"
call_name kind.WriteSetgroups = codes "write_setgroups"
call_name kind.Exec = codes "execve"
call_name kind.Exit = codes "exit"
call_name kind.Install = codes "install"

-- the kinds of calls, in their order
abbrev pub call_kinds : List CallKind
call_kinds = kind.SetUid ∷ kind.SetReUid ∷ kind.SetResUid ∷ kind.SetFsUid
    ∷ kind.SetGid ∷ kind.SetReGid ∷ kind.SetResGid ∷ kind.SetFsGid ∷ kind.SetGroups
    ∷ kind.CapSet ∷ kind.BsetDrop ∷ kind.AmbRaise ∷ kind.AmbLower ∷ kind.AmbClear
    ∷ kind.SecureBits ∷ kind.KeepCaps ∷ kind.NoNewPrivs
    ∷ kind.Fork ∷ kind.CloneUser ∷ kind.Unshare ∷ kind.SetNs
    ∷ kind.WriteUidMap ∷ kind.WriteGidMap ∷ kind.WriteSetgroups ∷ kind.Exec ∷ kind.Exit ∷ kind.Install ∷ []

-- how many kinds there are
abbrev pub kind_count : ℕ
kind_count = 27

-- the call of the kind has that name
abbrev pub has_name : List ℕ → CallKind → Bool
has_name name kind = bytes_eq (call_name kind) name

-- the kind of the call of that name
abbrev pub kind_named : List ℕ → Option CallKind
kind_named name = find (has_name name) call_kinds

-- the number of a kind: its place among the kinds, found by its name, from 0 on
abbrev pub kind_number : CallKind → ℕ
kind_number kind = unwrap_or (position (has_name (call_name kind)) call_kinds) (length call_kinds)

-- The calls of the machine, and events: what a log tells of a call.
use Rattle.std.specs.Prelude.{ℕ, Bool, List}
use Rattle.cm_base.specs.declared.res.Res.{Res}
use Rattle.cm_base.specs.declared.res.FileRef.{FileRef}
use Rattle.cm_filter.specs.Filters.{Filter}
use Rattle.cm_filter.specs.declared.kind.CallKind.{CallKind}
use Rattle.cm_filter.specs.declared.kind.CallKind.TheVariants as kind
use Rattle.cm_filter.specs.Shapes.{pattern_of}
use Rattle.model_cred.specs.Carried.{Carries}
use Rattle.model_cred.specs.IdMap.{Extent}

-- A call: its kind, and what a call of the kind carries.
abbrev pub Call : Type 0
Call = (k : CallKind) × Carries (pattern_of k)

-- the kind of a call
abbrev pub kind_of : Call → CallKind
kind_of call = call.0

-- The 27 calls with their arguments, ids as the caller's space sees them, or -1. capset has effective,
-- permitted and inheritable, in this order. A space is given by its number. The outside ids of a map that is written are
-- those of the target's parent. The word of WriteSetgroups is "deny" where it is true, else "allow". Install has
-- the filter that is installed.
pattern abbrev pub SetUid : ℕ → Call
SetUid id = (kind.SetUid, (id, tt))

pattern abbrev pub SetReUid : ℕ → ℕ → Call
SetReUid r e = (kind.SetReUid, (r, (e, tt)))

pattern abbrev pub SetResUid : ℕ → ℕ → ℕ → Call
SetResUid r e s = (kind.SetResUid, (r, (e, (s, tt))))

pattern abbrev pub SetFsUid : ℕ → Call
SetFsUid id = (kind.SetFsUid, (id, tt))

pattern abbrev pub SetGid : ℕ → Call
SetGid id = (kind.SetGid, (id, tt))

pattern abbrev pub SetReGid : ℕ → ℕ → Call
SetReGid r e = (kind.SetReGid, (r, (e, tt)))

pattern abbrev pub SetResGid : ℕ → ℕ → ℕ → Call
SetResGid r e s = (kind.SetResGid, (r, (e, (s, tt))))

pattern abbrev pub SetFsGid : ℕ → Call
SetFsGid id = (kind.SetFsGid, (id, tt))

pattern abbrev pub SetGroups : List ℕ → Call
SetGroups ids = (kind.SetGroups, ids)

pattern abbrev pub CapSet : ℕ → ℕ → ℕ → Call
CapSet eff prm inh = (kind.CapSet, (eff, (prm, (inh, tt))))

pattern abbrev pub BsetDrop : ℕ → Call
BsetDrop cap = (kind.BsetDrop, (cap, tt))

pattern abbrev pub AmbRaise : ℕ → Call
AmbRaise cap = (kind.AmbRaise, (cap, tt))

pattern abbrev pub AmbLower : ℕ → Call
AmbLower cap = (kind.AmbLower, (cap, tt))

pattern abbrev pub AmbClear : Call
AmbClear = (kind.AmbClear, tt)

pattern abbrev pub SecureBits : ℕ → Call
SecureBits bits = (kind.SecureBits, (bits, tt))

pattern abbrev pub KeepCaps : ℕ → Call
KeepCaps argument = (kind.KeepCaps, (argument, tt))

pattern abbrev pub NoNewPrivs : ℕ → Call
NoNewPrivs argument = (kind.NoNewPrivs, (argument, tt))

pattern abbrev pub Fork : Call
Fork = (kind.Fork, tt)

pattern abbrev pub CloneUser : Call
CloneUser = (kind.CloneUser, tt)

pattern abbrev pub Unshare : Call
Unshare = (kind.Unshare, tt)

pattern abbrev pub SetNs : ℕ → Call
SetNs target = (kind.SetNs, (target, tt))

pattern abbrev pub WriteUidMap : ℕ → List Extent → Call
WriteUidMap target list = (kind.WriteUidMap, (target, list))

pattern abbrev pub WriteGidMap : ℕ → List Extent → Call
WriteGidMap target list = (kind.WriteGidMap, (target, list))

pattern abbrev pub WriteSetgroups : ℕ → Bool → Call
WriteSetgroups target deny = (kind.WriteSetgroups, (target, (deny, tt)))

pattern abbrev pub Exec : FileRef → Call
Exec file = (kind.Exec, (file, tt))

pattern abbrev pub Exit : Call
Exit = (kind.Exit, tt)

pattern abbrev pub Install : Filter → Call
Install filter = (kind.Install, filter)

-- One completed call of one process, with its result.
pub record Event : Type 0 where
  pub pid : ℕ
  pub call : Call
  pub res : Res

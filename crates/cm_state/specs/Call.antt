-- The code's calls as those of the definitions.
use Rattle.cm_state.specs.declared.call.Call.{Call}
use Rattle.cm_state.specs.declared.call.Call.TheVariants as code
use Rattle.model_cred.specs.Call as model

-- the call of the definitions
abbrev pub call_of : Call → model.Call
call_of (code.SetUid id) = model.SetUid id
call_of (code.SetReUid r e) = model.SetReUid r e
call_of (code.SetResUid r e s) = model.SetResUid r e s
call_of (code.SetFsUid id) = model.SetFsUid id
call_of (code.SetGid id) = model.SetGid id
call_of (code.SetReGid r e) = model.SetReGid r e
call_of (code.SetResGid r e s) = model.SetResGid r e s
call_of (code.SetFsGid id) = model.SetFsGid id
call_of (code.SetGroups ids) = model.SetGroups ids
call_of (code.CapSet eff prm inh) = model.CapSet eff prm inh
call_of (code.BsetDrop cap) = model.BsetDrop cap
call_of (code.AmbRaise cap) = model.AmbRaise cap
call_of (code.AmbLower cap) = model.AmbLower cap
call_of code.AmbClear = model.AmbClear
call_of (code.SecureBits bits) = model.SecureBits bits
call_of (code.KeepCaps argument) = model.KeepCaps argument
call_of (code.NoNewPrivs argument) = model.NoNewPrivs argument
call_of code.Fork = model.Fork
call_of code.CloneUser = model.CloneUser
call_of code.Unshare = model.Unshare
call_of (code.SetNs space) = model.SetNs space.0
call_of (code.WriteUidMap space given) = model.WriteUidMap space.0 given
call_of (code.WriteGidMap space given) = model.WriteGidMap space.0 given
call_of (code.WriteSetgroups space deny) = model.WriteSetgroups space.0 deny
call_of (code.Exec file) = model.Exec file
call_of code.Exit = model.Exit
call_of (code.Install more) = model.Install more

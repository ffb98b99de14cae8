use Rattle.std.proofs.Common.{◌≡◌, rules, false, subst}
use Rattle.cm_machine.proofs.ruling.ask_caller.Goals as goal
use Rattle.cm_machine.proofs.ruling.ask_caller.Goals.{in-SetUid, in-SetReUid, in-SetResUid, in-SetFsUid, in-SetGid, in-SetReGid, in-SetResGid, in-SetFsGid, in-CapSet}
use Rattle.cm_machine.proofs.ruling.ask_caller.Goals.{in-BsetDrop, in-AmbRaise, in-AmbLower, in-AmbClear, in-SecureBits, in-KeepCaps, in-NoNewPrivs, in-Exec}
use Rattle.cm_state.specs.Call.{call_of}
use Rattle.cm_state.specs.declared.call.Call.{Call}
use Rattle.model_run.specs.Step.{names_no_space}

pub returns-in-SetGroups-clause-res : goal.returns-in-SetGroups-clause-res
returns-in-SetGroups-clause-res c = λ processes. rw c.in-SetGroups.is (search rules)

pub returns-in-SetGroups-clause-cred : goal.returns-in-SetGroups-clause-cred
returns-in-SetGroups-clause-cred c = rw c.in-SetGroups.is (search rules)

pub may_join-may-requires : goal.may_join-may-requires
may_join-may-requires c =
    let there = subst (λ (call : Call). names_no_space c.args.spaces.now (call_of call) ≡ false) c.in-SetNs.is c.requires.stands in
    search rules

pub returns-in-SetNs-clause-res : goal.returns-in-SetNs-clause-res
returns-in-SetNs-clause-res c = λ processes. rw c.in-SetNs.is (search rules)

pub returns-in-SetNs-clause-change : goal.returns-in-SetNs-clause-change
returns-in-SetNs-clause-change c = rw c.in-SetNs.is (search rules)

pub ask_map-requires : goal.ask_map-requires
ask_map-requires c =
    let there = subst (λ (call : Call). names_no_space c.args.spaces.now (call_of call) ≡ false) c.in-WriteUidMap.is c.requires.stands in
    search rules

pub returns-in-WriteUidMap-clause-res : goal.returns-in-WriteUidMap-clause-res
returns-in-WriteUidMap-clause-res c = λ processes. rw c.in-WriteUidMap.is (search rules)

pub returns-in-WriteUidMap-clause-change : goal.returns-in-WriteUidMap-clause-change
returns-in-WriteUidMap-clause-change c = rw c.in-WriteUidMap.is (search rules)

pub ask_map-requires-in-WriteGidMap : goal.ask_map-requires-in-WriteGidMap
ask_map-requires-in-WriteGidMap c =
    let there = subst (λ (call : Call). names_no_space c.args.spaces.now (call_of call) ≡ false) c.in-WriteGidMap.is c.requires.stands in
    search rules

pub returns-in-WriteGidMap-clause-res : goal.returns-in-WriteGidMap-clause-res
returns-in-WriteGidMap-clause-res c = λ processes. rw c.in-WriteGidMap.is (search rules)

pub returns-in-WriteGidMap-clause-change : goal.returns-in-WriteGidMap-clause-change
returns-in-WriteGidMap-clause-change c = rw c.in-WriteGidMap.is (search rules)

pub may_write_word-may-requires : goal.may_write_word-may-requires
may_write_word-may-requires c =
    let there = subst (λ (call : Call). names_no_space c.args.spaces.now (call_of call) ≡ false) c.in-WriteSetgroups.is c.requires.stands in
    search rules

pub returns-in-WriteSetgroups-clause-res : goal.returns-in-WriteSetgroups-clause-res
returns-in-WriteSetgroups-clause-res c = λ processes. rw c.in-WriteSetgroups.is (search rules)

pub returns-in-WriteSetgroups-clause-change : goal.returns-in-WriteSetgroups-clause-change
returns-in-WriteSetgroups-clause-change c = rw c.in-WriteSetgroups.is (search rules)

pub returns-in-Install-clause-res : goal.returns-in-Install-clause-res
returns-in-Install-clause-res c = λ processes. rw c.in-Install.is (search rules)

pub returns-in-Install-clause-change : goal.returns-in-Install-clause-change
returns-in-Install-clause-change c = rw c.in-Install.is (search rules)

pub returns-clause-res : goal.returns-clause-res
returns-clause-res c = λ processes. elim c.match-call.branch [
  | in-SetUid w ↦ rw w.in-SetUid.is (search rules)
  | in-SetReUid w ↦ rw w.in-SetReUid.is (search rules)
  | in-SetResUid w ↦ rw w.in-SetResUid.is (search rules)
  | in-SetFsUid w ↦ rw w.in-SetFsUid.is (search rules)
  | in-SetGid w ↦ rw w.in-SetGid.is (search rules)
  | in-SetReGid w ↦ rw w.in-SetReGid.is (search rules)
  | in-SetResGid w ↦ rw w.in-SetResGid.is (search rules)
  | in-SetFsGid w ↦ rw w.in-SetFsGid.is (search rules)
  | in-CapSet w ↦ rw w.in-CapSet.is (search rules)
  | in-BsetDrop w ↦ rw w.in-BsetDrop.is (search rules)
  | in-AmbRaise w ↦ rw w.in-AmbRaise.is (search rules)
  | in-AmbLower w ↦ rw w.in-AmbLower.is (search rules)
  | in-AmbClear w ↦ rw w.in-AmbClear.is (search rules)
  | in-SecureBits w ↦ rw w.in-SecureBits.is (search rules)
  | in-KeepCaps w ↦ rw w.in-KeepCaps.is (search rules)
  | in-NoNewPrivs w ↦ rw w.in-NoNewPrivs.is (search rules)
  | in-Exec w ↦ rw w.in-Exec.is (search rules)
]

pub returns-clause-cred : goal.returns-clause-cred
returns-clause-cred c = elim c.match-call.branch [
  | in-SetUid w ↦ rw w.in-SetUid.is (search rules)
  | in-SetReUid w ↦ rw w.in-SetReUid.is (search rules)
  | in-SetResUid w ↦ rw w.in-SetResUid.is (search rules)
  | in-SetFsUid w ↦ rw w.in-SetFsUid.is (search rules)
  | in-SetGid w ↦ rw w.in-SetGid.is (search rules)
  | in-SetReGid w ↦ rw w.in-SetReGid.is (search rules)
  | in-SetResGid w ↦ rw w.in-SetResGid.is (search rules)
  | in-SetFsGid w ↦ rw w.in-SetFsGid.is (search rules)
  | in-CapSet w ↦ rw w.in-CapSet.is (search rules)
  | in-BsetDrop w ↦ rw w.in-BsetDrop.is (search rules)
  | in-AmbRaise w ↦ rw w.in-AmbRaise.is (search rules)
  | in-AmbLower w ↦ rw w.in-AmbLower.is (search rules)
  | in-AmbClear w ↦ rw w.in-AmbClear.is (search rules)
  | in-SecureBits w ↦ rw w.in-SecureBits.is (search rules)
  | in-KeepCaps w ↦ rw w.in-KeepCaps.is (search rules)
  | in-NoNewPrivs w ↦ rw w.in-NoNewPrivs.is (search rules)
  | in-Exec w ↦ rw w.in-Exec.is (search rules)
]

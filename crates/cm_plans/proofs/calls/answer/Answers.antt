use Rattle.std.proofs.Common.{rules, subst}
use Rattle.cm_plans.proofs.calls.answer.Goals as goal
use Rattle.cm_plans.specs.Moves.{IsOfWalk}
use Rattle.cm_state.specs.Call.{call_of}
use Rattle.cm_state.specs.declared.call.Call.{Call}

pub join-requires-clause-target : goal.join-requires-clause-target
join-requires-clause-target c =
    subst (λ (call : Call). IsOfWalk c.args.q.now.spaces.now (call_of call)) c.in-SetNs.is c.requires.walks

pub returns-in-SetUid-clause-res : goal.returns-in-SetUid-clause-res
returns-in-SetUid-clause-res c = rw c.in-SetUid.is (search rules)

pub returns-in-SetUid-clause-seat : goal.returns-in-SetUid-clause-seat
returns-in-SetUid-clause-seat c = rw c.in-SetUid.is (search rules)

pub returns-in-SetReUid-clause-res : goal.returns-in-SetReUid-clause-res
returns-in-SetReUid-clause-res c = rw c.in-SetReUid.is (search rules)

pub returns-in-SetReUid-clause-seat : goal.returns-in-SetReUid-clause-seat
returns-in-SetReUid-clause-seat c = rw c.in-SetReUid.is (search rules)

pub returns-in-SetResUid-clause-res : goal.returns-in-SetResUid-clause-res
returns-in-SetResUid-clause-res c = rw c.in-SetResUid.is (search rules)

pub returns-in-SetResUid-clause-seat : goal.returns-in-SetResUid-clause-seat
returns-in-SetResUid-clause-seat c = rw c.in-SetResUid.is (search rules)

pub returns-in-SetGid-clause-res : goal.returns-in-SetGid-clause-res
returns-in-SetGid-clause-res c = rw c.in-SetGid.is (search rules)

pub returns-in-SetGid-clause-seat : goal.returns-in-SetGid-clause-seat
returns-in-SetGid-clause-seat c = rw c.in-SetGid.is (search rules)

pub returns-in-SetReGid-clause-res : goal.returns-in-SetReGid-clause-res
returns-in-SetReGid-clause-res c = rw c.in-SetReGid.is (search rules)

pub returns-in-SetReGid-clause-seat : goal.returns-in-SetReGid-clause-seat
returns-in-SetReGid-clause-seat c = rw c.in-SetReGid.is (search rules)

pub returns-in-SetResGid-clause-res : goal.returns-in-SetResGid-clause-res
returns-in-SetResGid-clause-res c = rw c.in-SetResGid.is (search rules)

pub returns-in-SetResGid-clause-seat : goal.returns-in-SetResGid-clause-seat
returns-in-SetResGid-clause-seat c = rw c.in-SetResGid.is (search rules)

pub returns-in-CapSet-clause-res : goal.returns-in-CapSet-clause-res
returns-in-CapSet-clause-res c = rw c.in-CapSet.is (search rules)

pub returns-in-CapSet-clause-seat : goal.returns-in-CapSet-clause-seat
returns-in-CapSet-clause-seat c = rw c.in-CapSet.is (search rules)

pub returns-in-Exec-clause-res : goal.returns-in-Exec-clause-res
returns-in-Exec-clause-res c = rw c.in-Exec.is (search rules)

pub returns-in-Exec-clause-seat : goal.returns-in-Exec-clause-seat
returns-in-Exec-clause-seat c = rw c.in-Exec.is (search rules)

pub returns-in-SetNs-clause-res : goal.returns-in-SetNs-clause-res
returns-in-SetNs-clause-res c = rw c.in-SetNs.is (search rules)

pub returns-in-SetNs-clause-seat : goal.returns-in-SetNs-clause-seat
returns-in-SetNs-clause-seat c = rw c.in-SetNs.is (search rules)

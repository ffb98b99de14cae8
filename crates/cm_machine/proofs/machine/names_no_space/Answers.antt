use Rattle.std.proofs.Common.{rules, inl, inr}
use Rattle.cm_machine.proofs.machine.names_no_space.Goals as goal

pub returns-in-SetNs : goal.returns-in-SetNs
returns-in-SetNs c = elim c.in-SetNs.is [
  | inl is ↦ rw is (search rules)
  | inr (inl is) ↦ rw is.1 (search rules)
  | inr (inr is) ↦ rw is.1 (search rules)
]

pub returns-in-WriteSetgroups : goal.returns-in-WriteSetgroups
returns-in-WriteSetgroups c = rw c.in-WriteSetgroups.is (search rules)

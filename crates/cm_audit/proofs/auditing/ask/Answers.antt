use Rattle.std.proofs.Common.{◌≡◌, ◌<◌, List, ℕ, length, slice_get, ap, subst, sym, arith}
use Rattle.cm_audit.proofs.Clauses as clauses
use Rattle.cm_audit.proofs.auditing.ask.Goals as goal
use Rattle.model_cred.specs.Process.{Process, State, process_at}
use Rattle.model_plans.proofs.Holders.{family_ascends}
use Rattle.model_plans.specs.Firsts.{FamilyAscends, PidsAscend}

pub returns-clause-ascends : goal.returns-clause-ascends
unfolding FamilyAscends
returns-clause-ascends c =
    subst (λ (ms : List ℕ). PidsAscend ms) (sym c.in_ok-members.ensures)
    (family_ascends c.args.m.now.state c.args.root c.see_state.ensures.ascends)

pub returns-clause-alive : goal.returns-clause-alive
returns-clause-alive c =
    clauses.found_alive c.args.m.now.state.processes c.in-Some.field-0 c.args.root (subst
    (λ (ps : List Process). (c.in-Some.field-0 < length ps)
    × (slice_get ps c.in-Some.field-0 ≡ process_at ps c.args.root))
    (ap (λ (t : State). t.processes) c.st.view_is) c.in-Some.ensures.found)

pub returns-clause-no_process : goal.returns-clause-no_process
returns-clause-no_process c = (
  λ is. absurd (cc),
  λ dead.
      let alive = clauses.found_alive c.args.m.now.state.processes c.in-Some.field-0 c.args.root (subst
      (λ (ps : List Process). (c.in-Some.field-0 < length ps)
      × (slice_get ps c.in-Some.field-0 ≡ process_at ps c.args.root))
      (ap (λ (t : State). t.processes) c.st.view_is) c.in-Some.ensures.found) in
      absurd (grind (arith, dead, alive)),
)

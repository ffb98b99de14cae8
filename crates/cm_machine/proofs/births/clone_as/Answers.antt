use Rattle.std.proofs.Common.{◌≡◌, ℕ, ◌<◌, length, Option, Some, slice_get, sym, ◌∙◌, ap, subst}
use Rattle.std.specs.Prelude.{IsSomeAnd}
use Rattle.cm_machine.proofs.Changing.{both_keep, there_at}
use Rattle.cm_machine.proofs.births.clone_as.Goals as goal
use Rattle.model_cred.specs.Process.{Process, State}
use Rattle.model_cred.specs.Space.{Space}

pub add_both-requires-clause-parent : goal.add_both-requires-clause-parent
add_both-requires-clause-parent c =
    let items : c.state.inside.procs ≡ c.args.state.now.processes = ap (λ (s : State). s.processes) c.state.view_is in
    let p = there_at c.state.inside.procs c.args.at _ (rw items c.requires.here) c.state.invariant.1 in
    let there : slice_get c.args.state.now.processes c.args.at ≡ Some p.0 = rw (sym items) p.1 in
    subst (λ (o : Option ℕ). IsSomeAnd o (λ n. n < length c.state.inside.spaces)) (sym (ap (λ (s : Space). s.parent) (c.made_for-made.ensures p.0 there))) p.2

pub invariant_of-state : goal.invariant_of-state
invariant_of-state c = (
  c.add_both.ensures.still,
  both_keep c.add_both.result c.state.inside.procs c.add_both.new.procs _ c.state.inside.spaces c.add_both.new.spaces _ c.state.invariant.1
      (ap (λ (p : Process). p.space) c.come_into.ensures ∙ c.count.ensures) c.add_both.ensures.child c.add_both.ensures.space
      c.add_both.ensures.unchanged c.add_both.ensures.same_spaces,
)

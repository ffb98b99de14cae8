use Rattle.std.proofs.Common.{sym, inl, inr}
use Rattle.cm_strace.proofs.Unchanged.{after_id, after_child, after_error, after_other}
use Rattle.cm_strace.proofs.acts.change.Goals as goal

pub returns-in-SetNs-clause-changed : goal.returns-in-SetNs-clause-changed
returns-in-SetNs-clause-changed c = rw (c.in-Done.is, c.in-SetNs.is) c.move_to.ensures.changed

pub returns-in_default-clause-changed : goal.returns-in_default-clause-changed
returns-in_default-clause-changed c =
    rw c.in-Done.is
    (sym (after_other c.args.pid c.args.call.now c.args.parts.now.known c.in_default.not-Unshare c.in_default.not-SetNs
    c.in_default.not-Exec))

pub returns-in-Id-clause-changed : goal.returns-in-Id-clause-changed
returns-in-Id-clause-changed c = elim c.in-Id.is [
  | inl is ↦ rw is.1 (sym (after_id c.args.pid c.args.call.now is.0 c.args.parts.now.known))
  | inr (inl is) ↦ rw is.1 (sym (after_child c.args.pid c.args.call.now is.0 c.args.parts.now.known))
  | inr (inr is) ↦ rw is.1 (sym (after_error c.args.pid c.args.call.now is.0 c.args.parts.now.known))
]

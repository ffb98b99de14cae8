use Rattle.std.proofs.Common.{◌≡◌, ap, refl, ◌∙◌}
use Rattle.cm_filter.specs.Filters.{both}
use Rattle.cm_machine.proofs.Sharing.{all_share, share_next, shared_all, still_kinds}
use Rattle.cm_machine.proofs.filters.shared_by.Goals as goal
use Rattle.model_run.specs.Own.{filter_of}

pub loop-pid-init : goal.loop-pid-init
loop-pid-init c = record {
  kinds = rw c.every_kind-shared.ensures refl;
  members = rw c.every_kind-shared.ensures (all_share c.args.state.now c.args.members.now);
}

pub loop-pid-preserved : goal.loop-pid-preserved
loop-pid-preserved c =
    let s = c.args.state.now in
    let shared = c.loop-pid.shared in
    let pid = c.pid-item.result in
    let made : c.shared-shared.result ≡ both shared (filter_of s pid)
    = c.shared-shared.ensures ∙ ap (both shared) c.filter_of.ensures in
    record {
      kinds = rw made (still_kinds shared (filter_of s pid) c.loop-pid.invariant.kinds);
      members = rw made
          (share_next s c.args.members.now c.loop-pid.pid-index pid shared c.loop-pid-test.true c.pid-item.is
          ∙ c.loop-pid.invariant.members);
    }

pub returns : goal.returns
returns c =
    shared_all c.args.state.now c.args.members.now c.loop-pid.pid-index c.loop-pid.shared c.loop-pid-test.false
    c.loop-pid.invariant.kinds c.loop-pid.invariant.members

use Rattle.std.proofs.Common.{◌≡◌, ◌<◌, length}
use Rattle.std.specs.List.{list_any}
use Rattle.cm_exec.proofs.counts.is_root_above.Given as goal
use Rattle.model_cred.specs.Space.{chain, space_of}
use Rattle.model_rules.specs.FileView.{is_same_id}
use Rattle.model_rules.specs.Zero.{zero_of}

abbrev pub invariant-loop-parent : goal.invariant-loop-parent
invariant-loop-parent l = record {
  stands : l.n.0 < length l.spaces;
  same : list_any (λ m. is_same_id l.root (zero_of (space_of l.spaces m))) (chain l.spaces l.n.0)
      ≡ list_any (λ m. is_same_id l.root (zero_of (space_of l.spaces m))) (chain l.spaces l.fn.at.0);
}

abbrev pub decreases-loop-parent : goal.decreases-loop-parent
decreases-loop-parent l = l.n.0

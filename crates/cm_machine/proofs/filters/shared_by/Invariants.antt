use Rattle.std.proofs.Common.{◌≡◌, drop}
use Rattle.cm_filter.specs.Filters.{both, every_kind}
use Rattle.model_run.specs.Own.{shared_filter}
use Rattle.cm_machine.proofs.filters.shared_by.Given as goal

-- What was shared so far are kinds; and that, and what the others share, is what all share.
abbrev pub invariant-loop-pid : goal.invariant-loop-pid
invariant-loop-pid l = record {
  kinds : both l.shared every_kind ≡ l.shared;
  members : both l.shared (shared_filter l.state (drop l.pid-index l.members)) ≡ shared_filter l.state l.members;
}

use Rattle.std.proofs.Common.{◌≡◌, not, ap, ◌∙◌}
use Rattle.std.proofs.Math.Bool.{not-not}
use Rattle.cm_filter.specs.Filters.{Filter, excludes, permits}
use Rattle.cm_machine.proofs.Changing.{same_there}
use Rattle.cm_machine.proofs.filters.is_excluded.Goals as goal
use Rattle.cm_state.specs.Call.{call_of}
use Rattle.model_cred.specs.Call.{kind_of}
use Rattle.model_cred.specs.Process.{Process}

pub returns : goal.returns
returns c = λ p there.
    let it : c.index-p.result.now ≡ p
    = same_there c.procs.inside.list.items c.args.at c.index-p.result.now p (rw c.procs.view_is c.requires) c.index-p.ensures
    (rw c.procs.view_is there) in
    let filter : c.p.inside.filter ≡ p.filter = ap (λ (q : Process). q.filter) (c.p.view_is ∙ it) in
    ap not (c.permits.ensures ∙ ap (λ (f : Filter). permits f c.kind.result) filter ∙ ap (permits p.filter) c.kind.ensures)
    ∙ not-not (excludes p.filter (kind_of (call_of c.args.call.now)))

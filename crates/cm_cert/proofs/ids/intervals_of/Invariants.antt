use Rattle.std.proofs.Common.{◌≡◌, drop}
use Rattle.cm_cert.proofs.Items.{before}
use Rattle.cm_cert.proofs.ids.intervals_of.Given as goal
use Rattle.model_cert.specs.Sets.{intervals_of}
use Rattle.serde_json.specs.View.{items_view}

abbrev pub invariant-loop-item : goal.invariant-loop-item
invariant-loop-item l =
    before l.list.items (intervals_of (items_view (drop l.item-index l.items))) ≡ intervals_of (items_view l.items)

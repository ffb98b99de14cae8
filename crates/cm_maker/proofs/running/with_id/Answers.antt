use Rattle.std.proofs.Common.{◌≡◌, ℕ}
use Rattle.cm_box_rows.proofs.GainedRows.{or_more}
use Rattle.cm_box_rows.proofs.IdKinds.{spread_same}
use Rattle.cm_box_rows.specs.Kinds.{SpreadsId}
use Rattle.cm_box_rows.specs.Rows.{RowHolds}
use Rattle.cm_idset.specs.Held.{Held}
use Rattle.cm_maker.proofs.Runs.{either_same}
use Rattle.cm_maker.proofs.running.with_id.Goals as goal

pub returns : goal.returns
returns c =
    or_more c.joined.result _ _ c.joined.ensures (λ r is.
    either_same r (RowHolds c.args.row.now) (RowHolds c.in_ok-gained.gained)
    (SpreadsId c.args.kind (RowHolds c.args.row.now) (λ (x : ℕ). x ≡ c.args.id))
    (spread_same (RowHolds c.args.row.now) c.args.kind (Held c.in_ok-one.one) (λ (x : ℕ). x ≡ c.args.id) (RowHolds c.in_ok-gained.gained)
    c.in_ok-one.ensures.members c.in_ok-gained.ensures) is)

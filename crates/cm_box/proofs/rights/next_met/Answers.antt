use Rattle.std.proofs.Common.{sym}
use Rattle.cm_box_rows.proofs.Chains.{next_end}
use Rattle.cm_box.proofs.rights.next_met.Goals as goal
use Rattle.cm_box_rows.specs.Rights.{NextMet}
use Rattle.cm_box_rows.specs.Rows.{RowHolds}

pub returns-in-None : goal.returns-in-None
returns-in-None c =
    let spaces = c.args.spaces.now in
    let at = c.loop-parent.at.0 in
    let parent = sym c.in-None.ensures.parent in (
      λ wrong. absurd (cc),
      λ met.
          let up : NextMet spaces (RowHolds c.args.row.now) c.args.a.0 at = c.loop-parent.invariant.same.1 met in
          absurd (next_end spaces c.args.a.0 at up.0 c.in-None.ensures.chain parent up.1),
    )

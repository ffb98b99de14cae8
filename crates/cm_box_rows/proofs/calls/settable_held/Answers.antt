use Rattle.std.specs.Prelude.{IsTrue}
use Rattle.cm_base.specs.CapSet.{holds}
use Rattle.cm_idset.specs.Held.{Held}
use Rattle.model_rules.specs.Caps.{cap_setuid, cap_setgid}
use Rattle.cm_box_rows.proofs.CallRules.{settable_within_told}
use Rattle.cm_box_rows.proofs.calls.settable_held.Goals as goal

pub returns-in-Users : goal.returns-in-Users
returns-in-Users c = rw (c.in-Users.is, ← c.row.view_is) (settable_within_told c.settable_within.result (Held c.row.inside.u)
    (Held c.row.inside.mu) (Held c.args.bound.now) (IsTrue c.holds.result) (IsTrue (holds c.row.inside.p.0 cap_setuid))
    c.holds.ensures c.settable_within.ensures)

pub returns-in-Groups : goal.returns-in-Groups
returns-in-Groups c = rw (c.in-Groups.is, ← c.row.view_is) (settable_within_told c.settable_within-in-Groups.result (Held c.row.inside.g)
    (Held c.row.inside.mg) (Held c.args.bound.now) (IsTrue c.holds-in-Groups.result) (IsTrue (holds c.row.inside.p.0 cap_setgid))
    c.holds-in-Groups.ensures c.settable_within-in-Groups.ensures)

use Rattle.std.specs.Prelude.{IsTrue}
use Rattle.cm_base.specs.CapSet.{holds}
use Rattle.cm_idset.specs.Held.{Held}
use Rattle.model_rules.specs.Caps.{cap_setuid, cap_setgid}
use Rattle.cm_box_rows.proofs.GainedRows.{or_more, settable_is}
use Rattle.cm_box_rows.proofs.gained.settable_ids.Goals as goal

pub returns-in-Users : goal.returns-in-Users
returns-in-Users c = rw (c.in-Users.is, ← c.row.view_is) (or_more c.settable.result _ _ c.settable.ensures (λ ids is.
    settable_is (Held ids) (Held c.row.inside.u) (Held c.row.inside.mu) (IsTrue c.holds.result)
    (IsTrue (holds c.row.inside.p.0 cap_setuid)) c.holds.ensures is))

pub returns-in-Groups : goal.returns-in-Groups
returns-in-Groups c = rw (c.in-Groups.is, ← c.row.view_is) (or_more c.settable-in-Groups.result _ _ c.settable-in-Groups.ensures (λ ids is.
    settable_is (Held ids) (Held c.row.inside.g) (Held c.row.inside.mg) (IsTrue c.holds-in-Groups.result)
    (IsTrue (holds c.row.inside.p.0 cap_setgid)) c.holds-in-Groups.ensures is))

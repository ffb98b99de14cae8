use Rattle.cm_box_rows.proofs.calls.spread_held.Goals as goal

pub returns-in-Users : goal.returns-in-Users
returns-in-Users c = rw (c.in-Users.is, ← c.row.view_is) c.within_both.ensures

pub returns-in-Groups : goal.returns-in-Groups
returns-in-Groups c = rw (c.in-Groups.is, ← c.row.view_is) c.within_both-in-Groups.ensures

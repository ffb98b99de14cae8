use Rattle.cm_box_rows.proofs.coming.fresh_ids.Goals as goal

pub returns-in-Users : goal.returns-in-Users
returns-in-Users c = rw c.in-Users.is c.fresh_uids.ensures

pub returns-in-Groups : goal.returns-in-Groups
returns-in-Groups c = rw c.in-Groups.is c.fresh_gids.ensures

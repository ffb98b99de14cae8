use Rattle.cm_box_rows.proofs.spread.new_ids_held.Goals as goal

pub returns-in-Users : goal.returns-in-Users
returns-in-Users c = rw c.in-Users.is c.new_uids_held.ensures

pub returns-in-Groups : goal.returns-in-Groups
returns-in-Groups c = rw c.in-Groups.is c.new_gids_held.ensures

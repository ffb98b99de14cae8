use Rattle.cm_idmap.proofs.down.extent_down.Given as goal

abbrev pub ghosts-extent_in : goal.ghosts-extent_in
ghosts-extent_in a = record { name = a.blank.name; parts = a.blank.parts }

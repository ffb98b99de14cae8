use Rattle.cm_idmap.proofs.map.IdMap.down.Given as goal

abbrev pub ghosts-down_in : goal.ghosts-down_in
ghosts-down_in a = record { name = a.blank.name; parts = a.blank.parts }

use Rattle.cm_idmap.proofs.map.IdMap.up.Given as goal

abbrev pub ghosts-up_in : goal.ghosts-up_in
ghosts-up_in a = record { name = a.blank.name; parts = a.blank.parts }

-- What holds of each world that a text declares, as the contract of `laws` states it.
use Rattle.cm_world.specs.Laws.{ReadWorldsKeep}
use Rattle.model_text.proofs.Keeping.{start_keeps}

pub read_worlds_keep : ReadWorldsKeep
unfolding ReadWorldsKeep
read_worlds_keep = start_keeps

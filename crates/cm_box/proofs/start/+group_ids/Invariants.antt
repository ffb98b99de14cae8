use Rattle.std.proofs.Common.{length}
use Rattle.cm_box.proofs.start.+group_ids.Given as goal

abbrev pub decreases-group_ids : goal.decreases-group_ids
decreases-group_ids l = length l.groups.now

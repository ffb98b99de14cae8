use Rattle.std.proofs.Common.{◌≡◌, ◌<◌, ◌^◌, drop}
use Rattle.model_cred.specs.Intervals.{ascend_from, is_canonical}
use Rattle.cm_idset.proofs.ascending.ascends.Given as goal

abbrev pub invariant-loop-ids : goal.invariant-loop-ids
invariant-loop-ids l = record {
  fits : l.low < 2 ^ 33;
  rest : ascend_from l.low (drop l.ids-index l.list) ≡ is_canonical l.list;
}

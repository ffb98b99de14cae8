use Rattle.std.proofs.Common.{arith, rules}
use Rattle.std.specs.Prelude.{nat_lt}
use Rattle.std.proofs.lemmas.Grind.{common_steps}
use Rattle.std.proofs.lemmas.List.Sorted.{IsPartitionPoint-from_clause}
use Rattle.std.proofs.lemmas.Option.{gets}
use Rattle.model_cred.specs.Intervals.{Interval}
use Rattle.cm_idset.proofs.Halves.{ends_first, held_at}
use Rattle.cm_idset.proofs.lookup.holds.Goals as goal

pub returns-in-Some : goal.returns-in-Some
returns-in-Some c =
    let point = IsPartitionPoint-from_clause (λ (i : Interval). nat_lt i.last c.args.id)
    c.args.list.now c.partition_point-at.result c.partition_point-at.ensures.partitioned
    (ends_first c.args.list.now c.args.id c.requires) (λ a r q k. search rules) in
    let held = held_at 0 c.args.list.now c.args.id c.partition_point-at.result c.requires point in
    grind (arith, common_steps, gets, held, c.ids.view_is)

pub returns-in-None : goal.returns-in-None
returns-in-None c =
    let point = IsPartitionPoint-from_clause (λ (i : Interval). nat_lt i.last c.args.id)
    c.args.list.now c.partition_point-at.result c.partition_point-at.ensures.partitioned
    (ends_first c.args.list.now c.args.id c.requires) (λ a r q k. search rules) in
    let held = held_at 0 c.args.list.now c.args.id c.partition_point-at.result c.requires point in
    grind (arith, common_steps, gets, held)

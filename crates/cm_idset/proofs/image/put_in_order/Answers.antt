use Rattle.std.proofs.Common.{rules}
use Rattle.std.proofs.lemmas.List.Sorted.{IsNonDecreasingBy-from_sort_by_key}
use Rattle.model_cred.specs.Intervals.{Interval}
use Rattle.cm_idset.proofs.Sorted.{held_permuted, sorted_order}
use Rattle.cm_idset.proofs.image.put_in_order.Goals as goal

pub returns-clause-order : goal.returns-clause-order
returns-clause-order c =
    let up = IsNonDecreasingBy-from_sort_by_key (λ (i : Interval). i.first) _ c.sort_unstable_by_key.ensures.sorted (λ a r q k. search rules) in
    sorted_order c.args.list.now.items _ c.sort_unstable_by_key.ensures.permutation c.requires up

pub returns-clause-holds : goal.returns-clause-holds
returns-clause-holds c = held_permuted c.args.list.now.items _ c.sort_unstable_by_key.ensures.permutation

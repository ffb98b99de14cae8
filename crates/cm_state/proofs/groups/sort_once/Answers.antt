-- What is left after the sort and the dropping of repeats is the set of the list.
use Rattle.std.proofs.Common.{◌∙◌}
use Rattle.std.proofs.lemmas.List.Filters.{dedup_is}
use Rattle.cm_state.proofs.IdSets.{set_of_sorted}
use Rattle.cm_state.proofs.groups.sort_once.Goals as goal

pub returns : goal.returns
returns c =
    let is = dedup_is _ _ _ c.dedup.ensures.filtered in
    let of = set_of_sorted _ _ c.sort_unstable.ensures.permutation c.sort_unstable.ensures.sorted (rw c.deref.ensures.value at c.see_ids.ensures) in
    record {
      set = is ∙ of.is;
      ascends = ∣ rw is of.ascends ∣₁;
    }

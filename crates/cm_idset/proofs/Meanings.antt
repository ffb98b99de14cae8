-- A canonical list is told by what it holds.
use Rattle.cm_base.proofs.CapSets.{same_tests}
use Rattle.model_cred.specs.Intervals.{ids_hold}
use Rattle.model_cred.proofs.Intervals.{one_list}
use Rattle.cm_idset.specs.Laws.{OneMeaningOneList}

pub one_meaning_one_list : OneMeaningOneList
one_meaning_one_list one other is are same =
    one_list 0 0 one other is are (λ id. same_tests (ids_hold one id) (ids_hold other id) (same id).0 (same id).1)

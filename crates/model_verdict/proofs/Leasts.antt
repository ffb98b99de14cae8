-- Least bounds.
use Rattle.model_box.proofs.Stated.{meets_more}
use Rattle.model_verdict.specs.Least.{OneLeast, LeastMeetIfAllDo, LeastWithinLists, listed}

pub one_least : OneLeast
unfolding OneLeast
one_least permitted files s members bounds other one two row part x =
    (one.within other two.encloses row part x, two.within bounds one.encloses row part x)

pub least_meet : LeastMeetIfAllDo
unfolding LeastMeetIfAllDo
least_meet permitted files s members right bounds least = (
  λ met other encloses. meets_more s.spaces bounds other (least.within other encloses) right met,
  λ all. all bounds least.encloses,
)

pub least_within_lists : LeastWithinLists
unfolding LeastWithinLists
least_within_lists permitted files s members bounds least rows encloses = least.within (listed rows) encloses

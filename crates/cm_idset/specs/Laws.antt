-- What holds of lists of intervals; proved once, for all that is built on them.
use Rattle.std.specs.Prelude.{◌≡◌, List}
use Rattle.cm_sets.specs.Sets.{AreSame}
use Rattle.model_cred.specs.Intervals.{Interval, IsCanonical}
use Rattle.cm_idset.specs.Held.{Held}

-- Two canonical lists that hold the same ids are one.
abbrev pub OneMeaningOneList : Type 0
OneMeaningOneList = (one other : List Interval) → IsCanonical one → IsCanonical other → AreSame (Held one) (Held other) → one ≡ other

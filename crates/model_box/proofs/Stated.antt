-- The laws as the contracts of `laws` state them, over bounds that tests give.
use Rattle.std.proofs.Common.{refl}
use Rattle.model_box.specs.Laws.{tested, Soundness, Exclusion, CoversAtStart, Monotone, MeetsMore, PermitsMore, ClosedForFewer}
use Rattle.model_box.specs.Laws.{common, ClosedInCommon, StandingApart, ExcludedRulesAddNothing, KeptStatesFit, KeptFilesFit}
use Rattle.model_box.specs.Laws.{FilesOfWorldsFit, RowsByNumber, RulesByNumber}
use Rattle.std.proofs.lemmas.Bool.{and_parts, and_from}
use Rattle.cm_filter.specs.Filters.{permits}
use Rattle.model_run.specs.Own.{common_filter}
use Rattle.model_run.proofs.Filters.{own_is_common}
use Rattle.model_box.specs.Row.{row_number}
use Rattle.model_box.specs.Rule.{SetUid}
use Rattle.model_box.proofs.Excludes as ends
use Rattle.model_box.proofs.Monotone as more
use Rattle.model_box.proofs.Monotone.{adds_more}
use Rattle.model_box.proofs.Starts as starts
use Rattle.model_box.proofs.Worlds.{files_fit, run_fits, state_fits}

pub soundness : Soundness
soundness w s members bounds fits files covers closed events later members_then run =
    ends.soundness (permits (common_filter w s members)) (permits w.filter) w s members (tested bounds) (ends.fits_starts s fits) files covers closed
    (λ pid member kind may. own_is_common w s members pid kind member may)
    events later members_then run

pub exclusion : Exclusion
exclusion w s members bounds right fits files standing covers closed apart events later members_then run pid member =
    ends.exclusion (permits (common_filter w s members)) (permits w.filter) w s members (tested bounds) (ends.fits_starts s fits) files covers closed
    (λ pid member kind may. own_is_common w s members pid kind member may) right standing apart
    events later members_then run pid member

pub covers_at_start : CoversAtStart
covers_at_start s members bounds fits = (starts.covers_start s members (tested bounds) fits, starts.holds_start s members (tested bounds))

pub monotone : Monotone
monotone permitted files spaces bounds wider within rule row part x added =
    adds_more permitted files spaces (tested bounds) (tested wider) within rule row part x added

pub meets_more : MeetsMore
meets_more spaces bounds wider within right met = more.meets_more spaces (tested bounds) (tested wider) within right met

pub permits_more : PermitsMore
permits_more permitted wider within files spaces bounds rule row part x added =
    more.permits_more permitted wider within files spaces (tested bounds) rule row part x added

pub closed_for_fewer : ClosedForFewer
closed_for_fewer permitted wider within files spaces bounds closed = more.closed_for_fewer permitted wider within files spaces (tested bounds) closed

pub standing_apart : StandingApart
standing_apart permitted files spaces bounds other within rule n part x added =
    starts.standing_apart permitted files spaces (tested bounds) (tested other) within rule n part x added

pub excluded_rules_add_nothing : ExcludedRulesAddNothing
excluded_rules_add_nothing permitted files spaces bounds rule none row part x added =
    starts.excluded_adds_nothing permitted files spaces (tested bounds) rule none row part x added

pub rows_by_number : RowsByNumber
rows_by_number = record { row = starts.row_back; number = starts.number_back }

pub rules_by_number : RulesByNumber
rules_by_number SetUid = refl
rules_by_number _ = refl

pub kept_states_fit : KeptStatesFit
kept_states_fit s keeps = state_fits s keeps

pub kept_files_fit : KeptFilesFit
kept_files_fit files spaces keeps standing = files_fit files spaces keeps standing

pub files_of_worlds_fit : FilesOfWorldsFit
files_of_worlds_fit w keeps events later run = run_fits w keeps events later run

pub closed_in_common : ClosedInCommon
closed_in_common permitted files spaces bounds other first second rule row standing part x added =
    and_from (bounds (row_number row) part x) (other (row_number row) part x)
    (first rule row standing part x
    (adds_more permitted files spaces (tested (common bounds other)) (tested bounds)
    (λ r p y both. (and_parts (bounds (row_number r) p y) (other (row_number r) p y) both).0) rule row part x added))
    (second rule row standing part x
    (adds_more permitted files spaces (tested (common bounds other)) (tested other)
    (λ r p y both. (and_parts (bounds (row_number r) p y) (other (row_number r) p y) both).1) rule row part x added))

-- What a shelf counts that never fails.
use Rattle.cm_io.specs.declared.counts.Counts.{Counts}
use Rattle.cm_io.specs.declared.sure.SureShelf.{SureShelf}

-- what is counted for each name
abbrev pub sure_counts : SureShelf → Counts
sure_counts shelf = shelf.files.counts

-- Lines of a report one after another: their text, and those of plain text.
use Rattle.std.proofs.Common.{◌≡◌, ◌≢◌, List, [], ◌∷◌, ◌++◌, refl, ap}
use Rattle.std.proofs.lemmas.Grind.{flat_map-append}
use Rattle.cm_base.specs.declared.status.Status.{Status}
use Rattle.cm_base.specs.declared.status.Status.TheVariants as status
use Rattle.model_report.specs.Replay.{ReportLine, Plain, line_text, plain_lines, silenced, text_of}

-- the text of lines and then more lines
pub text_of_append : (a b : List ReportLine) → text_of (a ++ b) ≡ text_of a ++ text_of b
text_of_append a b = flat_map-append (λ line. line_text line ++ 10 ∷ []) a b

-- those of plain text among lines and then more lines
pub plain_append : (one more : List ReportLine) → plain_lines (one ++ more) ≡ plain_lines one ++ plain_lines more
plain_append [] more = refl
plain_append (Plain text ∷ one) more = ap (λ (ls : List ReportLine). Plain text ∷ ls) (plain_append one more)
plain_append (_ ∷ one) more = plain_append one more

-- of a report that isn't accepted those of plain text are left
pub silenced_other : (st : Status) (lines : List ReportLine) → st ≢ status.Accepted → silenced st lines ≡ plain_lines lines
silenced_other status.Accepted lines other = absurd (other refl)
silenced_other _ lines other = refl

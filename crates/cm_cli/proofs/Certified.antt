-- What bounds are found to be, and the report of a certificate, by what the code found.
use Rattle.std.proofs.Common.{◌≡◌, ◌∙◌, ℕ, List, Result, Ok, refl, subst, sym, ap}
use Rattle.std.specs.Prelude.{IfOk}
use Rattle.cm_base.specs.declared.status.Status.{Status}
use Rattle.cm_box.specs.Rules.{rule_of}
use Rattle.cm_box.specs.declared.rules.Rule.{Rule}
use Rattle.cm_cli.proofs.Auditing.{put_as}
use Rattle.cm_cli.specs.Checking.{checked_of}
use Rattle.cm_cli.specs.Put.{IsPut}
use Rattle.cm_filter.specs.Filters.{Filter, permits}
use Rattle.cm_sound.specs.Judged as code
use Rattle.cm_sound.specs.declared.checked.Checked as found
use Rattle.cm_sound.specs.declared.checked.Checked.TheVariants as found_as
use Rattle.model_box.proofs.Starts.{number_back}
use Rattle.model_box.specs.Bounds.{BoxRow}
use Rattle.model_box.specs.Firsts.{IsFirstLacking, IsFirstOpen}
use Rattle.model_cert.specs.Fault.{CertFault}
use Rattle.model_cred.specs.Process.{State}
use Rattle.model_cred.specs.Right.{Right}
use Rattle.model_cred.specs.World.{World}
use Rattle.model_report.specs.Answer.{certificate_report, checked_report}
use Rattle.model_report.specs.Checked.{Checked, IsChecked, RowsHold}
use Rattle.model_report_laws.proofs.Judging.{checked_once}
use Rattle.model_run.specs.Own.{common_filter}

-- What the code's check says of what it found, case by case.
module _ (w : World) (s : State) (members : List ℕ) (right : Right) (rows : List BoxRow) where
  pub is_checked : (x : found.Checked) → ((y : ℕ) → x ≡ found_as.NotStart y
      → IsFirstLacking s members (RowsHold rows) y)
      → ((rule : Rule) (y : ℕ) → x ≡ found_as.NotClosed rule y → code.IsFirstOpenIn w s members rows rule y)
      → ((y : ℕ) → x ≡ found_as.Meets y → code.IsFirstMetIn w s members rows right y)
      → (x ≡ found_as.Holds → code.Excludes w s members rows right) → IsChecked w s members right rows (checked_of x)
  is_checked (found_as.NotStart y) start closed meets holds =
      subst (λ (n : ℕ). IsFirstLacking s members (RowsHold rows) n) (sym (number_back y)) (start y refl)
  is_checked (found_as.NotClosed rule y) start closed meets holds =
      let here = closed rule y refl in
      record {
        covers = here.covers;
        first =
            let common : Filter = common_filter w s members in
            subst (λ (n : ℕ). IsFirstOpen (permits common) w.files s.spaces (RowsHold rows) (rule_of rule) n)
            (sym (number_back y)) here.first;
      }
  is_checked (found_as.Meets y) start closed meets holds =
      let here = meets y refl in record { encloses = here.encloses; first = here.first }
  is_checked found_as.Holds start closed meets holds =
      let here = holds refl in record { encloses = here.encloses; apart = here.apart }

  -- so it is what is judged
  pub same_checked : (x : found.Checked) (checked : Checked) → IsChecked w s members right rows (checked_of x)
      → IsChecked w s members right rows checked → checked ≡ checked_of x
  same_checked x checked is are = checked_once w s members right rows checked (checked_of x) are is

-- the report of a certificate that is read
pub checked_put : {E : Type 0} (res : Result Status E) (w : World) (s : State) (members : List ℕ) (right : Right)
    (rows : List BoxRow)
    (x : found.Checked) (checked : Checked) (read : Result (List BoxRow) CertFault) (old new : List ℕ) → read ≡ Ok rows
    → IsChecked w s members right rows (checked_of x) → IsChecked w s members right rows checked
    → IfOk res (λ st. IsPut (checked_report w s.spaces (checked_of x)) old new st)
    → IfOk res (λ st. IsPut (certificate_report w s.spaces checked read) old new st)
checked_put res w s members right rows x checked read old new reads is are put =
    put_as res old new (checked_report w s.spaces (checked_of x)) (certificate_report w s.spaces checked read)
    (ap (λ (r : Result (List BoxRow) CertFault). certificate_report w s.spaces checked r) reads
    ∙ ap (λ (found : Checked). checked_report w s.spaces found) (same_checked w s members right rows x checked is are))
    put

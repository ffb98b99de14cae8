-- What comes of a claim whose query stands: what its file is answered by, once it is read, and where it is too long.
use Rattle.std.proofs.Common.{◌≡◌, ◌<◌, ◌≤◌, ◌∙◌, ℕ, List, length, Result, Ok, Err, IfOk, refl, subst, sym, ap}
use Rattle.cm_audit.specs.declared.verdict.Question.{Question}
use Rattle.cm_base.specs.declared.limited.Limited.{Limited}
use Rattle.cm_base.specs.Limited.{limit_number}
use Rattle.cm_base.specs.declared.status.Status.{Status}
use Rattle.cm_cli.proofs.Auditing.{certificate_given, certificate_past, certificate_told, claim_answer, put_as}
use Rattle.cm_cli.proofs.Auditing.{run_past}
use Rattle.cm_cli.specs.Asking.{IsQuestion}
use Rattle.cm_cli.specs.Claims.{IsTooMuch}
use Rattle.cm_cli.specs.Put.{IsPut}
use Rattle.cm_cli.specs.Query.{limit_of, task_by}
use Rattle.cm_cli.specs.Reading.{IsFileRead}
use Rattle.cm_cli.specs.declared.query.ClaimKind.{ClaimKind}
use Rattle.cm_cli.specs.declared.query.ClaimKind.TheVariants as kind
use Rattle.cm_cli.specs.declared.reading.Unread.{Unread}
use Rattle.cm_cli.specs.declared.reading.Unread.TheVariants as unread
use Rattle.cm_state.specs.Right.{right_of}
use Rattle.model_box.specs.Bounds.{BoxRow}
use Rattle.model_cert.specs.Document.{certificate}
use Rattle.model_cred.specs.Process.{State}
use Rattle.model_cred.specs.Right.{Right}
use Rattle.model_cred.specs.World.{World}
use Rattle.model_report.specs.Answer.{certificate_report, query_answer, task_report}
use Rattle.model_report.specs.Checked.{Checked, IsChecked}
use Rattle.model_report.specs.Given.{StateGives}
use Rattle.model_report.specs.Judged.{Judged}
use Rattle.model_report.specs.Query.{Query}
use Rattle.model_report.specs.Replay.{Report, limit_hit}

module _ (q : Query) (w : World) (s : State) (question : Question) (is : IsQuestion q w s question) where
  -- the answer is that for the members and the right
  pub claim_told : (k : ClaimKind) (text : List ℕ) (j : Judged)
      → query_answer (task_by k q text) j w s q ≡ task_report (task_by k q text) j w s question.members.items
      (right_of question.right)
  claim_told k text j =
      claim_answer q w s is.process (right_of question.right) is.asks question.members.items is.members
      (task_by k q text) j

  past : (k : ClaimKind) (text : List ℕ) (j : Judged) → limit_number (limit_of k) < length text
      → task_report (task_by k q text) j w s question.members.items (right_of question.right) ≡ limit_hit (limit_of k)
  past kind.Certificate text j over =
      certificate_past q w s is.process (right_of question.right) is.asks question.members.items is.members text j over
  past kind.Run text j over =
      run_past q w s is.process (right_of question.right) is.asks question.members.items is.members text j over

  -- a file that is too long
  pub claim_past : (k : ClaimKind) (text : List ℕ) (j : Judged) → limit_number (limit_of k) < length text
      → query_answer (task_by k q text) j w s q ≡ limit_hit (limit_of k)
  claim_past k text j over = claim_told k text j ∙ past k text j over

  -- what is put of a file that was read
  pub claim_put : (k : ClaimKind) (text bytes : List ℕ) (j : Judged) (old new : List ℕ) (st : Status) → text ≡ bytes
      → StateGives (task_by k q bytes) w s j
      → (StateGives (task_by k q text) w s j
      → IsPut (task_report (task_by k q text) j w s question.members.items (right_of question.right)) old new st)
      → IsPut (query_answer (task_by k q bytes) j w s q) old new st
  claim_put k text bytes j old new st same gives put =
      subst (λ (r : Report). IsPut r old new st)
      (ap (λ (t : List ℕ). task_report (task_by k q t) j w s question.members.items (right_of question.right)) same
      ∙ sym (claim_told k bytes j))
      (put (subst (λ (t : List ℕ). StateGives (task_by k q t) w s j) (sym same) gives))

-- what is put of a file that wasn't read
pub unread_put : {E : Type 0} (res : Result Status E) (why : Unread) (l : Limited) (bytes old new : List ℕ) (r : Report)
    → IfOk res (λ _. IsTooMuch why)
    → IfOk res (λ st. (limit : Limited) → why ≡ unread.TooMuch limit → IsPut (limit_hit limit) old new st)
    → IsFileRead l (Err why) bytes → (limit_number l < length bytes → r ≡ limit_hit l)
    → IfOk res (λ st. IsPut r old new st)
unread_put (Err e) why l bytes old new r much told read is = tt
unread_put (Ok st) (unread.TooMuch l') l bytes old new r much told (same, over) is =
    subst (λ (x : Report). IsPut x old new st) (ap limit_hit same ∙ sym (is over)) (told l' refl)
unread_put (Ok st) unread.ReadFault l bytes old new r much told read is = absurd much
unread_put (Ok st) unread.NoMemory l bytes old new r much told read is = absurd much

-- what is put of a certificate
pub certificate_put : {E : Type 0} (res : Result Status E) (q : Query) (w : World) (s : State) (question : Question)
    (k : ClaimKind)
    (text : List ℕ) (j : Judged) (old new : List ℕ) → IsQuestion q w s question → k ≡ kind.Certificate
    → length text ≤ limit_number (limit_of k)
    → StateGives (task_by k q text) w s j
    → ((checked : Checked)
    → ((rows : List BoxRow) → certificate (length s.spaces) text ≡ Ok rows
    → IsChecked w s question.members.items (right_of question.right) rows checked)
    → IfOk res (λ st. IsPut (certificate_report w s.spaces checked (certificate (length s.spaces) text)) old new st))
    → IfOk res (λ st. IsPut (task_report (task_by k q text) j w s question.members.items
    (right_of question.right)) old new st)
certificate_put res q w s question kind.Certificate text j old new is same size gives put =
    let members : List ℕ = question.members.items in
    let right : Right = right_of question.right in
    put_as res old new (certificate_report w s.spaces j.checked (certificate (length s.spaces) text))
    (task_report (task_by kind.Certificate q text) j w s members right)
    (certificate_told q w s is.process right is.asks members is.members text j size)
    (put j.checked (certificate_given q w s is.process right is.asks members is.members text j size gives))
certificate_put res q w s question kind.Run text j old new is same size gives put = absurd (cc)

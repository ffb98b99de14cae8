-- What is answered to a query after an accepted log, by what is judged, or why it is refused.
use Rattle.std.proofs.Common.{◌≡◌, ℕ, ◌<◌, ◌≤◌, Bool, true, cond, length, List, Option, Some, None, refl, sym}
use Rattle.std.proofs.Common.{◌∙◌, ap, subst}
use Rattle.std.proofs.Common.{[], ◌∷◌, ◌++◌, append_assoc, is_some, Result, Ok, slice_get, inl, inr, arith}
use Rattle.std.proofs.lemmas.Option.{slice_get_cases}
use Rattle.std.specs.Prelude.{codes, IfOk, IsSomeAnd}
use Rattle.std.proofs.lemmas.Bool.{le-ltb, lt-ltb}
use Rattle.cm_base.specs.declared.limited.Limited.TheVariants as limit
use Rattle.cm_base.specs.Limited.{limit_number}
use Rattle.cm_base.specs.declared.status.Status.{Status}
use Rattle.cm_cli.specs.Put.{IsPut}
use Rattle.cm_cli.specs.Query.{task_by}
use Rattle.cm_cli.specs.declared.query.ClaimKind.{ClaimKind}
use Rattle.cm_cli.specs.declared.query.ClaimKind.TheVariants as kind
use Rattle.cm_report.proofs.ReportText.{text_of_cons}
use Rattle.model_box.specs.Bounds.{BoxRow}
use Rattle.model_box.specs.Meets.{IsOverStanding}
use Rattle.model_cert.specs.Document.{certificate}
use Rattle.model_confirm.specs.Confirm.{confirm_of}
use Rattle.model_cred.proofs.Lookups.{pid_of_found}
use Rattle.model_cred.specs.Process.{Process, State, is_alive, process_at}
use Rattle.model_cred.specs.Right.{Right}
use Rattle.model_cred.specs.Space.{Spaces}
use Rattle.model_cred.specs.World.{World}
use Rattle.model_report.proofs.Answers.{is_not, of_asked, of_large, of_no_space}
use Rattle.model_report.specs.Answer.{answer, bad_query, certificate_line, certificate_report, undecided_text}
use Rattle.model_report.specs.Answer.{confirmed_report, query_answer, task_report}
use Rattle.model_report.specs.Causes.{Asks, AsksVerdict}
use Rattle.model_report.specs.Checked.{IsChecked}
use Rattle.model_report.specs.Given.{StateGives}
use Rattle.model_report.specs.Judged.{Judged}
use Rattle.model_report.specs.Query.{Query, asked_process, process_of, right_token}
use Rattle.model_report.specs.Replay.{Plain, Report, limit_hit, text_of}
use Rattle.model_report.specs.Task.{Task, ToCheck, ToConfirm}
use Rattle.model_run.specs.Family.{family}
use Rattle.model_text.specs.Reading.{script_reading}
use Rattle.model_text.specs.Token.{pid_token}
use Rattle.model_verdict.specs.Blame.{Blame}

-- the process that was found by a pid has that pid
pub found_named : (ps : List Process) (at pid : ℕ) → (at < length ps) × (slice_get ps at ≡ process_at ps pid)
    → IsSomeAnd (process_at ps pid) (λ p. p.pid ≡ pid)
found_named ps at pid (low, is) = elim ((slice_get_cases ps at).1) [
  | inl (p, _, there, _) ↦
      let is_p : process_at ps pid ≡ Some p = sym is ∙ there in
      subst (λ (o : Option Process). IsSomeAnd o (λ q. q.pid ≡ pid)) (sym is_p) (pid_of_found ps pid p is_p)
  | inr (past, _) ↦ absurd (grind (arith, low, past))
]

-- the process of a token is alive
alive_of : (s : State) (token : Option ℕ) (p : Process) → process_of s token ≡ Some p
    → is_alive s.processes p.pid ≡ true
alive_of s None p is = absurd (cc)
alive_of s (Some pid) p is =
    subst (λ (n : ℕ). is_alive s.processes n ≡ true) (sym (pid_of_found s.processes pid p is))
    (ap (λ (o : Option Process). is_some o) is)

module _ (q : Query) (w : World) (s : State) where
  -- the query names the live process with this pid
  abbrev pub Names : ℕ → Type 0
  Names pid = IsSomeAnd (asked_process s q.pid) (λ p. p.pid ≡ pid)

  named_by : (o : Option Process) (pid : ℕ) → asked_process s q.pid ≡ o → IsSomeAnd o (λ p. p.pid ≡ pid)
      → (p : Process) × (asked_process s q.pid ≡ Some p) × (p.pid ≡ pid)
  named_by None pid is some = absurd some
  named_by (Some p) pid is some = (p, is, some)

  named : (pid : ℕ) → Names pid → (p : Process) × (asked_process s q.pid ≡ Some p) × (p.pid ≡ pid)
  named pid some = named_by (asked_process s q.pid) pid refl some

  -- the query asks for a right of the family of that process
  asks_right : (pid : ℕ) (right : Right) → Names pid → right_token w.names q.right ≡ Some right
      → (p : Process) × Asks q w s p right × (p.pid ≡ pid)
  asks_right pid right some token = let there = named pid some in
      (there.0, record { process = there.1; asked = token }, there.2)

  pub alive : (pid : ℕ) → Names pid → is_alive s.processes pid ≡ true
  alive pid some =
      let there = named pid some in
      subst (λ (n : ℕ). is_alive s.processes n ≡ true) there.2 (alive_of s (pid_token q.pid) there.0 there.1)

  -- ---- refusals, whatever is asked and judged
  module _ (task : Task) (j : Judged) where
    pub no_space : (pid : ℕ) (right : Right) → Names pid → right_token w.names q.right ≡ Some right
        → (IsOverStanding s.spaces right → ⊥) → query_answer task j w s q ≡ bad_query (codes "space")
    no_space pid right some token none =
        let there = asks_right pid right some token in
        of_no_space q w s task j there.0 right there.1 (is_not s.spaces right _ refl none)

    pub too_large : (pid : ℕ) (right : Right) → Names pid → right_token w.names q.right ≡ Some right
        → IsOverStanding s.spaces right → limit_number limit.Family < length (family s pid)
        → query_answer task j w s q ≡ limit_hit limit.Family
    too_large pid right some token standing over =
        let there = asks_right pid right some token in
        of_large q w s task j there.0 right there.1 standing
        (subst (λ (n : ℕ). limit_number limit.Family < length (family s n)) (sym there.2) over)

  -- ---- a query that stands
  pub query_stands : (pid : ℕ) (right : Right) → Names pid → right_token w.names q.right ≡ Some right
      → IsOverStanding s.spaces right
      → length (family s pid) ≤ limit_number limit.Family → (p : Process) × AsksVerdict q w s p right × (p.pid ≡ pid)
  query_stands pid right some token standing size =
      let there = asks_right pid right some token in (
        there.0,
        record {
          asks = there.1;
          standing = standing;
          size = subst (λ (n : ℕ). length (family s n) ≤ limit_number limit.Family) (sym there.2) size;
        },
        there.2,
      )

  -- ---- a claim
  module _ (p : Process) (right : Right) (asked : AsksVerdict q w s p right) (members : List ℕ)
      (same : members ≡ family s p.pid) where
    -- the answer is that on the right and the members
    pub claim_answer : (task : Task) (j : Judged) → query_answer task j w s q ≡ task_report task j w s members right
    claim_answer task j =
        of_asked q w s task j p right asked ∙ ap (λ (ms : List ℕ). task_report task j w s ms right) (sym same)

    -- a certificate within its limit: what its rows are found to be, and the report
    pub certificate_given : (text : List ℕ) (j : Judged) → length text ≤ limit_number limit.Certificate
        → StateGives (ToCheck q text) w s j
        → (rows : List BoxRow) → certificate (length s.spaces) text ≡ Ok rows
        → IsChecked w s members right rows j.checked
    certificate_given text j size gives rows reads =
        subst (λ (ms : List ℕ). IsChecked w s ms right rows j.checked) (sym same)
        (gives p right rows asked (record { size = size; reads = reads }))

    pub certificate_told : (text : List ℕ) (j : Judged) → length text ≤ limit_number limit.Certificate
        → task_report (ToCheck q text) j w s members right ≡ certificate_report w s.spaces j.checked
        (certificate (length s.spaces) text)
    certificate_told text j size =
        ap (λ (b : Bool). cond b (limit_hit limit.Certificate)
        (certificate_report w s.spaces j.checked (certificate (length s.spaces) text)))
        (le-ltb (limit_number limit.Certificate) (length text) size)

    pub certificate_past : (text : List ℕ) (j : Judged) → limit_number limit.Certificate < length text
        → task_report (ToCheck q text) j w s members right ≡ limit_hit limit.Certificate
    certificate_past text j over =
        ap (λ (b : Bool). cond b (limit_hit limit.Certificate)
        (certificate_report w s.spaces j.checked (certificate (length s.spaces) text)))
        (lt-ltb (limit_number limit.Certificate) (length text) over)

    pub run_past : (text : List ℕ) (j : Judged) → limit_number limit.Run < length text
        → task_report (ToConfirm q text) j w s members right ≡ limit_hit limit.Run
    run_past text j over =
        ap (λ (b : Bool). cond b (limit_hit limit.Run)
        (confirmed_report (confirm_of w s members right (script_reading w text))))
        (lt-ltb (limit_number limit.Run) (length text) over)

-- ---- what is put
-- what is put as one report is put as one that is equal
pub put_as : {E : Type 0} (res : Result Status E) (old new : List ℕ) (r r' : Report) → r' ≡ r
    → IfOk res (λ st. IsPut r old new st)
    → IfOk res (λ st. IsPut r' old new st)
put_as res old new r r' same put = subst (λ (x : Report). IfOk res (λ st. IsPut x old new st)) (sym same) put

-- the answer to a claim is that to its query
claim_is : (k : ClaimKind) (q : Query) (text : List ℕ) (j : Judged) (w : World) (s : State)
    → answer (task_by k q text) j w s ≡ query_answer (task_by k q text) j w s q
claim_is kind.Certificate q text j w s = refl
claim_is kind.Run q text j w s = refl

pub claim_put : {E : Type 0} (k : ClaimKind) (q : Query) (text : List ℕ) (j : Judged) (w : World) (s : State)
    (res : Result Status E)
    (old new : List ℕ) → IfOk res (λ st. IsPut (query_answer (task_by k q text) j w s q) old new st)
    → IfOk res (λ st. IsPut (answer (task_by k q text) j w s) old new st)
claim_put k q text j w s res old new put = put_as res old new _ _ (claim_is k q text j w s) put

-- what is blamed, and then the certificate
pub undecided_put : (w : World) (spaces : Spaces) (blame : Blame) (rows : List BoxRow) (old one new : List ℕ)
    → one ≡ old ++ text_of (Plain (undecided_text w.names spaces blame) ∷ [])
    → new ≡ one ++ text_of (certificate_line rows ∷ [])
    → new ≡ old ++ text_of (Plain (undecided_text w.names spaces blame) ∷ certificate_line rows ∷ [])
undecided_put w spaces blame rows old one new first second =
    second ∙ ap (λ (t : List ℕ). t ++ text_of (certificate_line rows ∷ [])) first
    ∙ append_assoc old (text_of (Plain (undecided_text w.names spaces blame) ∷ []))
    (text_of (certificate_line rows ∷ []))
    ∙ ap (λ (t : List ℕ). old ++ t) (sym (text_of_cons (Plain (undecided_text w.names spaces blame))
    (certificate_line rows ∷ [])))
